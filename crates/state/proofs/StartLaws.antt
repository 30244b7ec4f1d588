-- Laws of specs/Start.antt.
use Prim.Native.Nat.{ℕ, zero, suc, min, ◌+◌, ◌<◌, ◌≤◌}
use Rattle.std.specs.Prelude.{◌≡◌, Bool, ◌||◌, List, get_or, ltb, Option, Some, None}
use Rattle.std.proofs.Math.Path.{refl}
use Rattle.std.proofs.Common.{sym, ◌∙◌, add-one, arith}
use Rattle.std.proofs.Math.Bool.{true, false, or-true}
use borrow.Author.Tests.{le-ltb, eq-eqb, ne_eqb, eqb-true, eqb-false, ltb-false}
use Rattle.std.proofs.Math.Dec.{eqb}
use Rattle.watch.specs.declared.given.Watch.{Watch}
use Rattle.watch.specs.Given.{lookup_of, Distinct}
use Rattle.watch.proofs.GivenLaws.{lookup_at, lookup_none}
use Rattle.reassembly.specs.declared.config.Config.{Config}
use Rattle.state.specs.State.{State, refused, accepted}
use Rattle.wire.proofs.Choice.{passed, neither}
use Rattle.state.specs.Start.{before, twice_below, twice, fresh_state, start_refusal, blank_config, start_from, start_of, Starts}

-- a receiver is started, or not
pub started : (c : Config) → start_refusal c ≡ 0 → start_of c ≡ accepted (fresh_state c)
unfolding start_from
started c e = rw (eq-eqb _ _ e)

pub not-started : (c : Config) → (start_refusal c ≡ 0 → ⊥) → start_of c ≡ refused (start_refusal c) (fresh_state blank_config)
unfolding start_from
not-started c e = rw (ne_eqb _ _ e)

pub start-fresh : (st : State) (c : Config) → start_refusal c ≡ 0 → start_from st c ≡ accepted (fresh_state c)
unfolding start_from
start-fresh st c e = rw (eq-eqb _ _ e)

pub start-kept : (st : State) (c : Config) → (start_refusal c ≡ 0 → ⊥) → start_from st c ≡ refused (start_refusal c) st
unfolding start_from
start-kept st c e = rw (ne_eqb _ _ e)

module _ (ids : List ℕ) where
  pub twice-zero : twice_below ids 0 ≡ false
  unfolding twice_below
  twice-zero = refl

  pub twice-more : (k : ℕ) → twice_below ids k ≡ false → before ids k ≡ false → twice_below ids (k + 1) ≡ false
  unfolding twice_below
  twice-more k e f = rw (add-one, e, f)

  -- one place that stands before is enough
  pub twice_hit : (k m : ℕ) → k < m → before ids k ≡ true → twice_below ids m ≡ true
  unfolding twice_below
  twice_hit k zero h e = absurd (omega arith)
  twice_hit k (suc m) h e = go (eqb k m) refl (λ l. twice_hit k m l e)
    where
      go : (b : Bool) → eqb k m ≡ b → (k < m → twice_below ids m ≡ true) → (twice_below ids m || before ids m) ≡ true
      go true t f = rw (← eqb-true k m t, e) (or-true (twice_below ids k))
      go false t f = let n = eqb-false k m t in rw (f (omega arith))

  pub before_hit : (k j : ℕ) → lookup_of (record { ids = ids; n = k }) (get_or ids k 0) ≡ Some j → before ids k ≡ true
  unfolding before
  before_hit k j e = rw e

  pub before-none : (k : ℕ) → lookup_of (record { ids = ids; n = k }) (get_or ids k 0) ≡ None → before ids k ≡ false
  unfolding before
  before-none k e = rw e

  -- where no place stands before, the ids are distinct
  pub distinct : (n : ℕ) → n ≤ 16 → twice_below ids n ≡ false → Distinct ids n
  unfolding before
  distinct n l e i j h g q = go (lookup_of w (get_or ids j 0)) refl
    where
      w : Watch
      w = record { ids = ids; n = j }

      go : (f : Option ℕ) → lookup_of w (get_or ids j 0) ≡ f → ⊥
      go (Some k) r = let z = sym (twice_hit j n g (before_hit j k r)) ∙ e in let y : ◌≡◌ {A = ℕ} 0 1 = cc in omega arith
      go None r = lookup_none w (get_or ids j 0) r i (omega arith) h q

  -- and the other way round
  pub distinct-once : (n : ℕ) → Distinct ids n → twice_below ids n ≡ false
  unfolding twice_below
  distinct-once zero d = refl
  distinct-once (suc k) d = rw (distinct-once k (λ i j h g q. d i j h (omega arith) q), go (lookup_of w (get_or ids k 0)) refl)
    where
      w : Watch
      w = record { ids = ids; n = k }

      go : (f : Option ℕ) → lookup_of w (get_or ids k 0) ≡ f → before ids k ≡ false
      go (Some j) r = let p = lookup_at w (get_or ids k 0) j r in absurd (d j k p.1 (omega arith) p.2)
      go None r = before-none k r

pub starts : (c : Config) → start_refusal c ≡ 0 → Starts c
unfolding start_refusal twice
starts c e =
    let n = c.watch.n in
    let p = passed (ltb n 1 || ltb 16 n) 1 _ (λ z. omega arith) e in
    let q = passed (twice c.watch n) 2 _ (λ z. omega arith) p.1 in
    let r = passed (ltb 4095 c.cid) 3 _ (λ z. omega arith) q.1 in
    let s = passed (ltb c.rules.limit 1 || ltb 1048576 c.rules.limit) 4 0 (λ z. omega arith) r.1 in
    let a = neither (ltb n 1) (ltb 16 n) p.0 in
    let b = neither (ltb c.rules.limit 1) (ltb 1048576 c.rules.limit) s.0 in
    let few : n ≤ 16 = ltb-false 16 n a.1 in
    let m : min n 16 ≡ n = omega arith in
    record {
      some = ltb-false n 1 a.0;
      few = few;
      once = distinct c.watch.ids n few (rw m at q.0);
      cid = ltb-false 4095 c.cid r.0;
      room = ltb-false c.rules.limit 1 b.0;
      most = ltb-false 1048576 c.rules.limit b.1;
    }

pub accepts : (c : Config) → Starts c → start_refusal c ≡ 0
unfolding start_refusal twice
accepts c s =
    let few = s.few in
    let m : min c.watch.n 16 ≡ c.watch.n = omega arith in
    rw (
      le-ltb _ _ s.some,
      le-ltb _ _ few,
      m,
      distinct-once c.watch.ids c.watch.n s.once,
      le-ltb _ _ s.cid,
      le-ltb _ _ s.room,
      le-ltb _ _ s.most,
    )
