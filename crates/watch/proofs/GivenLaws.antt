-- Laws of specs/Given.antt.
use Prim.Native.Nat.{ℕ, zero, suc, ◌+◌, ◌<◌, ◌≤◌, min}
use Rattle.std.specs.Prelude.{Bool, List, length, take, drop, get_or, Some, None}
use Rattle.std.specs.List.{position_from}
use Rattle.std.proofs.Math.Seq.{drop-cons}
use Rattle.std.proofs.Math.Numerals.{add-one}
use Rattle.std.proofs.Math.Bool.{true, false, cond}
use Rattle.std.proofs.Math.Path.{◌≡◌, refl}
use Rattle.std.proofs.Common.{sym, ◌∙◌}
use native.Mathlib.Omega.{arith}
use borrow.Author.Tests.{ne_eqb, eqb-true, eqb-false}
use Rattle.std.proofs.Math.Dec.{eqb}
use Rattle.watch.specs.declared.given.Watch.{Watch}
use Rattle.watch.specs.Given.{first_from, lookup_of, Place, Distinct}

module _ (ids : List ℕ) (id : ℕ) where
  pub first-at : (m k j : ℕ) → first_from ids id k m ≡ Some j → (Place ids id) k m j
  unfolding first_from
  first-at zero k j e = let z : ◌≡◌ {A = ℕ} 0 1 = cc in absurd (omega arith)
  first-at (suc m) k j e = go (eqb (get_or ids k 0) id) refl e (first-at m (k + 1) j)
    where
      go : (b : Bool) → eqb (get_or ids k 0) id ≡ b → cond b (Some k) (first_from ids id (k + 1) m) ≡ Some j
          → (first_from ids id (k + 1) m ≡ Some j → (Place ids id) (k + 1) m j) → (Place ids id) k (suc m) j
      go true t q f =
          let s : k ≡ j = cc in
          record { low = omega arith; high = omega arith; has = rw (← s) (eqb-true _ _ t); first = λ i l h g. omega arith }
      go false t q f =
          let r = f q in
          record {
            low = omega arith;
            high = omega arith;
            has = r.has;
            first = λ i l h g. let d : k ≡ i → ⊥ = λ w. eqb-false (get_or ids k 0) id t (rw w g) in r.first i (omega arith) h g;
          }

  pub first-none : (m k : ℕ) → first_from ids id k m ≡ None → (i : ℕ) → k ≤ i → i < k + m → get_or ids i 0 ≡ id → ⊥
  unfolding first_from
  first-none zero k e i l h g = omega arith
  first-none (suc m) k e i l h g = go (eqb (get_or ids k 0) id) refl e (λ q n. first-none m (k + 1) q i n (omega arith) g)
    where
      go : (b : Bool) → eqb (get_or ids k 0) id ≡ b → cond b (Some k) (first_from ids id (k + 1) m) ≡ None
          → (first_from ids id (k + 1) m ≡ None → k + 1 ≤ i → ⊥) → ⊥
      go true t q f = let z : ◌≡◌ {A = ℕ} 0 1 = cc in omega arith
      go false t q f = let d : k ≡ i → ⊥ = λ w. eqb-false (get_or ids k 0) id t (rw w g) in f q (omega arith)

  pub first-is : (m k j : ℕ) → (Place ids id) k m j → first_from ids id k m ≡ Some j
  unfolding first_from
  first-is zero k j p = absurd (omega arith)
  first-is (suc m) k j p = go (eqb (get_or ids k 0) id) refl (first-is m (k + 1) j)
    where
      go : (b : Bool) → eqb (get_or ids k 0) id ≡ b → ((Place ids id) (k + 1) m j → first_from ids id (k + 1) m ≡ Some j)
          → cond b (Some k) (first_from ids id (k + 1) m) ≡ Some j
      go true t f =
          let d : k < j → ⊥ = λ w. p.first k (omega arith) w (eqb-true _ _ t) in
          let s : k ≡ j = omega arith in
          rw s
      go false t f =
          let d : k ≡ j → ⊥ = λ w. eqb-false (get_or ids k 0) id t (rw w p.has) in
          f (record { low = omega arith; high = omega arith; has = p.has; first = λ i l h g. p.first i (omega arith) h g })

  pub first_missing : (m k : ℕ) → ((i : ℕ) → k ≤ i → i < k + m → get_or ids i 0 ≡ id → ⊥) → first_from ids id k m ≡ None
  unfolding first_from
  first_missing zero k f = refl
  first_missing (suc m) k f =
      rw (ne_eqb (get_or ids k 0) id (f k (omega arith) (omega arith)))
      (first_missing m (k + 1) (λ i l h g. f i (omega arith) (omega arith) g))

  -- the first place in a part of a list that has the id
  pub position-first : (m k : ℕ) → k + m ≤ length ids → position_from (λ x. eqb x id) k (take m (drop k ids)) ≡ first_from ids id k m
  unfolding first_from
  position-first zero k h = refl
  position-first (suc m) k h =
      let e = position-first m (k + 1) (omega arith) in
      rw (drop-cons ids k 0 (omega arith), add-one, rw add-one at e)

module _ (w : Watch) (id : ℕ) where
  -- what a place that was found tells
  pub lookup_at : (k : ℕ) → lookup_of w id ≡ Some k → (k < 16) × (k < w.n) × (get_or w.ids k 0 ≡ id)
  unfolding lookup_of
  lookup_at k e =
      let p = first-at w.ids id (min w.n 16) 0 k e in
      (omega (arith, p.high), omega (arith, p.high), p.has)

  pub lookup_first : (k : ℕ) → lookup_of w id ≡ Some k → (i : ℕ) → i < k → get_or w.ids i 0 ≡ id → ⊥
  unfolding lookup_of
  lookup_first k e i h g = (first-at w.ids id (min w.n 16) 0 k e).first i (omega arith) h g

  pub lookup_none : lookup_of w id ≡ None → (k : ℕ) → k < 16 → k < w.n → get_or w.ids k 0 ≡ id → ⊥
  unfolding lookup_of
  lookup_none e k h l g = first-none w.ids id (min w.n 16) 0 e k (omega arith) (omega arith) g

  -- the first place that has the id is found
  pub lookup_is : (k : ℕ) → k < 16 → k < w.n → get_or w.ids k 0 ≡ id
      → ((i : ℕ) → i < k → get_or w.ids i 0 ≡ id → ⊥) → lookup_of w id ≡ Some k
  unfolding lookup_of
  lookup_is k h l g f =
      let p : Place w.ids id 0 (min w.n 16) k =
      record { low = omega arith; high = omega arith; has = g; first = λ i a b q. f i b q } in
      first-is w.ids id (min w.n 16) 0 k p

  pub lookup_missing : ((k : ℕ) → k < 16 → k < w.n → get_or w.ids k 0 ≡ id → ⊥) → lookup_of w id ≡ None
  unfolding lookup_of
  lookup_missing f = first_missing w.ids id (min w.n 16) 0 (λ i l b g. f i (omega arith) (omega arith) g)

  -- and the first place among the first n ids
  pub lookup-position : length w.ids ≡ 16 → position_from (λ x. eqb x id) 0 (take (min w.n 16) w.ids) ≡ lookup_of w id
  unfolding lookup_of
  lookup-position l = position-first w.ids id (min w.n 16) 0 (omega arith)

  -- where no id stands twice, each place is found
  pub lookup_distinct : Distinct w.ids w.n → (k : ℕ) → k < 16 → k < w.n → get_or w.ids k 0 ≡ id → lookup_of w id ≡ Some k
  lookup_distinct d k h l g = lookup_is k h l g (λ i b q. d i k b l (q ∙ sym g))
