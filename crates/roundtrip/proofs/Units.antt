-- Why the units come back: each packet_id is ready for the unit that comes next, and is left ready for the one after.
use Rattle.std.specs.Prelude.{Some}
use Prim.Native.Nat.{ℕ, ◌-◌}
use mathlib.Core.Path.{◌≡◌, refl, sym, ◌∙◌, ap}
use mathlib.Core.Bool.{Bool, true, false}
use mathlib.Core.List.{List, [], ◌∷◌, ◌++◌, map}
use native.Mathlib.Omega.{arith}
use lib.ListN.{length, get_or}
use lib.Dec.{eqb}
use borrow.Author.Tests.{eqb-true, eqb-false}
use Rattle.watch.specs.Given.{lookup_of}
use Rattle.watch.proofs.GivenLaws.{lookup_at}
use Rattle.reassembly.specs.declared.config.Config.{Config}
use Rattle.reassembly.specs.declared.channel.Channel.{Channel}
use Rattle.reassembly.specs.declared.channel.Phase.TheVariants.{Unheard, Idle}
use Rattle.reassembly.specs.Run.{Input, Lane, run, lanes_after}
use Rattle.reassembly.proofs.Runs.{run-append}
use Rattle.packer.specs.Pieces.{with_psn}
use Rattle.packer.specs.Rejoins.{inputs, Ready, unheard, idle}
use Rattle.packer.proofs.Pieces.{pieces-some}
use Rattle.packer.proofs.Rejoins.{unit-rejoined, next-after}
use Rattle.broadcast.specs.Drains.{Shown, unit as shown-unit, strip}
use Rattle.roundtrip.specs.Sending.{Parcel, piece_count, AllSendable, if_so, PsnFollows, Consecutive, content_of}

-- a list that is one list behind another once mapped
pub record Split {A B : Type 0} (g : A → B) (xs : List A) (a b : List B) : Type 0 where
  pub front : List A
  pub back : List A
  pub whole : front ++ back ≡ xs
  pub front-is : map g front ≡ a
  pub back_is : map g back ≡ b

split : {A B : Type 0} (g : A → B) (a b : List B) (xs : List A) → map g xs ≡ a ++ b → Split g xs a b
split g [] b xs e = record { front = []; back = xs; whole = refl; front-is = refl; back_is = e }
split g (y ∷ a) b [] e = absurd (let q : ◌≡◌ {A = ℕ} (length (map g [])) (length (y ∷ (a ++ b))) = ap length e in omega (arith, q))
split g (y ∷ a) b (x ∷ xs) e =
    let h : g x ≡ y = cc in
    let t : map g xs ≡ a ++ b = cc in
    let r = split g a b xs t in
    record {
      front = x ∷ r.front;
      back = r.back;
      whole = ap (λ (l : List _). x ∷ l) r.whole;
      front-is = rw (h, r.front-is);
      back_is = r.back_is;
    }

module _ (cfg : Config) where
  -- the inputs of all units
  unfoldable pub all_inputs : (us : List Parcel) → AllSendable cfg us → List Input
  all_inputs [] h = []
  all_inputs (u ∷ us) h = inputs u.unit h.0.place u.m u.bytes ++ all_inputs us h.1

  -- a packet_id after the units that were sent, the latest first
  abbrev Stands : List Parcel → ℕ → Channel → Type 0
  Stands [] id ch = ch.phase ≡ Unheard
  Stands (v ∷ vs) id ch =
      if_so (eqb v.unit.packet_id id)
      ((ch.phase ≡ Idle) × (ch.last ≡ (with_psn v.unit (piece_count v - 1)).psn)) (Stands vs id ch)

  abbrev pub AllStand : {A : Type 0} → List Parcel → (ℕ → Lane A) → Type 0
  AllStand sent f = (id k : ℕ) → lookup_of cfg.watch id ≡ Some k → Stands sent id (f k).channel

  -- it is ready for a unit that follows them
  ready : (sent : List Parcel) (u : Parcel) (ch : Channel) → PsnFollows sent u → Stands sent u.unit.packet_id ch
      → Ready ch u.unit.psn
  ready [] u ch h s = unheard s
  ready (v ∷ vs) u ch h s = go (eqb v.unit.packet_id u.unit.packet_id) (ready vs u ch) h s
    where
      go : (b : Bool) → (PsnFollows vs u → Stands vs u.unit.packet_id ch → Ready ch u.unit.psn)
          → if_so b (u.unit.psn ≡ (with_psn v.unit (piece_count v)).psn) (PsnFollows vs u)
          → if_so b ((ch.phase ≡ Idle) × (ch.last ≡ (with_psn v.unit (piece_count v - 1)).psn)) (Stands vs u.unit.packet_id ch)
          → Ready ch u.unit.psn
      go true ih h s = idle s.0 (rw s.1 (next-after v.unit (piece_count v) (pieces-some v.m v.bytes) ∙ sym h))
      go false ih h s = ih h s

  -- and so are all packet_ids after it
  module _ {A : Type 0} (sent : List Parcel) (u : Parcel) (f g : ℕ → Lane A) (place : ℕ)
      (at : lookup_of cfg.watch u.unit.packet_id ≡ Some place) (phase : (g place).channel.phase ≡ Idle)
      (last : (g place).channel.last ≡ (with_psn u.unit (piece_count u - 1)).psn)
      (others : (k : ℕ) → (k ≡ place → ⊥) → g k ≡ f k) where
    stand_on : AllStand sent f → AllStand (u ∷ sent) g
    stand_on s id k e = go (eqb u.unit.packet_id id) refl
      where
        same : u.unit.packet_id ≡ id → k ≡ place
        same q = let r : Some k ≡ Some place = sym e ∙ ap (lookup_of cfg.watch) (sym q) ∙ at in cc

        apart : (u.unit.packet_id ≡ id → ⊥) → k ≡ place → ⊥
        apart n q =
            let a = (lookup_at cfg.watch u.unit.packet_id place at).2 in
            let b = (lookup_at cfg.watch id k e).2 in
            n (sym a ∙ ap (λ (i : ℕ). get_or cfg.watch.ids i 0) (sym q) ∙ b)

        go : (b : Bool) → eqb u.unit.packet_id id ≡ b
            → if_so b (((g k).channel.phase ≡ Idle) × ((g k).channel.last ≡ (with_psn u.unit (piece_count u - 1)).psn))
            (Stands sent id (g k).channel)
        go true q = rw (same (eqb-true _ _ q)) (phase, last)
        go false q = rw (others k (apart (eqb-false _ _ q))) (s id k e)

  -- the units come back, in order, with nothing else
  pub units-back : {A : Type 0} (sent us : List Parcel) (h : AllSendable cfg us) → Consecutive sent us → (f : ℕ → Lane A)
      → AllStand sent f → (xs : List (A × Input)) → map (λ (x : A × Input). x.1) xs ≡ all_inputs us h
      → map strip (run cfg.rules f xs) ≡ map (λ (u : Parcel). shown-unit (content_of u)) us
  unfolding all_inputs
  units-back sent [] h c f s [] e = unfold run in refl
  units-back sent [] h c f s (x ∷ xs) e =
      let q : ◌≡◌ {A = ℕ} (length (map (λ (x : _ × Input). x.1) (x ∷ xs))) 0 = ap length e in
      absurd (omega (arith, q))
  units-back {A} sent (u ∷ us) h c f s xs e =
      let k : ℕ = h.0.place in
      let p = split (λ (x : A × Input). x.1) (inputs u.unit k u.m u.bytes) (all_inputs us h.1) xs e in
      let r = unit-rejoined A cfg.rules k u.m u.unit u.bytes f p.front h.0.packable.psns h.0.joins
      (ready sent u (f k).channel c.0 (s u.unit.packet_id k h.0.watched)) p.front-is in
      let g : ℕ → Lane A = lanes_after cfg.rules f p.front in
      let t = stand_on sent u f g k h.0.watched r.phase r.last r.others s in
      let i = units-back (u ∷ sent) us h.1 c.1 g t p.back p.back_is in
      rw (← p.whole, (run-append A cfg.rules f p.front p.back).0, r.events)
      (ap (λ (l : List Shown). shown-unit (content_of u) ∷ l) i)
