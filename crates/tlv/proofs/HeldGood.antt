-- Held bytes begin with a good first byte: a tail that is held was walked, and bytes that go on keep their first.
use Prim.Native.Nat.{ℕ}
use mathlib.Core.Path.{◌≡◌, refl, ◌∙◌}
use mathlib.Core.Bool.{Bool, true, false, and-eq-true_iff}
use mathlib.Core.List.{List, [], ◌∷◌}
use lib.ListN.{length, drop}
use lib.Dec.{eqb, ltb}
use Rattle.tlv.specs.declared.held.Continuation.{Continuation}
use Rattle.tlv.specs.declared.held.Continuation.TheVariants.{Dropped, Ends, GoesOn}
use Rattle.tlv.specs.Packet.{marked, cut}
use Rattle.tlv.proofs.CutsLaws.{marked_append, cut-tail-marked}
use Rattle.tlv.specs.Slot.{none, end_from, last_pointer, sound}
use Rattle.tlv.specs.Held.{continuation_of}
use Rattle.tlv.specs.Run.{Slot, State, searching, held, Arrival, lost, given, kept, read_from, resumed, arrived, step, state_after}
use Rattle.tlv.specs.Claims.{HeldGood, StepHeldGood, RunHeldGood}
use Rattle.tlv.proofs.Answers.{Says, says}
use Rattle.tlv.proofs.Runs.{lost-stops, step_given}

-- the walk of a sound slot from its top pointer found good first bytes
sound-good : (b : List ℕ) (top last : ℕ) → sound b top last ≡ true → eqb top none ≡ false → (cut (drop top b)).good ≡ true
unfolding sound
sound-good b top last e n =
    let g = ((and-eq-true_iff (ltb top (length b)) _).0 (rw n at e)).1 in
    ((and-eq-true_iff (cut (drop top b)).good (eqb last (last_pointer (end_from b top)))).0 g).0

module _ {A : Type 0} where
  kept-good : (long : Bool) (a : A) (b : List ℕ) → marked b ≡ true → HeldGood (kept long a b).state
  unfolding kept
  kept-good true a b m = tt
  kept-good false a b m = m

  module _ (a : A) (s : Slot) (e : sound s.bytes s.top s.last ≡ true) where
    read-good : (n : Bool) → eqb s.top none ≡ n → HeldGood (read_from n a s).state
    unfolding read_from
    read-good true t = tt
    read-good false t = kept-good _ a _ (cut-tail-marked (drop s.top s.bytes) (sound-good _ s.top s.last e t))

    resumed-good : (k : Continuation) (n : Bool) (ls : List A) (h : List ℕ) → eqb s.top none ≡ n → Says k n h s.bytes s.top
        → marked h ≡ true → HeldGood (resumed k n ls h a s).state
    unfolding resumed
    resumed-good (Dropped x) n ls h t y m = read-good n t
    resumed-good (Ends end) true ls h t y m = unfold marked in refl
    resumed-good (Ends end) false ls h t y m = read-good false t
    resumed-good GoesOn true ls h t y m = marked_append h s.bytes y.0 ∙ m
    resumed-good GoesOn false ls h t y m = absurd y

  arrived-good : (b : Bool) (st : State A) (a : A) (s : Slot) → sound s.bytes s.top s.last ≡ b → HeldGood st
      → HeldGood (arrived b st a s).state
  unfolding arrived
  arrived-good false st a s e m = tt
  arrived-good true searching a s e m = read-good a s e (eqb s.top none) refl
  arrived-good true (held ls h) a s e m =
      resumed-good a s e (continuation_of h s.bytes s.top s.last) (eqb s.top none) ls h refl
      (says h s.bytes s.top s.last) m

pub step-held-good : StepHeldGood
step-held-good A st lost m = rw (lost-stops st).1 tt
step-held-good A st (given a s) m = rw (step_given st a s) (arrived-good (sound s.bytes s.top s.last) st a s refl m)

pub run-held-good : RunHeldGood
unfolding state_after
run-held-good A xs = go searching xs tt
  where
    go : (st : State A) (xs : List (Arrival A)) → HeldGood st → HeldGood (state_after st xs)
    go st [] m = m
    go st (x ∷ xs) m = go (step st x).state xs (step-held-good A st x m)
