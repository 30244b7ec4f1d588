-- Slots one after another: lists of them joined, lost ones, and what the events of a step say.
use Prim.Native.Nat.{ℕ, zero, suc}
use mathlib.Core.Path.{◌≡◌, refl, sym, ap}
use mathlib.Core.List.{List, [], ◌∷◌, ◌++◌, append_assoc}
use lib.ListN.{replicate}
use Rattle.tlv.specs.Slot.{sound}
use Rattle.tlv.specs.Run.{Slot, Labelled, Event, note, packet, State, searching, held, Arrival, lost, given}
use Rattle.tlv.specs.Run.{arrived, step, run, state_after, packets, Clean}
use Rattle.tlv.specs.Claims.{RunAppend, RunLost}

pub run-append : RunAppend
unfolding run state_after
run-append A st [] ys = (refl, refl)
run-append A st (x ∷ xs) ys =
    let r = step st x in
    let ih = run-append A r.state xs ys in
    (rw ih.0 (sym (append_assoc r.events (run r.state xs) (run (state_after r.state xs) ys))), ih.1)

module _ {A : Type 0} where
  -- searching, a lost slot changes and gives nothing
  pub lost-searching : (n : ℕ) (xs : List (Arrival A))
      → (run searching (replicate n lost ++ xs) ≡ run searching xs)
      × (state_after searching (replicate n lost ++ xs) ≡ state_after searching xs)
  unfolding run state_after step
  lost-searching zero xs = (refl, refl)
  lost-searching (suc n) xs = lost-searching n xs

  -- it makes searching of any state, and gives no packet
  pub lost-stops : (st : State A) → (packets (step st lost).events ≡ []) × ((step st lost).state ≡ searching)
  unfolding step
  lost-stops searching = (refl, refl)
  lost-stops (held ls h) = (refl, refl)

  pub step_given : (st : State A) (a : A) (s : Slot) → step st (given a s) ≡ arrived (sound s.bytes s.top s.last) st a s
  unfolding step
  step_given searching a s = refl
  step_given (held ls h) a s = refl

  -- events one after another
  pub clean-left : (es fs : List (Event A)) → Clean (es ++ fs) → Clean es
  clean-left [] fs q = tt
  clean-left (note n ∷ es) fs q = q
  clean-left (packet p ∷ es) fs q = clean-left es fs q

  pub clean-right : (es fs : List (Event A)) → Clean (es ++ fs) → Clean fs
  clean-right [] fs q = q
  clean-right (note n ∷ es) fs q = absurd q
  clean-right (packet p ∷ es) fs q = clean-right es fs q

  pub packets-append : (es fs : List (Event A)) → packets (es ++ fs) ≡ packets es ++ packets fs
  packets-append [] fs = refl
  packets-append (note n ∷ es) fs = packets-append es fs
  packets-append (packet p ∷ es) fs = ap (λ (l : List (Labelled A)). p ∷ l) (packets-append es fs)

pub run-lost : RunLost
unfolding run state_after step
run-lost A searching n xs = lost-searching n xs
run-lost A (held ls h) n xs = (rw (lost-searching n xs).0, (lost-searching n xs).1)
