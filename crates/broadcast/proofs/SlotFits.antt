-- A held packet that a sound slot continues has room before the slot in packet memory.
use Prim.Native.Nat.{ℕ, ◌+◌, ◌≤◌, ◌<◌}
use mathlib.Core.Path.{◌≡◌, refl}
use mathlib.Core.Bool.{Bool, true, false}
use mathlib.Core.List.{List, [], ◌∷◌}
use native.Mathlib.Omega.{arith}
use lib.ListN.{length}
use lib.Dec.{eqb, ltb}
use borrow.Author.Tests.{ltb-true, ltb-false}
use Rattle.tlv.specs.declared.held.Continuation.{Continuation}
use Rattle.tlv.specs.declared.held.Continuation.TheVariants.{Dropped, Ends, GoesOn}
use Rattle.tlv.specs.declared.note.SlotNote.TheVariants.{TooLong}
use Rattle.tlv.specs.Packet.{max_packet}
use Rattle.tlv.specs.Slot.{none}
use Rattle.tlv.specs.Held.{held_total, held_end, continuation_of}
use Rattle.tlv.proofs.HeldLaws.{held_too_long}
use Rattle.tlv.proofs.Answers.{end_of, Says}
use Rattle.intake.specs.Slot.{slot_area}

-- what has to have room: the held bytes with those of the slot that continue them
abbrev pub Fits : Continuation → List ℕ → List ℕ → Type 0
Fits (Dropped x) h d = Unit {0}
Fits (Ends e) h d = (length h + e ≤ slot_area) × (e ≤ length d)
Fits GoesOn h d = length h + length d ≤ slot_area

end_fits : (h d : List ℕ) → length h ≤ slot_area → (0 < length h → held_total h d ≤ max_packet) → length h + end_of h d ≤ slot_area
unfolding held_end
end_fits [] d l m = omega arith
end_fits (x ∷ h) d l m = omega (arith, m (omega arith))

module _ (h d : List ℕ) (top last : ℕ) (l : length h ≤ slot_area) (t : eqb top none ≡ false → top < length d) where
  total-fits : (continuation_of h d top last ≡ Dropped TooLong → ⊥) → 0 < length h → held_total h d ≤ max_packet
  total-fits n o = go (ltb max_packet (held_total h d)) refl
    where
      go : (b : Bool) → ltb max_packet (held_total h d) ≡ b → held_total h d ≤ max_packet
      go true e = absurd (n (held_too_long h d top last (λ z. omega arith) (ltb-true _ _ e)))
      go false e = ltb-false _ _ e

  ends-fit : (n : ℕ) → continuation_of h d top last ≡ Ends n → length h + end_of h d ≤ slot_area
  ends-fit n e = end_fits h d l (total-fits (λ q. let z : ◌≡◌ {A = ℕ} 0 1 = cc in omega arith))

  pub fits_so : (b : Bool) → eqb top none ≡ b → (k : Continuation) → continuation_of h d top last ≡ k → Says k b h d top
      → Fits k h d
  unfolding held_end
  fits_so b z (Dropped x) e y = tt
  fits_so true z (Ends n) e y = (omega (arith, ends-fit n e), omega arith)
  fits_so false z (Ends n) e y = (omega (arith, ends-fit n e), omega (arith, t z))
  fits_so true z GoesOn e y = omega (arith, total-fits (λ q. let z : ◌≡◌ {A = ℕ} 0 1 = cc in omega arith) y.0)
  fits_so false z GoesOn e y = absurd y
