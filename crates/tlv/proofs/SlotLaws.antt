-- Laws of specs/Slot.antt.
use Rattle.std.specs.Prelude.{ℕ, ◌≤◌, ◌<◌, ◌≡◌, false, ◌||◌, List, length, eqb, Some, None}
use borrow.Author.Tests.{lt-ltb, le-ltb, eq-eqb, ne_eqb}
use Rattle.tlv.specs.Packet.{walk_of}
use Rattle.tlv.proofs.Walks.{unmarked_bad, tail-good}
use Rattle.tlv.specs.Slot.{none, end_from, last_pointer, sound}

-- its cases, by the top pointer and by where the walk comes to
module _ (s : List ℕ) (top last : ℕ) where
  pub sound-without-top : top ≡ none → sound s top last ≡ (eqb last none || eqb last (length s))
  unfolding sound
  sound-without-top t = rw (eq-eqb _ _ t)

  module _ (t : top ≡ none → ⊥) where
    pub unsound_outside : length s ≤ top → sound s top last ≡ false
    unfolding sound
    unsound_outside h = rw (ne_eqb _ _ t, le-ltb _ _ h)

    pub unsound_unmarked : top < length s → walk_of s top ≡ None → sound s top last ≡ false
    unfolding sound
    unsound_unmarked h w = rw (ne_eqb _ _ t, lt-ltb _ _ h, unmarked_bad s top w)

    pub sound-tail : top < length s → (end : ℕ) → walk_of s top ≡ Some end
        → sound s top last ≡ eqb last (last_pointer end)
    unfolding sound end_from
    sound-tail h end w =
        let g = tail-good s top end w in
        rw (ne_eqb _ _ t, lt-ltb _ _ h, g.0, g.1)
