-- Laws of specs/Held.antt.
use Rattle.std.specs.Prelude.{ℕ, ◌<◌, ◌≤◌, ◌≡◌, List, length}
use borrow.Author.Tests.{lt-ltb, le-ltb, eq-eqb, ne_eqb}
use Rattle.tlv.specs.declared.note.SlotNote.TheVariants.{TooLong}
use Rattle.tlv.specs.declared.held.Continuation.TheVariants.{Dropped}
use Rattle.tlv.specs.Packet.{max_packet}
use Rattle.tlv.specs.Slot.{none}
use Rattle.tlv.specs.Held.{end_within, end_beyond, held_total, held_end, continuation_of}

-- the four cases
module _ (held s : List ℕ) (top last : ℕ) where
  pub nothing-held : length held ≡ 0 → continuation_of held s top last ≡ end_within 0 top
  unfolding continuation_of
  nothing-held h = rw (eq-eqb _ _ h)

  pub held_too_long : (length held ≡ 0 → ⊥) → max_packet < held_total held s → continuation_of held s top last ≡ Dropped TooLong
  unfolding continuation_of
  held_too_long h l = rw (ne_eqb _ _ h, lt-ltb _ _ l)

  pub held-without-top : (length held ≡ 0 → ⊥) → held_total held s ≤ max_packet → top ≡ none
      → continuation_of held s top last ≡ end_beyond (held_end held s) (length s) last
  unfolding continuation_of
  held-without-top h l t = rw (ne_eqb _ _ h, le-ltb _ _ l, eq-eqb _ _ t)

  pub held-before-top : (length held ≡ 0 → ⊥) → held_total held s ≤ max_packet → (top ≡ none → ⊥)
      → continuation_of held s top last ≡ end_within (held_end held s) top
  unfolding continuation_of
  held-before-top h l t = rw (ne_eqb _ _ h, le-ltb _ _ l, ne_eqb _ _ t)
