-- Laws of specs/Slot.antt.
use Rattle.std.specs.Prelude.{ℕ, ◌≡◌, true, false, List, length}
use Rattle.tmcc.specs.declared.layout.Pointers.{Pointers}
use Rattle.tlv.specs.declared.held.Continuation.{Continuation}
use Rattle.tlv.specs.declared.note.SlotNote.TheVariants.{Unsound}
use Rattle.tlv.specs.Notes.{number_of}
use Rattle.tlv.specs.Slot.{sound}
use Rattle.tlv.specs.Held.{continuation_of}
use Rattle.intake.specs.declared.held.Held.{Held}
use Rattle.intake.specs.Slot.{searching, noted, reading_from, held_bytes, copied, resumed_by, resumed_of, settled_of, intake_of}

-- Laws: an own live slot that is unsound, one while searching, and one with bytes held.
module _ (h : Held) (p d : List ℕ) (t : Pointers) where
  pub settled_unsound : sound d t.0 t.1 ≡ false
      → settled_of h p d t ≡ (record { held = searching; cursor = noted (number_of Unsound) }, p)
  settled_unsound s = rw s

  module _ (s : sound d t.0 t.1 ≡ true) where
    pub settled-searching : h.on ≡ false → settled_of h p d t ≡ (reading_from 0 0 t.0 (length d), p)
    settled-searching o = rw (s, o)

    pub settled-held : h.on ≡ true → settled_of h p d t ≡ resumed_of h p d t
    settled-held o = rw (s, o)

  pub taken_unsound : sound d t.0 t.1 ≡ false
      → intake_of h p d t ≡ (record { held = searching; cursor = noted (number_of Unsound) }, copied p d)
  unfolding intake_of
  taken_unsound s = rw s

  module _ (s : sound d t.0 t.1 ≡ true) where
    pub taken-searching : h.on ≡ false → intake_of h p d t ≡ (reading_from 0 0 t.0 (length d), copied p d)
    unfolding intake_of
    taken-searching o = rw (s, o)

    pub taken-held : h.on ≡ true → intake_of h p d t ≡ ((resumed_of h p d t).0, copied (resumed_of h p d t).1 d)
    unfolding intake_of
    taken-held o = rw (s, o)

  pub resumed : (k : Continuation) → continuation_of (held_bytes h p) d t.0 t.1 ≡ k
      → resumed_of h p d t ≡ resumed_by k h p d t
  unfolding resumed_of
  resumed k e = rw e
