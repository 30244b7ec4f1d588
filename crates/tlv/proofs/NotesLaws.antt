-- Laws of specs/Notes.antt.
use Rattle.std.specs.Prelude.{◌≡◌, refl, false, eqb}
use Rattle.tlv.specs.declared.note.SlotNote.{SlotNote}
use Rattle.tlv.specs.declared.note.SlotNote.TheVariants.{Lost, Unsound, Misfit, TooLong}
use Rattle.tlv.specs.Notes.{number_of}

-- none of them is 0, which says that there is no note
pub not_none : (n : SlotNote) → eqb (number_of n) 0 ≡ false
not_none Lost = refl
not_none Unsound = refl
not_none Misfit = refl
not_none TooLong = refl
