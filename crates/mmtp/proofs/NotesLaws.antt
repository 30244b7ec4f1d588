-- Laws of specs/Notes.antt.
use Rattle.std.specs.Prelude.{◌≡◌, refl, false, eqb}
use Rattle.mmtp.specs.declared.note.PacketNote.{PacketNote}
use Rattle.mmtp.specs.declared.note.PacketNote.TheVariants.{BadFlow, BadHeader, BadPayload}
use Rattle.mmtp.specs.Notes.{number_of}

-- none of them is 0, which says that there is no note
pub not_none : (n : PacketNote) → eqb (number_of n) 0 ≡ false
not_none BadFlow = refl
not_none BadHeader = refl
not_none BadPayload = refl
