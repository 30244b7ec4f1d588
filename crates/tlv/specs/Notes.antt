-- The notes on slots: document 01's number for each. Every definition that gives such a note cites this one.
use Rattle.std.specs.Prelude.{ℕ}
use Rattle.tlv.specs.declared.note.SlotNote.{SlotNote}
use Rattle.tlv.specs.declared.note.SlotNote.TheVariants.{Lost, Unsound, Misfit, TooLong}

abbrev pub number_of : SlotNote → ℕ
number_of Lost = 40
number_of Unsound = 41
number_of Misfit = 42
number_of TooLong = 43
