-- The notes on joining: document 01's number for each. Every definition that gives such a note cites this one.
use Rattle.std.specs.Prelude.{ℕ}
use Rattle.reassembly.specs.declared.note.JoinNote.{JoinNote}
use Rattle.reassembly.specs.declared.note.JoinNote.TheVariants.{Gap, Interrupted, Headless, Apart, AboveLimit}

abbrev pub number_of : JoinNote → ℕ
number_of Gap = 60
number_of Interrupted = 61
number_of Headless = 62
number_of Apart = 63
number_of AboveLimit = 64
