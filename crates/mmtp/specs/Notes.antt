-- The notes on packets: document 01's number for each. Every definition that gives such a note cites this one.
use Rattle.std.specs.Prelude.{ℕ}
use Rattle.mmtp.specs.declared.note.PacketNote.{PacketNote}
use Rattle.mmtp.specs.declared.note.PacketNote.TheVariants.{BadFlow, BadHeader, BadPayload}
use Rattle.mmtp.specs.declared.note.Noted.{Noted}

abbrev pub number_of : PacketNote → ℕ
number_of BadFlow = 50
number_of BadHeader = 51
number_of BadPayload = 52

-- a note that has no packet_id
abbrev pub without_id : PacketNote → Noted
without_id n = record { note = n; packet_id = 0 }
