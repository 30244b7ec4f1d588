-- What a TLV packet comes to, as the definitions speak of it.
use Rattle.std.specs.Prelude.{ℕ, Option, Some, None, Result, Ok, Err}
use Rattle.mmtp.specs.declared.note.PacketNote.{PacketNote}
use Rattle.mmtp.specs.declared.note.Noted.{Noted as NotedPacket}
use Rattle.queue.specs.declared.located.Located.{Located}

-- nothing; a note and its packet_id, 0 where it has none; or a packet of a watched packet_id, in packet memory
pub data Arrived : Type 0 where
  Silent : Arrived
  Noted : PacketNote → ℕ → Arrived
  Good : Located → Arrived

abbrev pub as_arrived : Result (Option Located) NotedPacket → Arrived
as_arrived (Ok None) = Silent
as_arrived (Ok (Some l)) = Good l
as_arrived (Err e) = Noted e.note e.packet_id
