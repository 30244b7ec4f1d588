-- An MMTP packet, read: 51, silent for an unwatched packet_id, 52, in this order.
use Rattle.std.specs.Prelude.{ℕ, List, Option, Some, None, Result, Ok, Err}
use Rattle.std.proofs.Math.Path.{◌≡◌}
use Rattle.mmtp.specs.declared.header.Header.{Header}
use Rattle.mmtp.specs.declared.packet.Packet.{Packet}
use Rattle.mmtp.specs.declared.note.PacketNote.{PacketNote}
use Rattle.mmtp.specs.declared.note.PacketNote.TheVariants.{BadHeader, BadPayload}
use Rattle.mmtp.specs.declared.note.Noted.{Noted as NotedPacket}
use Rattle.mmtp.specs.Notes.{number_of}
use Rattle.mmtp.specs.Header.{header_of}
use Rattle.mmtp.specs.declared.payload.Payload.{Payload}
use Rattle.mmtp.specs.Payload.{payload_of}

-- a packet_id that is not watched; a note and its packet_id, 0 where it has none; or a packet of a watched packet_id
pub data Reading : Type 0 where
  Silent : Reading
  Noted : PacketNote → ℕ → Reading
  Good : Packet → Reading

abbrev pub as_reading : Result (Option Packet) NotedPacket → Reading
as_reading (Ok None) = Silent
as_reading (Ok (Some p)) = Good p
as_reading (Err e) = Noted e.note e.packet_id

-- a watched packet_id's payload
unfoldable pub body_read : ℕ → Header → Option Payload → Reading
body_read place h None = Noted BadPayload h.packet_id
body_read place h (Some p) = Good (record { place = place; packet_id = h.packet_id; psn = h.psn; payload = p })

unfoldable pub looked_up : Option ℕ → List ℕ → Header → Reading
looked_up None m h = Silent
looked_up (Some place) m h = body_read place h (payload_of m h.start h.payload_type)

unfoldable pub head_read : Option Header → List ℕ → (ℕ → Option ℕ) → Reading
head_read None m look = Noted BadHeader 0
head_read (Some h) m look = looked_up (look h.packet_id) m h

-- `look` is the search in the watch list: the place of a packet_id, or none
unfoldable pub reading_of : List ℕ → (ℕ → Option ℕ) → Reading
reading_of m look = head_read (header_of m) m look

-- the note that each case gives; 0 for none
abbrev pub note_of : Reading → ℕ
note_of Silent = 0
note_of (Noted n id) = number_of n
note_of (Good p) = 0

module _ (m : List ℕ) (look : ℕ → Option ℕ) where
  -- what a packet that was read is made of
  pub record Watched (p : Packet) : Type 0 where
    pub head : Header
    pub heads : header_of m ≡ Some head
    pub looks : look head.packet_id ≡ Some p.place
    pub reads : payload_of m head.start head.payload_type ≡ Some p.payload
    pub id : p.packet_id ≡ head.packet_id
    pub psn : p.psn ≡ head.psn
