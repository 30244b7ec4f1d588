-- A TLV packet's flow: which types are read, and how the flow is recognised.
use Rattle.std.specs.Prelude.{ℕ, ◌+◌, cond, List, eqb, ltb, Option, Some, None, Result, Ok, Err}
use Rattle.std.proofs.Math.ListN.{length, get_or}
use Rattle.wire.specs.Bits.{bits_at}
use Rattle.wire.specs.Field.{be}
use Rattle.mmtp.specs.declared.note.PacketNote.{PacketNote}
use Rattle.mmtp.specs.declared.note.PacketNote.TheVariants.{BadFlow}
use Rattle.mmtp.specs.Notes.{number_of}

-- what a TLV packet holds: another packet type or another flow; a note; or an MMTP packet of the flow, from this byte to its end
pub data Flow : Type 0 where
  Silent : Flow
  Noted : PacketNote → Flow
  Mmtp : ℕ → Flow

abbrev pub as_flow : Result (Option ℕ) PacketNote → Flow
as_flow (Ok None) = Silent
as_flow (Ok (Some start)) = Mmtp start
as_flow (Err note) = Noted note

-- "Payload starts at byte 23 for 0x20, 5 for 0x21, 45 for 0x60, 3 for 0x61", counted from the CID
unfoldable pub compressed_header : ℕ → Option ℕ
compressed_header t =
    cond (eqb t 0x20) (Some 23)
    (cond (eqb t 0x21) (Some 5) (cond (eqb t 0x60) (Some 45) (cond (eqb t 0x61) (Some 3) None)))

-- "another type, or fewer bytes: 50"
unfoldable pub behind : Option ℕ → List ℕ → Flow
behind (Some n) p = cond (ltb (length p) (4 + n)) (Noted BadFlow) (Mmtp (4 + n))
behind None p = Noted BadFlow

-- type 3, behind the TLV header of 4 bytes: CID of 12 bits, SN of 4, header type of 8
unfoldable pub compressed_of : List ℕ → ℕ → Flow
compressed_of p cid =
    cond (ltb (length p) 7) (Noted BadFlow)
    (cond (eqb (bits_at 4 12 (be 2 p 4)) cid) (behind (compressed_header (get_or p 6 0)) p) Silent)

-- "Only type 3 is read; others are silent"
unfoldable pub flow_of : List ℕ → ℕ → Flow
flow_of p cid = cond (eqb (get_or p 1 0) 3) (compressed_of p cid) Silent

-- the note that each case gives; 0 for none
abbrev pub note_of : Flow → ℕ
note_of Silent = 0
note_of (Noted n) = number_of n
note_of (Mmtp start) = 0
