-- Document 01's starred rows on MMTP headers, and examples of the order of the tests.
use Rattle.std.specs.Prelude.{ℕ, List, [], ◌∷◌, ◌++◌, ◌≡◌, replicate, Option, Some}
use Rattle.mmtp.specs.Flow.{Silent, Mmtp, flow_of}
use Rattle.mmtp.specs.Packet.{Silent as Unwatched, Noted, reading_of, note_of}
use Rattle.mmtp.specs.declared.note.PacketNote.TheVariants.{BadPayload}
use Rattle.mmtp.specs.Flow as flow
use Rattle.mmtp.specs.Header.{header_of}
use Rattle.watch.specs.Given.{lookup_of}

-- a signalling packet with the first byte x: payload type 2, packet_id 0x1234, timestamp 0x01020304, psn 7, then `rest`
abbrev pub packet : ℕ → List ℕ → List ℕ
packet x rest = x ∷ 0x02 ∷ 0x12 ∷ 0x34 ∷ 0x01 ∷ 0x02 ∷ 0x03 ∷ 0x04 ∷ 0x00 ∷ 0x00 ∷ 0x00 ∷ 0x07 ∷ rest

-- a counter, an extension of type 1 and length 4
abbrev pub extended : List ℕ
extended = 0x00 ∷ 0x00 ∷ 0x00 ∷ 0x05 ∷ 0x00 ∷ 0x01 ∷ 0x00 ∷ 0x04 ∷ 0x11 ∷ 0x12 ∷ 0x13 ∷ 0x14 ∷ []

-- a whole message of two bytes
abbrev pub message : List ℕ
message = 0x00 ∷ 0x00 ∷ 0xAA ∷ 0xBB ∷ []

-- the search where this id alone is watched
abbrev pub watching : ℕ → ℕ → Option ℕ
watching id = lookup_of (record { ids = id ∷ []; n = 1 })

abbrev pub HeaderSpecimens : Type 0
HeaderSpecimens =
    -- "MMTP 0x22, extension length 4: payload at 24."
    (header_of (packet 0x22 extended)
    ≡ Some (record { payload_type = 2; packet_id = 0x1234; psn = record { 0 = 7 }; start = 24 }))
    -- "0x40: 51."
    × (note_of (reading_of (packet 0x40 message) (watching 0x1234)) ≡ 51)

-- a TLV packet of type 3 with SN 9: CID 2, header type, and nothing behind it
abbrev pub compressed : ℕ → List ℕ
compressed kind = 0x7F ∷ 0x03 ∷ 0x00 ∷ 0x03 ∷ 0x00 ∷ 0x29 ∷ kind ∷ []

abbrev pub Examples : Type 0
Examples =
    -- the CID is tested before the header type: "Another CID is silent", "another type, or fewer bytes: 50"
    (flow_of (compressed 0x99) 1 ≡ Silent)
    × (flow.note_of (flow_of (compressed 0x99) 2) ≡ 50)
    × (flow.note_of (flow_of (compressed 0x20 ++ replicate 19 0) 2) ≡ 50)
    -- "Payload starts at byte 23 for 0x20, 5 for 0x21, 45 for 0x60", behind the TLV header of 4 bytes
    × (flow_of (compressed 0x20 ++ replicate 20 0) 2 ≡ Mmtp 27)
    × (flow_of (compressed 0x21 ++ replicate 2 0) 2 ≡ Mmtp 9)
    × (flow_of (compressed 0x60 ++ replicate 42 0) 2 ≡ Mmtp 49)
    -- "Under 3 bytes: 50", of another CID too
    × (flow.note_of (flow_of (0x7F ∷ 0x03 ∷ 0x00 ∷ 0x02 ∷ 0x00 ∷ 0x29 ∷ []) 1) ≡ 50)
    -- exactly the header's bytes is not 50: its MMTP packet is empty, and that is 51
    × (flow_of (compressed 0x61) 2 ≡ Mmtp 7)
    × (note_of (reading_of [] (watching 0x1234)) ≡ 51)
    -- "Version or FEC not 0, or too short: 51"
    × (note_of (reading_of (packet 0x08 message) (watching 0x1234)) ≡ 51)
    × (note_of (reading_of (packet 0x02 (0 ∷ 1 ∷ 0 ∷ 9 ∷ [])) (watching 0x1234)) ≡ 51)
    -- 51 is tested before the watch list: "An unwatched packet_id is silent"
    × (note_of (reading_of (packet 0x40 message) (watching 0x1235)) ≡ 51)
    × (reading_of (packet 0x00 message) (watching 0x1235) ≡ Unwatched)
    -- 52 has the packet_id: A without a unit
    × (reading_of (packet 0x00 (1 ∷ 0 ∷ [])) (watching 0x1234) ≡ Noted BadPayload 0x1234)
