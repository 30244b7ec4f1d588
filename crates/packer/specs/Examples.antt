-- Units packed, computed.
use Rattle.std.specs.Prelude.{◌≡◌, ℕ, ◌*◌, List, [], ◌∷◌, length, take, drop, replicate}
use Rattle.mmtp.specs.declared.unit.Fields.{Fields}
use Rattle.reassembly.specs.declared.unit.Unit.{Unit}
use Rattle.packer.specs.Packed.{Written, Refused}
use Rattle.packer.specs.Pieces.{pieces, count_by, max_pieces}
use Rattle.packer.specs.Packer.{packets, run, pack_refusal, pack_of}

abbrev fields : Fields
fields =
    record {
      movie_fragment = 0x11121314;
      sample = 0x21222324;
      offset = 0x31323334;
      priority = 0x41;
      dependency = 0x51;
      item = 0x61626364;
    }

-- a unit of packet_id 0x0102 and MPU 9
abbrev pub unit : ℕ → ℕ → Unit
unit kind psn = record { packet_id = 0x0102; kind = kind; psn = record { 0 = psn }; mpu = 9; fields = fields }

-- the unit of document 01's capture: "id 0, signalling, psn 7, 2 bytes"
abbrev message : Unit
message =
    record {
      packet_id = 0;
      kind = 4;
      psn = record { 0 = 7 };
      mpu = 0;
      fields = record { movie_fragment = 0; sample = 0; offset = 0; priority = 0; dependency = 0; item = 0 };
    }

-- a packet of it with one byte, by the CID's last 4 bits with SN, the psn's last two bytes, the byte with FI, counter
abbrev piece : ℕ → ℕ → ℕ → ℕ → ℕ → ℕ → List ℕ
piece sn high psn fi counter b =
    0x7F ∷ 3 ∷ 0 ∷ 18 ∷ 0 ∷ sn ∷ 0x61 ∷ 0 ∷ 2 ∷ 0 ∷ 0 ∷ 0 ∷ 0 ∷ 0 ∷ 0 ∷ 0 ∷ 0 ∷ high ∷ psn ∷ fi ∷ counter ∷ b ∷ []

-- a packet of CID 5 up to its psn: the length, the CID's last 4 bits with SN, payload type 0, packet_id 0x0102, timestamp 0
abbrev head : ℕ → ℕ → List ℕ → List ℕ
head len sn rest = 0x7F ∷ 3 ∷ 0 ∷ len ∷ 0 ∷ sn ∷ 0x61 ∷ 0 ∷ 0 ∷ 1 ∷ 2 ∷ 0 ∷ 0 ∷ 0 ∷ 0 ∷ rest

-- psn 6; and an MPU payload's header: the length, the byte with FT, timed and FI, counter, MPU 9
abbrev psn-6 : List ℕ → List ℕ
psn-6 rest = 0 ∷ 0 ∷ 0 ∷ 6 ∷ rest

abbrev mpu : ℕ → ℕ → ℕ → List ℕ → List ℕ
mpu len flags counter rest = 0 ∷ len ∷ flags ∷ counter ∷ 0 ∷ 0 ∷ 0 ∷ 9 ∷ rest

-- the fields of kind 2
abbrev timed : List ℕ → List ℕ
timed rest =
    0x11 ∷ 0x12 ∷ 0x13 ∷ 0x14 ∷ 0x21 ∷ 0x22 ∷ 0x23 ∷ 0x24 ∷ 0x31 ∷ 0x32 ∷ 0x33 ∷ 0x34 ∷ 0x41 ∷ 0x51 ∷ rest

abbrev pub Examples : Type 0
Examples =
    -- "a 23-byte packet (id 0, signalling, psn 7, 2 bytes)", and the output behind it as it was
    (pack_of message 5 0 1400 (0xAA ∷ 0xBB ∷ []) (replicate 25 0xEE)
    ≡ (
      Written 23,
      0x7F ∷ 3 ∷ 0 ∷ 19 ∷ 0 ∷ 0x50 ∷ 0x61
          ∷ 0 ∷ 2 ∷ 0 ∷ 0 ∷ 0 ∷ 0 ∷ 0 ∷ 0 ∷ 0 ∷ 0 ∷ 0 ∷ 7 ∷ 0 ∷ 0 ∷ 0xAA ∷ 0xBB ∷ 0xEE ∷ 0xEE ∷ [],
    ))
    -- an empty unit is one packet: kind 3, with its item
    × (run (unit 3 6) 5 9 1 [] ≡ head 27 0x59 (psn-6 (mpu 10 0x20 0 (0x61 ∷ 0x62 ∷ 0x63 ∷ 0x64 ∷ []))))
    -- three pieces, the last shorter: "counters falling to 0", psn and SN wrap, "the unit's fields in every piece"
    × (packets (unit 2 4294967295) 5 31 2 (1 ∷ 2 ∷ 3 ∷ 4 ∷ 5 ∷ [])
    ≡ head 39 0x5F (255 ∷ 255 ∷ 255 ∷ 255 ∷ mpu 22 0x2A 2 (timed (1 ∷ 2 ∷ [])))
    ∷ head 39 0x50 (0 ∷ 0 ∷ 0 ∷ 0 ∷ mpu 22 0x2C 1 (timed (3 ∷ 4 ∷ [])))
    ∷ head 38 0x51 (0 ∷ 0 ∷ 0 ∷ 1 ∷ mpu 21 0x2E 0 (timed (5 ∷ [])))
    ∷ [])
    -- signalling in three pieces: FI in the top two bits of its first byte, the others 0
    × (packets message 5 0 1 (1 ∷ 2 ∷ 3 ∷ []) ≡ piece 0x50 0 7 0x40 2 1 ∷ piece 0x51 0 8 0x80 1 2 ∷ piece 0x52 0 9 0xC0 0 3 ∷ [])
    -- "the rest if not empty"
    × (pieces 2 (1 ∷ 2 ∷ 3 ∷ 4 ∷ []) ≡ (1 ∷ 2 ∷ []) ∷ (3 ∷ 4 ∷ []) ∷ [])
    -- 258 pieces: "counters modulo 256", so a middle piece has 0, and the next one 255; FI 11 is the last's alone
    × (take 3 (packets message 5 0 1 (replicate 258 9)) ≡ piece 0x50 0 7 0x40 1 9 ∷ piece 0x51 0 8 0x80 0 9 ∷ piece 0x52 0 9 0x80 255 9 ∷ [])
    × (drop 256 (packets message 5 0 1 (replicate 258 9)) ≡ piece 0x50 1 7 0x80 1 9 ∷ piece 0x51 1 8 0xC0 0 9 ∷ [])
    -- what is counted stops at 65,536: an empty unit, 2 pieces of 2 bytes, a byte more, 65,535 and 65,536 pieces, many more, pieces of
    -- no byte
    × (count_by max_pieces 2 0 ≡ 1) × (count_by max_pieces 2 4 ≡ 2) × (count_by max_pieces 2 5 ≡ 3)
    × (count_by max_pieces 1400 91749000 ≡ 65535) × (count_by max_pieces 1400 91749001 ≡ 65536)
    × (count_by max_pieces 1 1000000000 ≡ 65536) × (count_by max_pieces 0 1 ≡ 65536)
    -- kinds 0 and 1
    × (run (unit 0 6) 5 9 4 (7 ∷ []) ≡ head 24 0x59 (psn-6 (mpu 7 0x00 0 (7 ∷ []))))
    × (run (unit 1 6) 5 9 4 (7 ∷ []) ≡ head 24 0x59 (psn-6 (mpu 7 0x10 0 (7 ∷ []))))

-- a refused call, and the output as it was
abbrev Refuses : ℕ → Unit → ℕ → ℕ → List ℕ → List ℕ → Type 0
Refuses n u cid m s out = pack_of u cid 0 m s out ≡ (Refused n, out)

abbrev pub Refusals : Type 0
Refusals =
    -- each number comes before the next, whose reason is there too
    Refuses 70 (unit 5 0) 4096 0 [] [] × Refuses 70 (unit 5 0) 4096 1401 [] []
    × (pack_refusal 1 5 65536 1 0 4096 ≡ 71) × (pack_refusal 1 4 65536 1 0 4096 ≡ 72) × (pack_refusal 1 4 65535 1 0 4096 ≡ 73)
    × Refuses 73 (unit 4 0) 4096 1400 (1 ∷ 2 ∷ []) (replicate 22 0xEE)
    -- and here is no other reason
    × Refuses 71 (unit 5 0) 5 1 [] (replicate 40 0xEE) × Refuses 74 (unit 4 0) 4096 1400 (1 ∷ 2 ∷ []) (replicate 23 0xEE)

-- "72 is given above 65,535 pieces" (document 02, item 4), here of one byte each, whatever the output holds
pub record MostPieces : Type 0 where
  pub most : (out : List ℕ) → length out ≡ 65535 * 22 → (pack_of (unit 4 0) 4095 0 1 (replicate 65535 0) out).0 ≡ Written (65535 * 22)
  pub one_more : (out : List ℕ) → pack_of (unit 4 0) 4095 0 1 (replicate 65536 0) out ≡ (Refused 72, out)
