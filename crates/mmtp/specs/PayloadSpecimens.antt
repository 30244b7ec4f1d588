-- The starred payloads of document 01, and small ones of our own, computed.
use Rattle.std.specs.Prelude.{ℕ, ◌≡◌, Bool, true, false, List, [], ◌∷◌, replicate, Some}
use Rattle.mmtp.specs.declared.payload.Indicator.{Indicator}
use Rattle.mmtp.specs.declared.payload.Indicator.TheVariants.{Whole, First, Middle}
use Rattle.mmtp.specs.declared.payload.Payload.{Payload}
use Rattle.mmtp.specs.Unit.{Piece, no_fields}
use Rattle.mmtp.specs.Unit.{aggregate}
use Rattle.mmtp.specs.Payload.{payload_of, pieces_of}
use Rattle.watch.specs.Given.{lookup_of}
use Rattle.mmtp.specs.Packet.{reading_of, note_of}

-- an MPU payload: 16-bit length, its third byte, counter, MPU sequence number 9, and what follows
abbrev mpu_bytes : ℕ → ℕ → ℕ → List ℕ → List ℕ
mpu_bytes n third counter rest = 0 ∷ n ∷ third ∷ counter ∷ 0 ∷ 0 ∷ 0 ∷ 9 ∷ rest

-- the note of an MMTP packet with this payload type and payload, of the watched packet_id 0x1234 and psn 7
abbrev note : ℕ → List ℕ → ℕ
note type b =
    note_of (reading_of (0 ∷ type ∷ 0x12 ∷ 0x34 ∷ 0 ∷ 0 ∷ 0 ∷ 0 ∷ 0 ∷ 0 ∷ 0 ∷ 7 ∷ b) (lookup_of (record { ids = 0x1234 ∷ []; n = 1 })))

abbrev pub PayloadSpecimens : Type 0
PayloadSpecimens =
    -- "MPU byte 0x2A is kind 2, FI 01", here with counter 1 and 14 bytes of fields
    (payload_of (mpu_bytes 20 0x2A 1 (replicate 14 0)) 0 0
    ≡ Some (record { kind = 2; indicator = First; counter = 1; mpu = 9; aggregated = false; wide = false; start = 8 }))
    -- "0x2B: 52", though its one unit is whole
    × (note 0 (mpu_bytes 22 0x2B 1 (0 ∷ 14 ∷ replicate 14 0)) ≡ 52)

-- a signalling payload with this FI and this H, counter 0, without A
abbrev signalled : Indicator → Bool → Payload
signalled fi h = record { kind = 4; indicator = fi; counter = 0; mpu = 0; aggregated = false; wide = h; start = 2 }

abbrev message : List ℕ → Piece
message b = record { fields = no_fields; bytes = b }

abbrev pub Examples : Type 0
Examples =
    -- an empty signalling unit is read
    (payload_of (0 ∷ 0 ∷ []) 0 2 ≡ Some (signalled Whole false))
    × (pieces_of (0 ∷ 0 ∷ []) (signalled Whole false) ≡ message [] ∷ [])
    -- H without A is read, and the unit has no length before it
    × (payload_of (2 ∷ 0 ∷ 7 ∷ []) 0 2 ≡ Some (signalled Whole true))
    × (pieces_of (2 ∷ 0 ∷ 7 ∷ []) (signalled Whole true) ≡ message (7 ∷ []) ∷ [])
    -- two aggregated signalling units, the second empty
    × (aggregate (0 ∷ 1 ∷ 7 ∷ 0 ∷ 0 ∷ []) 4 false ≡ record { pieces = message (7 ∷ []) ∷ message [] ∷ []; fits = true })
    -- the second runs over the end
    × (note 2 (1 ∷ 0 ∷ 0 ∷ 1 ∷ 7 ∷ 0 ∷ 2 ∷ 8 ∷ []) ≡ 52)
    -- A without a unit
    × (note 2 (1 ∷ 0 ∷ []) ≡ 52)
    -- an aggregated unit of kind 2 that is shorter than its fields
    × (note 0 (mpu_bytes 21 0x29 0 (0 ∷ 13 ∷ replicate 13 0)) ≡ 52)
    -- a length that differs from what follows
    × (note 0 (mpu_bytes 21 0x2A 1 (replicate 14 0)) ≡ 52)
    -- other payload types and fragment types
    × (note 1 (0 ∷ 0 ∷ []) ≡ 52)
    × (note 3 (0 ∷ 0 ∷ []) ≡ 52)
    × (note 0 (mpu_bytes 6 0x30 0 []) ≡ 52)
    -- short fields, of kind 2, of kind 3 and of signalling
    × (note 0 (mpu_bytes 19 0x28 0 (replicate 13 0)) ≡ 52)
    × (note 0 (mpu_bytes 9 0x20 0 (replicate 3 0)) ≡ 52)
    × (note 2 (0 ∷ []) ≡ 52)
    -- A with FI 10
    × (note 2 (0x81 ∷ 1 ∷ 0 ∷ 0 ∷ []) ≡ 52)
    -- with H the length of an aggregated unit has 32 bits
    × (aggregate (0 ∷ 0 ∷ 0 ∷ 1 ∷ 7 ∷ []) 4 true ≡ record { pieces = message (7 ∷ []) ∷ []; fits = true })
    -- FI 01 and FI 10 with counter 0 are read; FI 11 with counter 1 is not, nor with 255
    × (payload_of (0x40 ∷ 0 ∷ []) 0 2 ≡ Some (signalled First false))
    × (payload_of (0x80 ∷ 0 ∷ []) 0 2 ≡ Some (signalled Middle false))
    × (note 2 (0xC0 ∷ 1 ∷ []) ≡ 52)
    × (note 2 (0xC0 ∷ 255 ∷ []) ≡ 52)
