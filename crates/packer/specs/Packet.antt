-- The bytes of one TLV packet of type 3, header type 0x61: its headers, the unit's fields, and a piece's bytes.
use Rattle.std.specs.Prelude.{ℕ, ◌+◌, ◌*◌, cond, List, [], ◌∷◌, ◌++◌, length, ◌==◌}
use Rattle.wire.specs.Field.{bytes_of}
use Rattle.mmtp.specs.declared.payload.Indicator.{Indicator}
use Rattle.mmtp.specs.declared.payload.Indicator.TheVariants.{Whole, First, Middle, Last}
use Rattle.mmtp.specs.declared.unit.Fields.{Fields}
use Rattle.reassembly.specs.declared.join.Piece.{Piece}

-- "0x7F, type 3", the length of what follows; CID 12 bits, SN 4, "header type 0x61"
unfoldable pub outer_head : ℕ → ℕ → ℕ → List ℕ
outer_head len cid sn = 0x7F ∷ 3 ∷ bytes_of 2 len ++ (bytes_of 2 (cid * 16 + sn) ++ (0x61 ∷ []))

-- kinds 0 to 3 are of payload type 0, signalling is 2
unfoldable pub payload_type_of : ℕ → ℕ
payload_type_of kind = cond (kind == 4) 2 0

-- "in MMTP version, C, FEC, X, RAP, .. timestamp and reserved bits 0": first byte, payload type, packet_id, timestamp, psn
unfoldable pub mmtp_head : ℕ → ℕ → ℕ → List ℕ
mmtp_head kind id psn = 0 ∷ payload_type_of kind ∷ bytes_of 2 id ++ (bytes_of 4 0 ++ bytes_of 4 psn)

-- FI 00 whole, 01 first, 10 middle, 11 last
unfoldable pub indicator_bits : Indicator → ℕ
indicator_bits Whole = 0
indicator_bits First = 1
indicator_bits Middle = 2
indicator_bits Last = 3

-- fragment type 4 bits, timed 1, above FI and A: "timed 1 for kind 2 alone"
unfoldable pub fragment_bits : ℕ → ℕ
fragment_bits kind = cond (kind == 0) 0x00 (cond (kind == 1) 0x10 (cond (kind == 2) 0x28 0x20))

-- payload type 0: the length of what follows; FT, timed, FI, A 0; counter; MPU sequence number
unfoldable pub mpu_head : ℕ → ℕ → Indicator → ℕ → ℕ → List ℕ
mpu_head len kind fi counter mpu = bytes_of 2 len ++ ((fragment_bits kind + indicator_bits fi * 2) ∷ counter ∷ bytes_of 4 mpu)

-- payload type 2: FI, reserved bits, H and A 0; counter
unfoldable pub signalling_head : Indicator → ℕ → List ℕ
signalling_head fi counter = (indicator_bits fi * 64) ∷ counter ∷ []

-- the payload header before a data unit of `len` bytes
unfoldable pub payload_head : Piece → ℕ → List ℕ
payload_head p len =
    cond (p.unit.kind == 4) (signalling_head p.indicator p.counter)
    (mpu_head (6 + len) p.unit.kind p.indicator p.counter p.unit.mpu)

-- movie fragment number 32, sample 32, offset 32, priority 8, dependency 8
unfoldable pub timed_fields : Fields → List ℕ
timed_fields f =
    bytes_of 4 f.movie_fragment ++ (bytes_of 4 f.sample ++ (bytes_of 4 f.offset ++ (f.priority ∷ f.dependency ∷ [])))

-- "the unit's fields in every piece": those of kind 2, or for kind 3 the item id
unfoldable pub fields_written : ℕ → Fields → List ℕ
fields_written kind f = cond (kind == 2) (timed_fields f) (cond (kind == 3) (bytes_of 4 f.item) [])

unfoldable pub data_unit : Piece → List ℕ → List ℕ
data_unit p s = fields_written p.unit.kind p.unit.fields ++ s

unfoldable pub mmtp_of : Piece → List ℕ → List ℕ
mmtp_of p s =
    mmtp_head p.unit.kind p.unit.packet_id p.unit.psn.0 ++ (payload_head p (length (data_unit p s)) ++ data_unit p s)

-- the packet of the piece `p` with the bytes `s`
unfoldable pub packet_of : ℕ → ℕ → Piece → List ℕ → List ℕ
packet_of cid sn p s = outer_head (3 + length (mmtp_of p s)) cid sn ++ mmtp_of p s
