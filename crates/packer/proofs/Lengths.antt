-- The lengths of a packet's parts.
use Rattle.std.proofs.Common.{◌≡◌, ℕ, ◌+◌, ◌≤◌, Bool, true, false, cond, eqb, List, [], length, refl, arith, length-append, ne_eqb}
use Rattle.wire.specs.Field.{bytes_of}
use Rattle.mmtp.specs.declared.payload.Indicator.{Indicator}
use Rattle.mmtp.specs.declared.unit.Fields.{Fields}
use Rattle.mmtp.specs.Unit.{field_bytes}
use Rattle.reassembly.specs.declared.join.Piece.{Piece}
use Rattle.packer.specs.Packet.{outer_head, mmtp_head, mpu_head, signalling_head, payload_head}
use Rattle.packer.specs.Packet.{timed_fields, fields_written, data_unit, mmtp_of, packet_of}
use Rattle.packer.specs.Writing.{payload_head_bytes, head_bytes}

pub length_outer : (len cid sn : ℕ) → length (outer_head len cid sn) ≡ 7
unfolding outer_head bytes_of
length_outer len cid sn = refl

pub length_mmtp_head : (kind id psn : ℕ) → length (mmtp_head kind id psn) ≡ 12
unfolding mmtp_head bytes_of
length_mmtp_head kind id psn = refl

pub length-mpu-head : (len kind : ℕ) (fi : Indicator) (counter mpu : ℕ) → length (mpu_head len kind fi counter mpu) ≡ 8
unfolding mpu_head bytes_of
length-mpu-head len kind fi counter mpu = refl

pub length_payload_head : (p : Piece) (len : ℕ) → length (payload_head p len) ≡ payload_head_bytes p.unit.kind
unfolding payload_head payload_head_bytes signalling_head mpu_head bytes_of
length_payload_head p len = go (eqb p.unit.kind 4)
  where
    go : (t : Bool)
        → length (cond t (signalling_head p.indicator p.counter)
        (mpu_head (6 + len) p.unit.kind p.indicator p.counter p.unit.mpu))
        ≡ cond t 2 8
    go true = refl
    go false = refl

pub length_fields : (kind : ℕ) (f : Fields) → length (fields_written kind f) ≡ field_bytes kind
unfolding fields_written field_bytes timed_fields bytes_of
length_fields kind f = go (eqb kind 2) (eqb kind 3)
  where
    go : (a b : Bool) → length (cond a (timed_fields f) (cond b (bytes_of 4 f.item) [])) ≡ cond a 14 (cond b 4 0)
    go true b = refl
    go false true = refl
    go false false = refl

pub length-unit : (p : Piece) (s : List ℕ) → length (data_unit p s) ≡ field_bytes p.unit.kind + length s
unfolding data_unit
length-unit p s = rw (length-append, length_fields)

pub length_mmtp : (p : Piece) (s : List ℕ)
    → length (mmtp_of p s) ≡ 12 + (payload_head_bytes p.unit.kind + (field_bytes p.unit.kind + length s))
unfolding mmtp_of
length_mmtp p s =
    rw (length-append, length_mmtp_head, length-append, length_payload_head, length-unit)

pub length-packet : (cid sn : ℕ) (p : Piece) (s : List ℕ) → length (packet_of cid sn p s) ≡ head_bytes p.unit.kind + length s
unfolding packet_of head_bytes
length-packet cid sn p s = rw (length-append, length_outer, length_mmtp) (omega arith)

-- what each adds, by the kind
pub head-4 : (kind : ℕ) → kind ≡ 4 → payload_head_bytes kind ≡ 2
unfolding payload_head_bytes
head-4 kind e = rw e

pub head-not-4 : (kind : ℕ) → (kind ≡ 4 → ⊥) → payload_head_bytes kind ≡ 8
unfolding payload_head_bytes
head-not-4 kind e = rw (ne_eqb _ _ e)

pub field-bytes-most : (kind : ℕ) → field_bytes kind ≤ 14
unfolding field_bytes
field-bytes-most kind = go (eqb kind 2) (eqb kind 3)
  where
    go : (a b : Bool) → cond a 14 (cond b 4 0) ≤ 14
    go true b = omega arith
    go false true = omega arith
    go false false = omega arith

pub sizes : (kind : ℕ)
    → (head_bytes kind ≡ 19 + payload_head_bytes kind + field_bytes kind) × (payload_head_bytes kind ≤ 8) × (field_bytes kind ≤ 14)
unfolding head_bytes payload_head_bytes
sizes kind = (refl, go (eqb kind 4), field-bytes-most kind)
  where
    go : (t : Bool) → cond t 2 8 ≤ 8
    go true = omega arith
    go false = omega arith
