-- Why write_packet meets its contract: its parts, one behind the other.
use Rattle.std.proofs.Common.{◌≡◌, ℕ, ◌+◌, List, ◌++◌, length, refl, ap, ◌∙◌, append_assoc, arith}
use Rattle.wire.specs.Memory.{pasted}
use Rattle.packer.specs.Packet.{outer_head, mmtp_head, payload_head, fields_written, data_unit, mmtp_of, packet_of}
use Rattle.packer.specs.Writing.{head_bytes}
use Rattle.packer.proofs.Lengths.{sizes, length_outer, length_mmtp_head, length_payload_head}
use Rattle.packer.proofs.Lengths.{length_fields, length-unit, length_mmtp}
use Rattle.packer.proofs.Written.{wrote, behind}
use Rattle.packer.proofs.packet.write_packet.Goals as goal

pub returns : goal.returns
unfolding head_bytes packet_of mmtp_of data_unit
returns c =
    let a = c.args in
    let p = a.p in
    let u = p.unit in
    let s = a.bytes.now in
    let z = sizes u.kind in
    let n : c.field_bytes.result + length s ≡ length (data_unit p s) = omega (arith, length-unit p s) in
    let l : 15 + c.payload_head_bytes-head.result + (c.field_bytes.result + length s) ≡ 3 + length (mmtp_of p s) =
    omega (arith, length_mmtp p s) in
    let t1 = rw (c.outer_head.ensures, l, length_outer) at c.copy_at.ensures in
    let t2 = rw (c.mmtp_head.ensures, length_mmtp_head) at c.copy_at-2.ensures in
    let t3 = rw n at c.write_payload_head.ensures in
    let o = outer_head (3 + length (mmtp_of p s)) a.cid a.sn in
    let m = mmtp_head u.kind u.packet_id u.psn.0 in
    let y = payload_head p (length (data_unit p s)) in
    let x = fields_written u.kind u.fields in
    let e1 = wrote a.output.now a.at _ o 7 t1 (length_outer _ _ _) in
    let e2 = behind e1 _ m 12 (a.at + 7) t2 (length_mmtp_head _ _ _) refl (omega (arith, z)) in
    let e3 = behind e2 _ y _ (a.at + 19) t3 (length_payload_head _ _) refl (omega (arith, z)) in
    let e4 = behind e3 _ x _ _ c.write_fields.ensures (length_fields _ _) (omega (arith, z)) (omega (arith, z)) in
    let k = c.head_bytes.ensures in
    let e5 = behind e4 _ s _ _ c.copy_at-3.ensures refl (omega (arith, z, k)) (omega (arith, z)) in
    let q : (((o ++ m) ++ y) ++ x) ++ s ≡ packet_of a.cid a.sn p s = simp append_assoc in
    e5.is ∙ ap (λ (l : List ℕ). pasted a.output.now a.at l (head_bytes u.kind + length s)) q
