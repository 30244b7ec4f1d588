-- Why write_piece meets its contract: the piece's packet, and where it ends.
use Rattle.std.proofs.Common.{ℕ, ◌*◌, ◌<◌, ◌≤◌, length, take, drop, ap, arith, length-take}
use Rattle.reassembly.specs.declared.join.Piece.{Piece}
use Rattle.packer.specs.declared.pack.Plan.{Plan}
use Rattle.packer.specs.Writing.{Planned}
use Rattle.packer.specs.Pieces.{piece_at, with_psn}
use Rattle.packer.specs.Packer.{packet_at}
use Rattle.packer.proofs.Pieces.{begins}
use Rattle.packer.proofs.Runs.{length-packet-at}
use Rattle.packer.proofs.pack.write_piece.Goals as goal

-- the piece begins in the unit
begins-in : (p : Plan) (i len room : ℕ) → Planned p len room → i < p.n → i * p.m ≤ len
begins-in p i len room w h = begins p.m len i (omega (arith, w.counted, h))

pub overflow_mul-i : goal.overflow_mul-i
overflow_mul-i c = omega (arith, begins-in _ _ _ _ c.requires.planned c.requires.i_lt_n.0)

pub cut-bytes-requires : goal.cut-bytes-requires
cut-bytes-requires c = begins-in _ _ _ _ c.requires.planned c.requires.i_lt_n.0

pub write_packet-requires : goal.write_packet-requires
unfolding piece_at with_psn
write_packet-requires c =
    let a = c.args in
    let p = a.plan in
    let w = c.requires.planned in
    let s = take p.m (drop (a.i * p.m) a.bytes.now) in
    let k = ap (λ (x : Piece). x.unit.kind) c.number-p.ensures in
    let e = ap length c.cut-bytes.ensures in
    let l = length-packet-at p.unit p.cid p.sn p.n a.i s in
    let t = length-take p.m (drop (a.i * p.m) a.bytes.now) in
    record {
      fits = rw (k, e) (omega (arith, l, c.requires.i_lt_n.1));
      kinds = rw k w.kinds;
      cids = w.cids;
      sns = c.sn_at.ensures.1;
      small = rw e (omega (arith, t, w.small));
    }

pub overflow_add-result-2 : goal.overflow_add-result-2
overflow_add-result-2 c =
    let a = c.args in
    let p = a.plan in
    let e = ap length c.cut-bytes.ensures in
    let l = length-packet-at p.unit p.cid p.sn p.n a.i (take p.m (drop (a.i * p.m) a.bytes.now)) in
    omega (arith, e, l, c.head_bytes.ensures.0, c.requires.i_lt_n.1)

pub returns : goal.returns
unfolding packet_at piece_at with_psn
returns c =
    let a = c.args in
    let p = a.plan in
    let s = take p.m (drop (a.i * p.m) a.bytes.now) in
    let e = ap length c.cut-bytes.ensures in
    let l = length-packet-at p.unit p.cid p.sn p.n a.i s in
    let w = rw (c.number-p.ensures, c.sn_at.ensures.0, c.cut-bytes.ensures, ← l) at c.write_packet.ensures in
    record { ends = omega (arith, e, l, c.head_bytes.ensures.0); writes = w }
