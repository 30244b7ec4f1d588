-- Why `arrive` meets its contract: the MMTP packet lies in the TLV packet, and it is read as the definition reads it.
use Prim.Native.Nat.{◌<◌, ◌≤◌, ◌+◌}
use mathlib.Core.Path.{◌≡◌, refl, sym}
use native.Mathlib.Omega.{arith}
use lib.ListN.{length}
use Rattle.std.proofs.lemmas.Grind.{common_steps}
use Rattle.wire.proofs.MemoryLaws.{part-within, slice-rest}
use Rattle.mmtp.specs.Packet.{as_reading}
use Rattle.mmtp.proofs.FlowLaws.{mmtp_place}
use Rattle.words.specs.Config.{read_config}
use Rattle.words.proofs.ConfigLaws.{watch-is}
use Rattle.delivery.specs.Packet.{read_by, arrived_at}
use Rattle.delivery.proofs.PacketLaws.{arrived_mmtp}
use Rattle.delivery.proofs.packet.arrive.Goals as goal
use Rattle.delivery.proofs.packet.arrive.Goals.{After-read}

-- the TLV packet comes to what its MMTP packet is read as
reads : (d : After-read) → let a = d.args in
    arrived_at (read_config a.t.now a.c) a.memory.now a.start a.end ≡ read_by (as_reading d.read.result) (a.start + d.in-Some.n) a.end
reads d =
    rw (
      d.read.ensures,
      d.load_count-watched.ensures,
      ← watch-is d.args.t.now d.args.c,
      slice-rest d.part-bytes.result.now d.in-Some.n,
      d.part-bytes.ensures,
      d.distance-len.ensures,
    )
    (arrived_mmtp _ _ _ _ _ _ (rw (d.in-Some.is, d.part-bytes.ensures, d.distance-len.ensures, d.load_cid-cid.ensures) at (sym d.in_ok-n.ensures)))

pub overflow_add-start : goal.overflow_add-start
overflow_add-start c =
    let r = mmtp_place _ _ _ (rw c.in-Some.is at (sym c.in_ok-n.ensures)) in
    let z : 0 < length c.part-bytes.result.now = omega (arith, r.1, r.2) in
    let w = part-within _ _ _ (rw c.part-bytes.ensures at z) in
    let v : c.args.start + length c.part-bytes.result.now ≤ length c.args.memory.now = rw (← c.part-bytes.ensures) at w in
    omega (arith, r.2, v, c.well_formed)

pub returns-in_err-packet : goal.returns-in_err-packet
returns-in_err-packet c =
    rw (reads (goal.at.returns-in_err-packet c).After-read, c.in_err-packet.was) (grind (arith, common_steps, c.from_residual-in_err-packet.ensures))

pub returns-in_default-2 : goal.returns-in_default-2
returns-in_default-2 c = rw (reads (goal.at.returns-in_default-2 c).After-read, c.in_ok-packet.was, c.in_default-2.is) refl

pub returns : goal.returns
returns c = rw (reads (goal.at.returns c).After-read, c.in_ok-packet.was, c.in-Some-2.is) refl
