-- Why take meets its contract: a slot may be copied in two parts, one of them before the held bytes are moved.
use Rattle.intake.proofs.EarlyCopies.{free-most, taken_in_parts}
use Rattle.intake.proofs.slot.take.Goals as goal

-- the first part is a part of the slot
pub split_at-requires : goal.split_at-requires
split_at-requires c =
    let a = c.args in
    rw c.free_part.ensures (free-most _ a.packet.now a.bytes.now a.t c.requires.0 c.requires.1)

pub returns : goal.returns
returns c =
    let a = c.args in
    let e = c.free_part.ensures in
    let s = c.split_at.ensures in
    rw (c.copy_at-2.ensures, s.front_len, s.back, e)
    (taken_in_parts _ a.packet.now a.bytes.now a.t c.requires.0 c.requires.1 _
    (rw (c.copy_at.ensures, s.front, e) at c.settle-taken.ensures))
