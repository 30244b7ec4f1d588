-- Why move_held meets its contract: nothing to move, or the bytes that are held.
use mathlib.Core.Path.{sym, ◌∙◌}
use native.Mathlib.Omega.{arith}
use Rattle.wire.proofs.MemoryLaws.{pasted-zero}
use Rattle.intake.specs.Slot.{moved_mem}
use Rattle.intake.proofs.SlotLaws.{part_room}
use Rattle.intake.proofs.slot.move_held.Goals as goal

pub returns-then-n-eq0 : goal.returns-then-n-eq0
unfolding moved_mem
returns-then-n-eq0 c =
    let e = c.held_len-n.ensures in
    (e, rw (sym e ∙ c.if-n-eq0.true) (pasted-zero _ _ _))

pub move_down-requires : goal.move_down-requires
move_down-requires c =
    let a = c.args in
    let r = part_room a.packet.now a.held.start a.held.len in
    (omega arith, omega (arith, r, c.held_len-n.ensures, c.if-n-eq0.false))

pub returns : goal.returns
unfolding moved_mem
returns c =
    let e = c.held_len-n.ensures in
    (e, c.move_down.ensures ∙ rw e)
