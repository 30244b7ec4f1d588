use Rattle.std.proofs.Common.{refl, arith, length-set}
use Rattle.wire.specs.Tab.{tab}
use Rattle.wire.proofs.TabLaws.{tab-turn, tab-filled}
use Rattle.capture.specs.Command.{ids_of}
use Rattle.capture.proofs.command.ids.Goals as goal

pub loop-i-init : goal.loop-i-init
unfolding tab
loop-i-init c = (refl, refl)

pub loop-i-preserved : goal.loop-i-preserved
loop-i-preserved c = (simp length-set (omega arith), tab-turn _ _ _ _ (omega arith) c.loop-i.invariant.1 c.read.ensures)

pub returns : goal.returns
unfolding ids_of
returns c =
    let l = c.loop-i in
    tab-filled _ _ 16 _ l.invariant.0 (omega arith) (omega arith) l.invariant.1
