use mathlib.Core.Path.{refl}
use native.Mathlib.Omega.{arith}
use lib.ListN.{length-set}
use Rattle.wire.specs.Tab.{tab}
use Rattle.wire.proofs.TabLaws.{tab-turn, tab-filled}
use Rattle.calls.specs.Settings.{ids_in}
use Rattle.calls.proofs.settings.ids_of.Goals as goal

pub loop-k-init : goal.loop-k-init
unfolding tab
loop-k-init c = (refl, refl)

pub loop-k-preserved : goal.loop-k-preserved
loop-k-preserved c =
    let i = c.loop-k.invariant in
    (simp length-set i.0, tab-turn _ _ _ _ (omega arith) i.1 refl)

pub returns : goal.returns
unfolding ids_in
returns c =
    let i = c.loop-k.invariant in
    tab-filled _ _ 16 _ i.0 (omega arith) (omega arith) i.1
