-- Why has_twice meets its contract: below k no id stands twice.
use mathlib.Core.Path.{◌≡◌}
use mathlib.Core.Bool.{false}
use Rattle.state.specs.Start.{twice_below}
use Rattle.state.proofs.start.has_twice.Given as goal

abbrev pub invariant-loop-k : goal.invariant-loop-k
invariant-loop-k l = twice_below l.watch.ids l.k ≡ false
