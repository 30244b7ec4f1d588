-- Why keep_rules meets its contract: the loop has summed the slots of the modes passed, and each of these is good.
use Prim.Native.Nat.{◌*◌, ◌≤◌}
use mathlib.Core.Path.{◌≡◌}
use mathlib.Core.Bool.{true}
use Rattle.tmcc.specs.Count.{all_below}
use Rattle.tmcc.specs.Mode.{mode_good, slots_of}
use Rattle.tmcc.proofs.mode.keep_rules.Given as goal

abbrev pub invariant-loop-k : goal.invariant-loop-k
invariant-loop-k l = (l.slots ≤ 255 * l.k) × (l.slots ≡ slots_of l.block l.k) × (all_below (mode_good l.block) l.k ≡ true)
