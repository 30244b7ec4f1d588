-- Why mode::of_slot meets its contract: the mode of what is left, from mode k on, is the mode of the slot.
use Prim.Native.Nat.{◌-◌}
use mathlib.Core.Path.{◌≡◌}
use Rattle.tmcc.specs.Mode.{mode_from, mode_of}
use Rattle.tmcc.proofs.mode.of_slot.Given as goal

abbrev pub invariant-loop-k : goal.invariant-loop-k
invariant-loop-k l = mode_from l.block (8 - l.k) l.k l.left ≡ mode_of l.block l.s
