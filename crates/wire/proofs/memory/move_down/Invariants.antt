-- Why `move_down` meets its contract: the loop has put in the first `i` bytes, and not yet overwritten those to come.
use mathlib.Core.Path.{◌≡◌}
use lib.ListN.{length, drop}
use lib.Seq.{paste}
use Rattle.wire.proofs.memory.move_down.Given as goal

abbrev pub invariant-loop-i : goal.invariant-loop-i
invariant-loop-i l = (length l.mem ≡ length l.initial.mem) × (l.mem ≡ paste l.initial.mem l.to (drop l.from l.initial.mem) l.i)
