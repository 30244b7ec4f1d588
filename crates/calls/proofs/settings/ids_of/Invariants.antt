-- Why ids_of meets its contract: after k turns the first k ids are those of the words.
use Prim.Native.Nat.{◌+◌, ◌%◌}
use mathlib.Core.Path.{◌≡◌}
use lib.ListN.{length, get_or, take}
use Rattle.wire.specs.Tab.{tab}
use Rattle.calls.proofs.settings.ids_of.Given as goal

abbrev pub invariant-loop-k : goal.invariant-loop-k
invariant-loop-k l = (length l.ids ≡ 16) × (take l.k l.ids ≡ tab (λ j. get_or l.settings (4 + j) 0 % 65536) l.k)
