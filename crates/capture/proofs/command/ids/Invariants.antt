-- Why `ids` meets its contract: after i turns the first i entries are those of C.
use Rattle.std.proofs.Common.{◌≡◌, ◌+◌, ◌*◌, length, take}
use Rattle.wire.specs.Field.{be}
use Rattle.wire.specs.Tab.{tab}
use Rattle.capture.proofs.command.ids.Given as goal

abbrev pub invariant-loop-i : goal.invariant-loop-i
invariant-loop-i l = (length l.ids ≡ 16) × (take l.i l.ids ≡ tab (λ k. be 2 l.b (6 + 2 * k)) l.i)
