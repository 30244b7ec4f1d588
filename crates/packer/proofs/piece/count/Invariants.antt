-- Why count meets its contract: what is counted and what is left to be counted are the whole count.
use Rattle.std.proofs.Common.{◌≡◌, ℕ, ◌+◌, ◌-◌}
use Rattle.packer.specs.Pieces.{count_by, max_pieces}
use Rattle.packer.proofs.piece.count.Given as goal

-- where the count stops: one more than the most pieces of a unit
abbrev pub stop : ℕ
stop = max_pieces + 1

abbrev pub invariant-loop-n : goal.invariant-loop-n
invariant-loop-n l = l.n + count_by (stop - l.n) l.m l.left ≡ count_by max_pieces l.m l.len + 1
