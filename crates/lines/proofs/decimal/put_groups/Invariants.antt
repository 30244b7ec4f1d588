-- Why `put_groups` meets its contract: writing the groups that are left makes the whole.
use Prim.Native.Nat.{ℕ, ◌+◌, ◌*◌, ◌≤◌}
use mathlib.Core.Path.{◌≡◌}
use mathlib.Core.List.{List}
use lib.ListN.{length}
use Rattle.lines.specs.Decimal.{last_groups}
use Rattle.lines.specs.Text.{wrote}
use Rattle.lines.proofs.decimal.put_groups.Given as goal

pub record Goes (out₀ : List ℕ) (at n k : ℕ) (out : List ℕ) (left end : ℕ) : Type 0 where
  pub within : left ≤ 4
  pub same : length out ≡ length out₀
  pub room : end + 4 * left ≤ length out
  pub whole : wrote out end (last_groups n left) ≡ wrote out₀ at (last_groups n k)

abbrev pub invariant-loop-left : goal.invariant-loop-left
invariant-loop-left l = Goes l.initial.out l.at l.n l.k l.out l.left l.end
