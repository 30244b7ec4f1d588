-- Why `without_groups` meets its contract: k divisions by 10,000 are one by its power.
use mathlib.Core.Path.{◌≡◌}
use native.Mathlib.Omega.{arith}
use Rattle.lines.specs.Decimal.{without_groups}
use Rattle.lines.proofs.decimal.without_groups.Goals as goal

pub returns-in-0 : goal.returns-in-0
unfolding without_groups
returns-in-0 c = rw c.in-0.is

pub returns-in-1 : goal.returns-in-1
unfolding without_groups
returns-in-1 c = rw c.in-1.is

pub returns-in-2 : goal.returns-in-2
unfolding without_groups
returns-in-2 c = rw c.in-2.is (omega arith)

pub returns-in-3 : goal.returns-in-3
unfolding without_groups
returns-in-3 c = rw c.in-3.is (omega arith)

pub returns-in_default : goal.returns-in_default
unfolding without_groups
returns-in_default c =
    let k : c.args.k ≡ 4 = omega arith in
    rw k (omega arith)
