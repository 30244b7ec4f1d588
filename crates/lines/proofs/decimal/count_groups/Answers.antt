-- Why `count_groups` meets its contract: each test is one of a number with a group fewer.
use Prim.Native.Nat.{◌/◌}
use native.Mathlib.Omega.{arith}
use Rattle.lines.proofs.DecimalLaws.{groups_none, groups-more, groups-end}
use Rattle.lines.proofs.decimal.count_groups.Goals as goal

pub returns-then-n-lt100000000 : goal.returns-then-n-lt100000000
returns-then-n-lt100000000 c = let n = c.args.n in rw (groups-more 3 n c.requires, groups_none 3 (n / 10000) (omega arith))

pub returns-then-n-lt1000000000000 : goal.returns-then-n-lt1000000000000
returns-then-n-lt1000000000000 c =
    let n = c.args.n in
    rw (groups-more 3 n (omega arith), groups-more 2 (n / 10000) (omega arith), groups_none 2 (n / 10000 / 10000) (omega arith))

pub returns-then-n-lt10000000000000000 : goal.returns-then-n-lt10000000000000000
returns-then-n-lt10000000000000000 c =
    let n = c.args.n in
    let m = n / 10000 / 10000 in
    rw (groups-more 3 n (omega arith), groups-more 2 (n / 10000) (omega arith), groups-more 1 m (omega arith))
    (rw (groups_none 1 (m / 10000) (omega arith)))

pub returns : goal.returns
returns c =
    let n = c.args.n in
    let m = n / 10000 / 10000 in
    rw (groups-more 3 n (omega arith), groups-more 2 (n / 10000) (omega arith), groups-more 1 m (omega arith))
    (rw (groups-more 0 (m / 10000) (omega arith), groups-end))
