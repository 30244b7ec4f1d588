-- Why `put_decimal` meets its contract: the last groups stand behind the first one to four digits.
use Prim.Native.Nat.{ℕ, ◌+◌, ◌*◌, ◌≤◌, ◌<◌}
use mathlib.Core.Path.{◌≡◌}
use mathlib.Core.List.{◌++◌}
use native.Mathlib.Omega.{arith}
use lib.ListN.{length, length-append}
use Rattle.lines.specs.Decimal.{decimal, without_groups, groups, last_groups}
use Rattle.lines.proofs.DecimalLaws.{groups-first, groups-behind, length-groups}
use Rattle.lines.proofs.TextLaws.{written-room, written-more}
use Rattle.lines.proofs.decimal.put_decimal.Goals as goal
use Rattle.lines.proofs.decimal.put_decimal.Goals.{After-without_groups}

-- the number is `a` and the last `k` groups
record Split (n k a : ℕ) : Type 0 where
  most : k ≤ 4
  short : a < 10000
  parts : decimal n ≡ decimal a ++ last_groups n k
  size : length (decimal n) ≡ length (decimal a) + 4 * k

split : (n k a : ℕ) → 10000 ≤ n → n < 18446744073709551616 → k ≡ groups 4 n → a ≡ without_groups n k → Split n k a
split n k a h l e f =
    let g = groups-first 4 n (omega arith) (omega arith) in
    let p = groups-behind n (groups 4 n) l g.some in
    let i = length-groups n (groups 4 n) in
    rw (f, e) (record { most = g.most; short = g.short; parts = p; size = rw (p, length-append) (omega arith) })

text : (c : After-without_groups) → Split c.args.n c.count_groups-k.result c.without_groups.result
text c = split _ _ _ c.if-n-lt10000.false c.ranges.n.fits c.count_groups-k.ensures c.without_groups.ensures

pub without_groups-requires : goal.without_groups-requires
without_groups-requires c =
    let g = groups-first 4 c.args.n (omega (arith, c.if-n-lt10000.false)) (omega (arith, c.ranges.n.fits)) in
    rw c.count_groups-k.ensures g.most

pub put_short-next-requires : goal.put_short-next-requires
put_short-next-requires c =
    let t = text (goal.at.put_short-next-requires c).After-without_groups in
    (t.short, omega (arith, t.size, c.requires))

pub put_groups-requires : goal.put_groups-requires
put_groups-requires c =
    let t = text (goal.at.put_groups-requires c).After-without_groups in
    (t.most, written-room _ _ _ _ _ c.put_short-next.ensures _ (omega (arith, t.size, c.requires)))

pub returns : goal.returns
returns c =
    let t = text (goal.at.returns c).After-without_groups in
    let n = c.args.n in
    let k = c.count_groups-k.result in
    rw t.parts
    (written-more _ _ _ _ _ c.put_short-next.ensures _ _ _ c.put_groups.ensures (omega (arith, t.size, length-groups n k, c.requires)))
