-- Why `put_short` meets its contract: a pair stands behind the digits of a hundredth.
use Prim.Native.Nat.{ℕ, ◌+◌, ◌/◌, ◌%◌, ◌<◌, ◌≤◌}
use mathlib.Core.Path.{◌≡◌}
use native.Mathlib.Omega.{arith}
use lib.ListN.{length, length-append}
use Rattle.lines.specs.Decimal.{decimal}
use Rattle.lines.proofs.DecimalLaws.{decimal-pair, length-pair}
use Rattle.lines.proofs.TextLaws.{written-room, written-more}
use Rattle.lines.proofs.decimal.put_short.Goals as goal

behind : (n : ℕ) → 100 ≤ n → n < 10000 → length (decimal n) ≡ length (decimal (n / 100)) + 2
behind n h l = let p = length-pair (n % 100) in rw (decimal-pair n h (omega arith), length-append) (omega arith)

pub put_two-next-requires : goal.put_two-next-requires
put_two-next-requires c =
    (omega arith, omega (arith, behind c.args.n c.if-n-lt100.false c.requires.0))

pub put_pair-requires : goal.put_pair-requires
put_pair-requires c =
    let l = behind c.args.n c.if-n-lt100.false c.requires.0 in
    (omega arith, written-room _ _ _ _ _ c.put_two-next.ensures 2 (omega (arith, l, c.requires.1)))

pub returns : goal.returns
returns c =
    let n = c.args.n in
    let l = behind n c.if-n-lt100.false c.requires.0 in
    rw (decimal-pair n c.if-n-lt100.false (omega (arith, c.requires.0)))
    (written-more _ _ _ _ _ c.put_two-next.ensures _ _ _ c.put_pair.ensures (omega (arith, l, length-pair (n % 100), c.requires.1)))
