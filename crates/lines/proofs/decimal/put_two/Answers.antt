-- Why `put_two` meets its contract: one digit, or a pair.
use Prim.Native.Nat.{ℕ, ◌<◌}
use mathlib.Core.Path.{◌≡◌}
use native.Mathlib.Omega.{arith}
use lib.ListN.{length}
use Rattle.lines.specs.Decimal.{decimal}
use Rattle.lines.proofs.DecimalLaws.{decimal-one, decimal_two, length-pair}
use Rattle.lines.proofs.TextLaws.{wrote-byte}
use Rattle.lines.proofs.decimal.put_two.Goals as goal

one-digit : (n : ℕ) → n < 10 → length (decimal n) ≡ 1
one-digit n h = rw (decimal-one n h)

pub bounds-out-at : goal.bounds-out-at
bounds-out-at c = omega (arith, one-digit c.args.n c.if-n-lt10.true)

pub returns-then-n-lt10 : goal.returns-then-n-lt10
returns-then-n-lt10 c =
    let h = c.if-n-lt10.true in
    rw (c.character.ensures, decimal-one _ h) (wrote-byte _ _ _ (omega (arith, one-digit c.args.n h)))

pub put_pair-requires : goal.put_pair-requires
put_pair-requires c =
    let l = rw (decimal_two _ c.if-n-lt10.false c.requires.0) at c.requires.1 in
    (omega arith, omega (arith, length-pair c.args.n))

pub returns : goal.returns
returns c =
    rw (decimal_two _ c.if-n-lt10.false c.requires.0) c.put_pair.ensures
