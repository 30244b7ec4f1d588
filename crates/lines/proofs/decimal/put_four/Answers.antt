-- Why `put_four` meets its contract: one pair behind the other.
use native.Mathlib.Omega.{arith}
use Rattle.lines.specs.Decimal.{four}
use Rattle.lines.proofs.DecimalLaws.{length-pair}
use Rattle.lines.proofs.TextLaws.{written-room, written-more}
use Rattle.lines.proofs.decimal.put_four.Goals as goal

pub put_pair-requires : goal.put_pair-requires
put_pair-requires c =
    (omega arith, written-room _ _ _ _ _ c.put_pair-half.ensures 2 (rw length-pair (omega (arith, c.requires.1))))

pub returns : goal.returns
unfolding four
returns c =
    written-more _ _ _ _ _ c.put_pair-half.ensures _ _ _ c.put_pair.ensures
    (rw (length-pair, length-pair) (omega (arith, c.requires.1)))
