-- Why `put_pair` meets its contract: one character behind the other.
use native.Mathlib.Omega.{arith}
use lib.ListN.{length-set}
use Rattle.lines.specs.Decimal.{pair}
use Rattle.lines.proofs.TextLaws.{wrote_two}
use Rattle.lines.proofs.decimal.put_pair.Goals as goal

pub bounds-out-at-2 : goal.bounds-out-at-2
bounds-out-at-2 c = rw length-set (omega arith)

pub returns : goal.returns
unfolding pair
returns c =
    rw (c.character.ensures, c.character-2.ensures) (wrote_two _ _ _ _ c.requires.1)
