-- Why `put_unit` meets its contract: each part stands behind the one before.
use native.Mathlib.Omega.{arith}
use Rattle.lines.specs.Line.{unit_line}
use Rattle.lines.proofs.TextLaws.{put_four}
use Rattle.lines.proofs.line.put_unit.Goals as goal

pub returns : goal.returns
unfolding unit_line
returns c =
    put_four c.put_place-word.ensures c.put_word-carried.ensures c.put_carried-len.ensures c.put_field.ensures (omega arith)
