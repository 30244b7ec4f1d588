-- Why `put_end` meets its contract: each part stands behind the one before.
use native.Mathlib.Omega.{arith}
use Rattle.lines.specs.Line.{end_line}
use Rattle.lines.proofs.TextLaws.{put_four}
use Rattle.lines.proofs.line.put_end.Goals as goal

pub returns : goal.returns
unfolding end_line
returns c =
    put_four c.put_word-first.ensures c.put_field-second.ensures c.put_field-third.ensures c.put_field.ensures (omega arith)
