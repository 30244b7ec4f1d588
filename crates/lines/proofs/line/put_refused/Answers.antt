-- Why `put_refused` meets its contract: each part stands behind the one before.
use native.Mathlib.Omega.{arith}
use Rattle.lines.specs.Line.{refused_line}
use Rattle.lines.proofs.TextLaws.{put-more}
use Rattle.lines.proofs.line.put_refused.Goals as goal

pub returns : goal.returns
unfolding refused_line
returns c =
    put-more c.put_word-number.ensures (rw c.from.ensures at c.put_field.ensures) (omega arith)
