-- Why `put_note` meets its contract: each part stands behind the one before.
use native.Mathlib.Omega.{arith}
use Rattle.lines.specs.Line.{note_line}
use Rattle.lines.proofs.TextLaws.{put_four}
use Rattle.lines.proofs.line.put_note.Goals as goal

pub returns : goal.returns
unfolding note_line
returns c =
    put_four c.put_place-word.ensures c.put_word-number.ensures (rw c.from.ensures at c.put_field-last.ensures) c.put_id.ensures (omega arith)
