-- Why `put_id` meets its contract: by the note's number.
use native.Mathlib.Omega.{arith}
use Rattle.lines.proofs.LineLaws.{id-none, id-some}
use Rattle.lines.proofs.TextLaws.{put-within}
use Rattle.lines.proofs.line.put_id.Goals as goal

pub returns-then-note-le51 : goal.returns-then-note-le51
returns-then-note-le51 c =
    rw (id-none _ _ c.if-note-le51.true) (put-within c.put_word.ensures (omega arith))

pub returns : goal.returns
returns c = rw (id-some _ _ c.if-note-le51.false) (rw c.from.ensures at c.put_field.ensures)
