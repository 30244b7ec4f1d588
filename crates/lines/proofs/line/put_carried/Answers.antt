-- Why `put_carried` meets its contract: each part stands behind the one before.
use native.Mathlib.Omega.{arith}
use Rattle.lines.specs.Line.{carried_text}
use Rattle.lines.proofs.TextLaws.{put_four}
use Rattle.lines.proofs.line.put_carried.Goals as goal

pub returns : goal.returns
unfolding carried_text
returns c =
    put_four (rw c.from.ensures at c.put_field-kind.ensures) (rw c.from-2.ensures at c.put_field-psn.ensures)
    (rw c.from-3.ensures at c.put_field-mpu.ensures) (rw c.from-4.ensures at c.put_field.ensures) (omega arith)
