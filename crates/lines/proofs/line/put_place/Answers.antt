-- Why `put_place` meets its contract: each part stands behind the one before.
use native.Mathlib.Omega.{arith}
use Rattle.lines.specs.Line.{place_text}
use Rattle.lines.proofs.TextLaws.{put-more}
use Rattle.lines.proofs.line.put_place.Goals as goal

pub returns : goal.returns
unfolding place_text
returns c =
    put-more c.put_field-next.ensures c.put_field.ensures (omega arith)
