-- Why `put_word` meets its contract: the word is copied.
use native.Mathlib.Omega.{arith}
use Rattle.lines.proofs.TextLaws.{wrote_copy}
use Rattle.lines.proofs.line.put_word.Goals as goal

pub returns : goal.returns
returns c = record { written = wrote_copy _ _ _ _ c.copy_at.ensures; within = omega arith }
