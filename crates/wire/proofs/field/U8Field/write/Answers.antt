-- Why a field of one byte is written.
use native.Mathlib.Omega.{arith}
use Rattle.wire.proofs.Write.{write_1}
use Rattle.wire.proofs.field.U8Field.write.Goals as goal

pub returns : goal.returns
returns c = write_1 _ _ _ (omega arith) (omega arith)
