-- Why a field of one byte is read.
use native.Mathlib.Omega.{arith}
use native.Mathlib.Nat.{add-zero}
use Rattle.wire.specs.Field.{be}
use Rattle.wire.proofs.field.U8Field.read.Goals as goal

pub returns : goal.returns
unfolding be
returns c = rw add-zero (omega arith)
