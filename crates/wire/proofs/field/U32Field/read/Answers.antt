-- Why a field of four bytes is read: they are its digits, the highest one first.
use native.Mathlib.Omega.{arith}
use native.Mathlib.Nat.{add-zero}
use Rattle.wire.specs.Field.{be}
use Rattle.wire.proofs.field.U32Field.read.Goals as goal

pub returns : goal.returns
unfolding be
returns c = rw add-zero (omega arith)
