-- Why a field of two bytes is read: they are its digits, the higher one first.
use native.Mathlib.Omega.{arith}
use native.Mathlib.Nat.{add-zero}
use Rattle.wire.specs.Field.{be}
use Rattle.wire.proofs.field.U16Field.read.Goals as goal

pub returns : goal.returns
unfolding be
returns c = rw add-zero (omega arith)
