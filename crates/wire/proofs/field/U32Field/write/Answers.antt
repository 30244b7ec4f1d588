-- Why a field of four bytes is written: the library's bytes are the definition's.
use mathlib.Core.Path.{◌∙◌, sym}
use Prim.Native.Nat.{◌+◌, ◌-◌}
use native.Mathlib.Omega.{arith}
use Rattle.wire.proofs.FieldLaws.{length-bytes_of}
use Rattle.wire.proofs.Write.{bytes-4, put}
use Rattle.wire.proofs.field.U32Field.write.Goals as goal

pub returns : goal.returns
returns c =
    let a = c.args in
    put a.s.now a.i (a.i + 4 - a.i) _ _ 4 (c.copy_from_slice.ensures.after ∙ c.to_be_bytes.ensures ∙ bytes-4 a.self) (omega arith) (sym (length-bytes_of 4 a.self))
