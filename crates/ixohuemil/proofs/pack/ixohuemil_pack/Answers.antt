-- Why `ixohuemil_pack` meets its contract: no record of a unit, or the packer's answer; refused it stores nothing.
use mathlib.Core.Path.{sym, ◌∙◌}
use native.Mathlib.Omega.{arith}
use Rattle.calls.proofs.RecordLaws.{unit-length}
use Rattle.ixohuemil.proofs.AnswersLaws.{pack_unit, pack_other, pack_answered}
use Rattle.ixohuemil.proofs.pack.ixohuemil_pack.Goals as goal

pub returns-then-not-is_unit : goal.returns-then-not-is_unit
returns-then-not-is_unit c = rw c.into.ensures (sym (pack_other _ _ _ _ _ _ _ (sym c.is_unit.ensures ∙ c.if-not-is_unit.true)))

pub load_unit-unit-requires : goal.load_unit-unit-requires
load_unit-unit-requires c =
    let l = unit-length _ (sym c.is_unit.ensures ∙ c.if-not-is_unit.false) in
    omega arith

pub returns : goal.returns
returns c =
    let u = sym c.is_unit.ensures ∙ c.if-not-is_unit.false in
    let e = rw c.load_unit-unit.ensures at c.pack.ensures in
    rw (c.counted.ensures.answer, c.counted.ensures.count)
    (sym (pack_unit _ _ _ _ _ _ _ u ∙ pack_answered _ _ _ _ _ _ _ _ c.pack.result e))
