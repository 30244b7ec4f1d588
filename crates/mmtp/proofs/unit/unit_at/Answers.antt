-- Why unit_at meets its contract: past the end, no whole unit, or a unit that ends where the reader was moved to.
use Rattle.std.proofs.Common.{sym, ◌∙◌}
use borrow.Author.Tests.{lt-leb}
use Rattle.wire.proofs.MemoryLaws.{slice-rest}
use Rattle.mmtp.specs.Unit.{unit_at, data_unit}
use Rattle.mmtp.proofs.UnitLaws.{next_on}
use Rattle.mmtp.proofs.unit.unit_at.Goals as goal

pub returns : goal.returns
unfolding unit_at data_unit
returns c =
    let e = next_on _ _ _ _ _ (sym c.next_place.ensures ∙ c.in-Some.is) in
    rw (lt-leb _ _ c.if-m-at.false, e.0, e.1, c.fields_of.ensures, slice-rest, c.length_bytes.ensures, c.field_bytes.ensures)
