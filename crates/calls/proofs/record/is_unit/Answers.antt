-- Why is_unit meets its contract: each word within its bounds, and the first one 2.
use Rattle.std.proofs.Common.{arith, sym, ◌∙◌}
use Rattle.calls.specs.Record.{unit_most}
use Rattle.calls.proofs.RecordLaws.{unit-not, unit-first, within-length}
use Rattle.calls.proofs.record.is_unit.Goals as goal

pub bounds-event-0 : goal.bounds-event-0
unfolding unit_most
bounds-event-0 c =
    let l = within-length _ (sym c.are_within.ensures ∙ c.if-are_within.true) in
    omega arith

pub returns-then-are_within : goal.returns-then-are_within
unfolding unit_most
returns-then-are_within c = sym (unit-first _ (sym c.are_within.ensures ∙ c.if-are_within.true))

pub returns-else-are_within : goal.returns-else-are_within
unfolding unit_most
returns-else-are_within c =
    let e = c.if-are_within.false in
    e ∙ sym (unit-not _ (sym c.are_within.ensures ∙ e))
