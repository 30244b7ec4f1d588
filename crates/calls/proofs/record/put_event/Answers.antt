-- Why put_event meets its contract, case by case.
use Rattle.std.proofs.Common.{◌≡◌}
use Rattle.queue.specs.declared.event.Event.TheVariants.{Note, Unit as AUnit}
use Rattle.calls.specs.Record.{event_record}
use Rattle.calls.proofs.record.put_event.Goals as goal

pub returns-in-None : goal.returns-in-None
unfolding event_record
returns-in-None c = rw c.in-None.is (record { put = c.put_zeros.ensures; sized = tt })

pub returns-in-Some-Note : goal.returns-in-Some-Note
unfolding event_record
returns-in-Some-Note c =
    let e : c.in-Some-Note.field-0 ≡ Note c.in-Some-Note.number c.in-Some-Note.id =
    rw c.in-Some-Note.is at c.in-Some-Note.field-0-is in
    let n = c.put_note.ensures in
    rw (c.in-Some-Note.is, e) (record { put = n.put; sized = n.sized })

pub returns-in-Some-Unit : goal.returns-in-Some-Unit
unfolding event_record
returns-in-Some-Unit c =
    let e : c.in-Some-Unit.field-0 ≡ AUnit c.in-Some-Unit.given =
    rw c.in-Some-Unit.is at c.in-Some-Unit.field-0-is in
    let u = c.put_unit.ensures in
    rw (c.in-Some-Unit.is, e) (record { put = u.put; sized = u.sized })
