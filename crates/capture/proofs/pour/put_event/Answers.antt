-- Why `put_event` meets its contract: by the event.
use Rattle.std.proofs.Common.{arith}
use Rattle.lines.proofs.TextLaws.{put-within}
use Rattle.capture.specs.Capture.{event_line}
use Rattle.capture.proofs.pour.put_event.Goals as goal

pub returns-in-Note : goal.returns-in-Note
unfolding event_line
returns-in-Note c = rw c.in-Note.is (put-within c.put_note.ensures (omega arith))

pub returns-in-Unit : goal.returns-in-Unit
unfolding event_line
returns-in-Unit c = rw c.in-Unit.is (put-within c.put_unit.ensures (omega arith))
