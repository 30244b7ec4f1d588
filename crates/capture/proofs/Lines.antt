-- No line of an event is longer than the longest.
use Rattle.std.proofs.Common.{◌≤◌, length, arith}
use Rattle.queue.specs.Event.{Event}
use Rattle.queue.specs.Event.{Nothing, Note, Unit, Refused}
use Rattle.lines.specs.Line.{longest_line}
use Rattle.lines.proofs.LineLaws.{unit_longest, note-89, refused-29}
use Rattle.capture.specs.declared.session.Tally.{Tally}
use Rattle.capture.specs.Capture.{event_line}

pub line_longest : (t : Tally) (e : Event) → length (event_line t e) ≤ longest_line
unfolding event_line
line_longest t Nothing = omega arith
line_longest t (Note n id) = omega (arith, note-89 t.frames t.slot n id)
line_longest t (Unit g) = unit_longest t.frames t.slot g
line_longest t (Refused n) = omega (arith, refused-29 n)
