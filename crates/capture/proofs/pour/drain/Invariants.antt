-- Why `drain` meets its contract: each event leaves what pouring comes to, and less waits.
use Rattle.std.proofs.Common.{◌≡◌, ◌≤◌, length}
use Rattle.state.specs.Words.{state_words, state_in, Exact}
use Rattle.capture.specs.declared.session.Session.{Session}
use Rattle.capture.specs.declared.session.Tally.{Tally}
use Rattle.capture.specs.Session.{session_in}
use Rattle.capture.specs.Waits.{waits}
use Rattle.capture.specs.Steps.{Drains, poured_of}
use Rattle.capture.proofs.pour.drain.Given as goal

-- the session in a turn, beside the state memory
abbrev pub on : Session → Tally → Session
on s t = record { phase = s.phase; tally = t }

abbrev pub invariant-loop-words : goal.invariant-loop-words
invariant-loop-words l =
    (poured_of (session_in (on l.session l.tally) l.words) l.packet l.collecting l.out l.place
    ≡ poured_of (session_in l.session l.initial.words) l.packet l.initial.collecting l.initial.out l.at)
    × Drains (session_in (on l.session l.tally) l.words) (length l.packet) (length l.collecting)
    × (state_words ≤ length l.words) × Exact l.initial.words l.words

abbrev pub decreases-loop-words : goal.decreases-loop-words
decreases-loop-words l =
    waits (state_in l.words) l.packet
