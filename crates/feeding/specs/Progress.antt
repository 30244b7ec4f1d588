-- What is claimed of the calls' getting on: where there is something to do, and room for a line, a call does some of it. A feed
-- leaves fewer bytes of the capture, a pour less that waits, so that calls in turn come to the end of it.
use Rattle.std.specs.Prelude.{ℕ, ◌+◌, ◌<◌, ◌≤◌, ◌≡◌, true, false, List, ◌⊎◌, length}
use Rattle.lines.specs.Line.{longest_line}
use Rattle.capture.specs.Command.{longest_command}
use Rattle.capture.specs.Session.{Session, busy, is_ended}
use Rattle.capture.specs.Waits.{waits}
use Rattle.capture.specs.Steps.{Poured, poured_of}
use Rattle.feeding.specs.Feed.{fed_of}

-- feed reads at least one byte of a block that is not empty, unless there is no room for a line, the command memory or the state memory
-- is too short, next is owed, or the session has ended
abbrev pub FeedGetsOn : Type 0
FeedGetsOn =
    (s : Session) (held : ℕ) (command block p c out : List ℕ) → 1 ≤ length block → longest_line ≤ length out → longest_command ≤ length command
    → busy s ≡ false → is_ended s.phase ≡ false → 1 ≤ (fed_of s held command block p c out).0.read

-- next is not owed any more, as in a session that has ended, or less than n waits
abbrev pub Less : List ℕ → ℕ → Poured → Type 0
Less p n w = (busy w.0.session ≡ false) ⊎ (waits w.0.session.state p < n)

-- so it is after pour, where next was owed and there was room for a line
abbrev pub PourGetsOn : Type 0
PourGetsOn =
    (s : Session) (p c out : List ℕ) (at : ℕ) → busy s ≡ true → at + longest_line ≤ length out
    → Less p (waits s.state p) (poured_of s p c out at)
