-- What is claimed of pour: it writes whole lines, the first of those that are owed.
use Rattle.std.specs.Prelude.{◌≡◌, ℕ, ◌+◌, ◌≤◌, List, length}
use Rattle.capture.specs.Session.{Session}
use Rattle.lines.specs.Text.{wrote}
use Rattle.capture.specs.Capture.{drained_of, behind}
use Rattle.capture.specs.Steps.{Poured, poured_of}

-- pouring wrote whole lines, the first of those that are owed; what it left owes the others
pub record Pours (s : Session) (p c out : List ℕ) (at : ℕ) (w : Poured) : Type 0 where
  pub text : List ℕ
  pub written : (w.0.at, w.2) ≡ wrote out at text
  pub within : at + length text ≤ length out
  pub owed : drained_of s p c ≡ behind text (drained_of w.0.session p w.1)

abbrev pub PourClaim : Type 0
PourClaim = (s : Session) (p c out : List ℕ) (at : ℕ) → at ≤ length out → Pours s p c out at (poured_of s p c out at)
