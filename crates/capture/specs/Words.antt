-- What the functions of a capture answer and leave, the receiver's state being in words that the caller lends.
use Rattle.std.specs.Prelude.{◌≡◌, ℕ, ◌<◌, ◌≤◌, List, length}
use Rattle.queue.specs.Event.{Event}
use Rattle.queue.specs.Event.{Nothing, Note, Unit, Refused}
use Rattle.state.specs.State.{Called}
use Rattle.state.specs.Words.{state_words, state_in, Clean, Exact}
use Rattle.capture.specs.declared.session.Session.{Session as Values}
use Rattle.capture.specs.declared.session.Progress.{Progress as ValuesProgress}
use Rattle.capture.specs.Session.{Progress, session_in, progress_in, ended, fresh_values, fresh_session}

-- the session after an event that is no line, beside the state memory
unfoldable pub closed_values : Values → Event → Values
closed_values s Nothing = s
closed_values s (Note n id) = s
closed_values s (Unit g) = s
closed_values s (Refused n) = ended s

-- by a definition's answer x: the call that a command makes; a command that is carried out; calling next
pub record Calls (before : List ℕ) (r : ℕ) (after q : List ℕ) (x : Called × List ℕ) : Type 0 where
  pub answer : (record { refusal = r; state = state_in after }, q) ≡ x
  pub exact : Exact before after

pub record Acts (before : List ℕ) (r : ValuesProgress) (after q o : List ℕ) (x : Progress × List ℕ × List ℕ) : Type 0 where
  pub answer : (progress_in r after, q, o) ≡ x
  pub exact : Exact before after

abbrev pub Pours : List ℕ → ValuesProgress → List ℕ → List ℕ → List ℕ → Progress × List ℕ × List ℕ → Type 0
Pours = Acts

-- a state memory that is too short: nothing is done
pub record PoursOr (s : Values) (at : ℕ) (before c out : List ℕ) (r : ValuesProgress) (after d o : List ℕ)
    (x : Progress × List ℕ × List ℕ) : Type 0 where
  pub short : length before < state_words → (r ≡ record { session = s; at = at }) × (after ≡ before) × (d ≡ c) × (o ≡ out)
  pub long : state_words ≤ length before → (progress_in r after, d, o) ≡ x
  pub exact : Exact before after

pub record Begins (before : List ℕ) (r : Values) (after : List ℕ) : Type 0 where
  pub values : r ≡ fresh_values
  pub short : length before < state_words → after ≡ before
  pub long : state_words ≤ length before → (session_in r after ≡ fresh_session) × Clean after
  pub exact : Exact before after
