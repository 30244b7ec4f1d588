-- What feed answers and leaves, the receiver's state being in words that the caller lends.
use Rattle.std.specs.Prelude.{ℕ, ◌<◌, ◌≤◌, ◌≡◌, List, length}
use Rattle.state.specs.Words.{state_words, Exact}
use Rattle.capture.specs.declared.session.Session.{Session as Values}
use Rattle.capture.specs.declared.session.Progress.{Progress as ValuesProgress}
use Rattle.capture.specs.Session.{Session, Progress, session_in, progress_in}
use Rattle.feeding.specs.declared.feed.Fed.{Fed as ValuesFed}

-- what a block leaves
pub record Fed : Type 0 where
  pub session : Session
  -- how many bytes of a command that is not whole yet stand in the command memory
  pub held : ℕ
  -- how many bytes of the block were read
  pub read : ℕ
  -- how many bytes of text were written
  pub written : ℕ

abbrev pub fed_in : ValuesFed → List ℕ → Fed
fed_in r t = record { session = session_in r.session t; held = r.held; read = r.read; written = r.written }

-- by a definition's answer x: a command with what next gives
pub record Runs (before : List ℕ) (r : ValuesProgress) (after q d o : List ℕ) (x : Progress × List ℕ × List ℕ × List ℕ) : Type 0 where
  pub answer : (progress_in r after, q, d, o) ≡ x
  pub exact : Exact before after

-- a state memory that is too short: nothing is done
pub record Feeds (s : Values) (held : ℕ) (before command p c out : List ℕ) (r : ValuesFed) (after k q d o : List ℕ)
    (x : Fed × List ℕ × List ℕ × List ℕ × List ℕ) : Type 0 where
  pub short : length before < state_words
      → (r ≡ record { session = s; held = held; read = 0; written = 0 }) × (after ≡ before) × (k ≡ command) × (q ≡ p) × (d ≡ c) × (o ≡ out)
  pub long : state_words ≤ length before → (fed_in r after, k, q, d, o) ≡ x
  pub exact : Exact before after
