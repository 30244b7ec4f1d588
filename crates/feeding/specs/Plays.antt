-- A capture played: its bytes fed in blocks of any size, its lines written to memories of any size, each call going on where the
-- last one stopped.
use Rattle.std.specs.Prelude.{ℕ, ◌≤◌, ◌≡◌, true, false, List, [], ◌++◌, length, take, drop}
use Rattle.lines.specs.Text.{wrote}
use Rattle.capture.specs.Command.{longest_command}
use Rattle.capture.specs.Session.{Session, busy, is_ended, fresh_session}
use Rattle.capture.specs.Capture.{last_line, capture_of}
use Rattle.capture.specs.Steps.{Poured, roomy, poured_of}
use Rattle.feeding.specs.Feed.{FeedLeaves, fed_of}

-- what the calls hand on
pub record Player : Type 0 where
  pub session : Session
  pub held : ℕ
  pub command : List ℕ
  pub packet : List ℕ
  pub collecting : List ℕ

-- a call of feed, and of pour
abbrev pub fed : Player → List ℕ → List ℕ → FeedLeaves
fed x block out = fed_of x.session x.held x.command block x.packet x.collecting out

abbrev pub after_feed : FeedLeaves → Player
after_feed r = record { session = r.0.session; held = r.0.held; command = r.1; packet = r.2; collecting = r.3 }

abbrev pub poured : Player → List ℕ → Poured
poured x out = poured_of x.session x.packet x.collecting out 0

abbrev pub after_pour : Player → Poured → Player
after_pour x r =
    record { session = r.0.session; held = x.held; command = x.command; packet = x.packet; collecting = r.1 }

-- from a player and the bytes to come, to the text that was written, a player, and the bytes that are left
pub data Plays : Player → List ℕ → List ℕ → Player → List ℕ → Type 0 where
  stops : {x : Player} {b : List ℕ} → Plays x b [] x b
  feeds : {x y : Player} {t l : List ℕ} (block later out : List ℕ)
      → Plays (after_feed (fed x block out)) (drop (fed x block out).0.read block ++ later) t y l
      → Plays x (block ++ later) (take (fed x block out).0.written (fed x block out).4 ++ t) y l
  pours : {x y : Player} {b t l : List ℕ} (out : List ℕ) → Plays (after_pour x (poured x out)) b t y l
      → Plays x b (take (poured x out).0.at (poured x out).2 ++ t) y l

abbrev pub first : List ℕ → List ℕ → List ℕ → Player
first command p c = record { session = fresh_session; held = 0; command = command; packet = p; collecting = c }

-- once all bytes are read and nothing is owed, or the session has ended, the text with the last line is the capture's
abbrev pub PlayClaim : Type 0
PlayClaim =
    (command p c b t : List ℕ) (y : Player) (l : List ℕ) → longest_command ≤ length command → Plays (first command p c) b t y l
    → (busy y.session ≡ false → l ≡ [] → capture_of p c b ≡ t ++ last_line y.session.tally)
    × (is_ended y.session.phase ≡ true → capture_of p c b ≡ t ++ last_line y.session.tally)

-- a capture that is fed at once: the first of its lines were written, and where a longest line has room behind them, the last line
-- alone is left
pub record AtOnce (lines out : List ℕ) (f : FeedLeaves) : Type 0 where
  pub text : List ℕ
  pub rest : List ℕ
  pub whole : lines ≡ text ++ rest
  pub written : (f.0.written, f.4) ≡ wrote out 0 text
  pub within : length text ≤ length out
  pub last : roomy (length f.4) f.0.written ≡ true → rest ≡ last_line f.0.session.tally

abbrev pub WholeClaim : Type 0
WholeClaim =
    (command p c b out : List ℕ) → longest_command ≤ length command → AtOnce (capture_of p c b) out (fed (first command p c) b out)
