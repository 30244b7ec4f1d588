-- What is claimed of feed: the text that it writes is the definition's, however the capture is cut.
use Rattle.std.specs.Prelude.{ℕ, ◌+◌, ◌<◌, ◌≤◌, ◌≡◌, List, ◌++◌, length, drop}
use Rattle.lines.specs.Text.{wrote}
use Rattle.capture.specs.Command.{longest_command, size_of}
use Rattle.capture.specs.Capture.{text_of}
use Rattle.feeding.specs.Feed.{World, held_of, fed_from}

-- what is held begins a command that is not whole, and all places lie within their memories
pub record Right (block : List ℕ) (w : World) : Type 0 where
  pub part : (w.held ≡ 0 → ⊥) → w.held < size_of (held_of w.command w.held)
  pub held : w.held ≤ length w.command
  pub long : longest_command ≤ length w.command
  pub read : w.read ≤ length block
  pub written : w.written ≤ length w.out

-- the bytes that are not carried out yet: what is held, the rest of the block, and what comes after it
abbrev pub ahead : List ℕ → World → List ℕ → List ℕ
ahead block w more = held_of w.command w.held ++ (drop w.read block ++ more)

-- feeding wrote the first of the lines that the bytes ahead come to; what it left comes to the others, whatever follows the block
pub record Feeds (block : List ℕ) (w v : World) : Type 0 where
  pub text : List ℕ
  pub written : (v.written, v.out) ≡ wrote w.out w.written text
  pub within : w.written + length text ≤ length w.out
  pub rest : (more : List ℕ) →
      text_of w.session w.packet w.collecting (ahead block w more)
      ≡ text ++ text_of v.session v.packet v.collecting (ahead block v more)

abbrev pub FeedClaim : Type 0
FeedClaim = (block : List ℕ) (w : World) → Right block w → Right block (fed_from block w) × Feeds block w (fed_from block w)
