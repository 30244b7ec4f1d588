-- A whole capture in memory: the lines that are written, and both memories.
use Rattle.std.specs.Prelude.{ℕ, ◌+◌, ◌≤◌, ◌≡◌, List, [], ◌++◌, length, replicate}
use Rattle.lines.specs.Line.{longest_line}
use Rattle.lines.specs.Text.{wrote}
use Rattle.capture.specs.Command.{longest_command}
use Rattle.capture.specs.Session.{fresh_session}
use Rattle.capture.specs.Steps.{finished_of}
use Rattle.feeding.specs.Feed.{FeedLeaves, fed_of}

-- how many bytes of text, both memories, and the memory of the text
abbrev pub TextLeaves : Type 0
TextLeaves = ℕ × List ℕ × List ℕ × List ℕ

-- after the capture was fed, the last line
abbrev pub finished_by : FeedLeaves → TextLeaves
finished_by f = let w = finished_of f.0.session.tally f.4 f.0.written in (w.0, f.2, f.3, w.1)

-- the capture b is fed at once, with a command memory that is blank
unfoldable pub text_call : List ℕ → List ℕ → List ℕ → List ℕ → TextLeaves
text_call b p c out = finished_by (fed_of fresh_session 0 (replicate longest_command 0) b p c out)

-- the first r bytes of `lines` stand in the memory from byte 0 on, which is otherwise as it was; `rest` are the lines that are left
pub record TextBegins (lines out : List ℕ) (r : ℕ) (o : List ℕ) : Type 0 where
  pub text : List ℕ
  pub rest : List ℕ
  pub whole : lines ≡ text ++ rest
  pub put : (r, o) ≡ wrote out 0 text
  pub within : r ≤ length out
  -- none are left where a longest line has room behind them
  pub all : r + longest_line ≤ length out → rest ≡ []
