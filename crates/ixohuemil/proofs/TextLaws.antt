-- Laws of specs/Text.antt.
use Rattle.std.specs.Prelude.{ℕ, ◌≡◌, List, replicate}
use Rattle.capture.specs.Command.{longest_command}
use Rattle.capture.specs.Session.{fresh_session}
use Rattle.capture.specs.Steps.{finished_of}
use Rattle.feeding.specs.Feed.{FeedLeaves, fed_of}
use Rattle.ixohuemil.specs.Text.{text_call}

-- Laws.
pub text-call : (b p c out : List ℕ) (f : FeedLeaves) → f ≡ fed_of fresh_session 0 (replicate longest_command 0) b p c out
    → (n : ℕ) (o : List ℕ) → (n, o) ≡ finished_of f.0.session.tally f.4 f.0.written
    → (n, f.2, f.3, o) ≡ text_call b p c out
unfolding text_call
text-call b p c out f e n o w = rw (← e, ← w)
