-- One turn of reading on, over the words: what the queue gives or the cursor comes to, and what that leaves to read.
use Rattle.std.specs.Prelude.{ℕ, ◌≡◌, List}
use Rattle.delivery.specs.Found.{Found}
use Rattle.delivery.specs.Cursor.{Turn, turn_of}
use Rattle.state.specs.Words.{state_in}
use Rattle.receiver.specs.Next.{past}

abbrev pub turn_in : List ℕ → List ℕ → Turn
turn_in t p = turn_of (state_in t).queue (state_in t).cursor p

-- the words `t` come to `f`, and `v` are past it
pub record Turned (t p : List ℕ) (f : Found) (v : List ℕ) : Type 0 where
  pub found : (turn_in t p).found ≡ f
  pub past : state_in v ≡ past (state_in t) (turn_in t p)
