-- Why `read_on` meets its contract: each turn leaves what reading on comes to, and the cursor less.
use mathlib.Core.Path.{◌≡◌}
use lib.ListN.{length}
use Rattle.delivery.specs.Cursor.{left}
use Rattle.receiver.specs.Next.{read_all}
use Rattle.state.specs.Words.{state_in, Exact}
use Rattle.receiver.proofs.next.read_on.Given as goal

abbrev pub invariant-loop-event : goal.invariant-loop-event
invariant-loop-event l =
    (read_all (state_in l.words) l.memory l.collecting ≡ read_all (state_in l.initial.words) l.memory l.initial.collecting) × Exact l.initial.words l.words
    × (length l.collecting ≡ length l.initial.collecting) × ((state_in l.words).config ≡ (state_in l.initial.words).config)

abbrev pub decreases-loop-event : goal.decreases-loop-event
decreases-loop-event l = left (state_in l.words).cursor
