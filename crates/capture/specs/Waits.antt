-- How much next still gives at most. It falls with every event, so that calling next until nothing waits ends.
use Rattle.std.specs.Prelude.{ℕ, suc, ◌+◌, ◌-◌, ◌*◌, List, length}
use Rattle.intake.specs.declared.held.Cursor.{Cursor}
use Rattle.queue.specs.Waiting.{Give, Nothing, One, Many, Queue}
use Rattle.delivery.specs.Cursor.{one, span, left}
use Rattle.state.specs.State.{State}

-- a unit of an aggregate takes a byte at least
abbrev pub give_waits : Give → List ℕ → ℕ
give_waits Nothing p = 0
give_waits (One g) p = 1
give_waits (Many a) p = suc (length p - a.at)

-- notes, and units
unfoldable pub queue_waits : Queue → List ℕ → ℕ
queue_waits q p = one q.note + span q.over 0 + give_waits q.give p

-- the slot's note, each packet, and the tail
unfoldable pub cursor_waits : Cursor → ℕ
cursor_waits c = one c.note + left c

-- each of them may fill the queue once
unfoldable pub waits_by : Cursor → Queue → List ℕ → ℕ
waits_by c q p = cursor_waits c * (length p + 4) + queue_waits q p

abbrev pub waits : State → List ℕ → ℕ
waits st p = waits_by st.cursor st.queue p
