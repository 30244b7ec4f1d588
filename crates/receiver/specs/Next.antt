-- Next: it reads on, one event a call, until nothing waits.
use Rattle.std.specs.Prelude.{ℕ, zero, suc, false, cond, List, length, get_or, set}
use Rattle.reassembly.specs.Channel.{unheard}
use Rattle.queue.specs.Event.{Event as AnEvent}
use Rattle.queue.specs.Event.{Nothing, Refused}
use Rattle.state.specs.State.{Answer, State, with_owed, with_slot, with_queue, with_channels}
use Rattle.delivery.specs.Arrived.{Arrived, Silent, Noted, Good}
use Rattle.delivery.specs.Found.{Found}
use Rattle.delivery.specs.Found.{Event, Packet, Tail, Done}
use Rattle.delivery.specs.Cursor.{Turn, turn_of, left}
use Rattle.intake.specs.Slot.{holding}
use Rattle.frames.specs.Slot.{short_by}
use Rattle.delivery.specs.Packet.{note_queue, arrived_at, joined_of}

abbrev pub NextOut : Type 0
NextOut = Answer × List ℕ

abbrev pub answered : AnEvent → State → List ℕ → NextOut
answered e st c = (record { event = e; state = st }, c)

-- what a packet leaves in the state, whose queue is empty, and in collecting memory
abbrev pub arrived_by : Arrived → State → List ℕ → List ℕ → State × List ℕ
arrived_by Silent st p c = (st, c)
arrived_by (Noted n id) st p c = (with_queue st (note_queue n id), c)
arrived_by (Good l) st p c =
    let k = l.packet.place in
    let j = joined_of (get_or st.channels k unheard) l p c st.config.rules in
    (with_queue (with_channels st (set st.channels k j.0.channel)) j.0.queue, j.1)

unfoldable pub packet_of : State → List ℕ → List ℕ → ℕ → ℕ → State × List ℕ
packet_of st p c start end = arrived_by (arrived_at st.config p start end) st p c

-- the state past what was found
abbrev pub past : State → Turn → State
past st t = with_queue (with_slot st st.held t.cursor) t.queue

-- reading on from what was found, `st` being past it; `more` reads on from there
abbrev pub onwards : Found → State → List ℕ → List ℕ → (State → List ℕ → NextOut) → NextOut
onwards (Event e) st p c more = answered e st c
onwards (Packet start end) st p c more = let r = packet_of st p c start end in more r.0 r.1
onwards (Tail start len) st p c more = more (with_slot st (holding start len) st.cursor) c
onwards Done st p c more = answered Nothing (with_owed st false) c

-- `f` bounds the packets that are read without an event
unfoldable pub read_on : ℕ → State → List ℕ → List ℕ → NextOut
read_on zero st p c = answered Nothing st c
read_on (suc f) st p c =
    let t = turn_of st.queue st.cursor p in
    onwards t.found (past st t) p c (λ s d. read_on f s p d)

-- reading on until there is an event, or nothing waits
unfoldable pub read_all : State → List ℕ → List ℕ → NextOut
read_all st p c = read_on (suc (left st.cursor)) st p c

-- "next: 22"; with nothing owed, nothing waits
unfoldable pub next_of : State → List ℕ → List ℕ → NextOut
next_of st p c =
    cond (short_by st.config (length p) (length c)) (answered (Refused 22) st c)
    (cond st.owed (read_all st p c) (answered Nothing st c))
