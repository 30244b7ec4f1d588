-- Next, with its event as a record; and many events for one call: as many as next would give, up to a joined unit.
use Prim.Native.Nat.{ℕ, zero, suc, ◌+◌, ◌/◌}
use Rattle.std.specs.Prelude.{Bool, true, false, cond, eqb, ltb}
use mathlib.Core.List.{List, [], ◌∷◌}
use Rattle.std.proofs.Math.ListN.{length}
use Rattle.wire.specs.Words.{put_from}
use Rattle.queue.specs.declared.event.Memory.{Memory}
use Rattle.queue.specs.declared.event.Memory.TheVariants.{Packet, Collecting}
use Rattle.queue.specs.Event.{Event}
use Rattle.queue.specs.Event.{Nothing, Note, Unit, Refused}
use Rattle.state.specs.State.{State}
use Rattle.frames.specs.Slot.{short_by}
use Rattle.receiver.specs.Next.{NextOut, next_of}
use Rattle.calls.specs.Record.{record_words, event_record}

-- the number of a refused next; 0 where it is not refused
abbrev pub refusal_of : Event → ℕ
refusal_of Nothing = 0
refusal_of (Note n id) = 0
refusal_of (Unit g) = 0
refusal_of (Refused n) = n

-- a note or a unit
abbrev pub is_given : Event → Bool
is_given Nothing = false
is_given (Note n id) = true
is_given (Unit g) = true
is_given (Refused n) = false

-- a joined unit: it stands in collecting memory, where a later packet may overwrite it
abbrev pub is_collecting : Memory → Bool
is_collecting Packet = false
is_collecting Collecting = true

abbrev pub is_joined : Event → Bool
is_joined Nothing = false
is_joined (Note n id) = false
is_joined (Unit g) = is_collecting g.place.memory
is_joined (Refused n) = false

-- the event's record stands from word i on
abbrev pub put_event : List ℕ → ℕ → Event → List ℕ
put_event t i e = put_from t i 0 (event_record e)

-- what next leaves: its refusal's number or 0, the state, collecting memory, and the record's memory t
abbrev pub NextLeft : Type 0
NextLeft = ℕ × State × List ℕ × List ℕ

unfoldable pub next_left : List ℕ → NextOut → NextLeft
next_left t r =
    let e = r.0.event in
    (refusal_of e, r.0.state, r.1, cond (eqb (refusal_of e) 0) (put_event t 0 e) t)

-- 92 for a memory of fewer than 24 words (docs/DECISIONS.md), before next's own refusal
unfoldable pub next_call : State → List ℕ → List ℕ → List ℕ → NextLeft
next_call st p c t = cond (ltb (length t) record_words) (92, st, c, t) (next_left t (next_of st p c))

-- events that were given, and what the last call of next left
pub record Many : Type 0 where
  pub events : List Event
  pub state : State
  pub collecting : List ℕ

abbrev pub none : NextOut → Many
none r = record { events = []; state = r.0.state; collecting = r.1 }

abbrev pub behind : Event → Many → Many
behind e m = record { events = e ∷ m.events; state = m.state; collecting = m.collecting }

-- next is called until it gives no note and no unit, until it gave k of them, or until it gave a joined unit
unfoldable pub events_of : ℕ → State → List ℕ → List ℕ → Many
events_of zero st p c = record { events = []; state = st; collecting = c }
events_of (suc k) st p c =
    let r = next_of st p c in
    let e = r.0.event in
    cond (is_given e) (behind e (cond (is_joined e) (none r) (events_of k r.0.state p r.1))) (none r)

-- records one behind the other from word i on
unfoldable pub put_events : List ℕ → ℕ → List Event → List ℕ
put_events t i [] = t
put_events t i (e ∷ es) = put_events (put_event t i e) (i + record_words) es

-- what the call leaves: its refusal's number or 0, how many events, the state, collecting memory, and the records' memory t
abbrev pub EventsLeft : Type 0
EventsLeft = ℕ × ℕ × State × List ℕ × List ℕ

abbrev pub events_left : List ℕ → Many → ℕ × State × List ℕ × List ℕ
events_left t m = (length m.events, m.state, m.collecting, put_events t 0 m.events)

unfoldable pub events_call : State → List ℕ → List ℕ → List ℕ → ℕ → EventsLeft
events_call st p c t count =
    cond (ltb (length t) record_words) (92, count, st, c, t)
    (cond (short_by st.config (length p) (length c)) (22, count, st, c, t)
    (let g = events_left t (events_of (length t / record_words) st p c) in (0, g.0, g.1, g.2, g.3)))
