-- Laws of specs/Events.antt.
use Prim.Native.Nat.{ℕ, suc, ◌+◌, ◌/◌, ◌<◌, ◌≤◌}
use Rattle.std.specs.Prelude.{◌≡◌, refl, true, false, Option, Some, None}
use Rattle.std.proofs.Common.{sym, ap, add-zero}
use mathlib.Core.List.{List}
use native.Mathlib.Omega.{arith}
use borrow.Author.Tests.{lt-ltb, le-ltb, ne_eqb}
use Rattle.std.proofs.Math.ListN.{length}
use Rattle.wire.proofs.WordsLaws.{put_one, stores}
use Rattle.queue.specs.declared.event.Event.{Event as GivenEvent}
use Rattle.queue.specs.declared.event.Event.TheVariants.{Note as ANote, Unit as AUnit}
use Rattle.queue.specs.Event.{Event, as_given, as_event}
use Rattle.queue.specs.Event.{Nothing, Note, Unit, Refused}
use Rattle.state.specs.State.{State}
use Rattle.frames.specs.Slot.{short_by}
use Rattle.receiver.specs.Next.{NextOut, next_of}
use Rattle.calls.specs.Record.{record_words, event_record, EventStored}
use Rattle.calls.proofs.RecordLaws.{length_record}
use Rattle.calls.specs.Events.{refusal_of, is_given, is_joined, put_event, next_left, next_call, Many, events_of, put_events, events_left, events_call}

-- Laws.
-- a refusal is an event of its own
pub refused-event : (e : Event) → (refusal_of e ≡ 0 → ⊥) → e ≡ Refused (refusal_of e)
refused-event Nothing h = absurd (h refl)
refused-event (Note n id) h = absurd (h refl)
refused-event (Unit g) h = absurd (h refl)
refused-event (Refused n) h = refl

-- what next gives is no refusal
pub unrefused-event : (e : Option GivenEvent) → refusal_of (as_event e) ≡ 0
unrefused-event None = refl
unrefused-event (Some (ANote n id)) = refl
unrefused-event (Some (AUnit g)) = refl

pub is_given-event : (e : GivenEvent) → is_given (as_given e) ≡ true
is_given-event (ANote n id) = refl
is_given-event (AUnit g) = refl

-- a record that was stored
pub event-put : (t u : List ℕ) (i : ℕ) (e : Event) → i + record_words ≤ length t → EventStored t u i e → u ≡ put_event t i e
event-put t u i e h s = put_one t u (put_event t i e) i 24 (event_record e) s.put (stores t i 24 (event_record e) (length_record e) h)

-- next, case by case
module _ (st : State) (p c t : List ℕ) where
  pub next-few : length t < record_words → next_call st p c t ≡ (92, st, c, t)
  unfolding next_call
  next-few h = rw (lt-ltb _ _ h)

  module _ (h : record_words ≤ length t) (r : NextOut) (e : r ≡ next_of st p c) where
    pub next-done : refusal_of r.0.event ≡ 0 → next_call st p c t ≡ (0, r.0.state, r.1, put_event t 0 r.0.event)
    unfolding next_call next_left
    next-done z = rw (le-ltb _ _ h, ← e, z)

    pub next-refused : (refusal_of r.0.event ≡ 0 → ⊥) → next_call st p c t ≡ (refusal_of r.0.event, r.0.state, r.1, t)
    unfolding next_call next_left
    next-refused z = rw (le-ltb _ _ h, ← e, ne_eqb _ _ z)

-- n events were given, and then those of m, from word i on
abbrev pub gave : ℕ → ℕ → List ℕ → Many → ℕ × State × List ℕ × List ℕ
gave n i t m = (n + length m.events, m.state, m.collecting, put_events t i m.events)

pub gave-start : (t : List ℕ) (m : Many) → gave 0 0 t m ≡ events_left t m
gave-start t m = let e : 0 + length m.events ≡ length m.events = omega arith in rw e

-- no event more is given, or there is no room
pub gave-full : (n i : ℕ) (st : State) (p c t : List ℕ) → gave n i t (events_of 0 st p c) ≡ (n, st, c, t)
unfolding events_of put_events
gave-full n i st p c t = rw (add-zero n)

module _ (n i k : ℕ) (st : State) (p c t : List ℕ) (r : NextOut) (e : r ≡ next_of st p c) where
  pub gave-none : is_given r.0.event ≡ false → gave n i t (events_of (suc k) st p c) ≡ (n, r.0.state, r.1, t)
  unfolding events_of put_events
  gave-none g = rw (← e, g) (rw (add-zero n))

  module _ (g : is_given r.0.event ≡ true) where
    pub gave-last : is_joined r.0.event ≡ true
        → gave n i t (events_of (suc k) st p c) ≡ (n + 1, r.0.state, r.1, put_event t i r.0.event)
    unfolding events_of put_events
    gave-last j = rw (← e, g, j)

    pub gave-on : is_joined r.0.event ≡ false
        → gave n i t (events_of (suc k) st p c)
        ≡ gave (n + 1) (i + record_words) (put_event t i r.0.event) (events_of k r.0.state p r.1)
    unfolding events_of put_events
    gave-on j =
        let m = events_of k r.0.state p r.1 in
        let a : n + suc (length m.events) ≡ n + 1 + length m.events = omega arith in
        rw (← e, g, j) (rw a)

-- many events, case by case
module _ (st : State) (p c t : List ℕ) (count : ℕ) where
  pub events-few : length t < record_words → events_call st p c t count ≡ (92, count, st, c, t)
  unfolding events_call
  events-few h = rw (lt-ltb _ _ h)

  module _ (h : record_words ≤ length t) where
    pub events-short : short_by st.config (length p) (length c) ≡ true → events_call st p c t count ≡ (22, count, st, c, t)
    unfolding events_call
    events-short s = rw (le-ltb _ _ h, s)

    pub events-done : short_by st.config (length p) (length c) ≡ false → (g : ℕ × State × List ℕ × List ℕ)
        → g ≡ events_left t (events_of (length t / record_words) st p c) → events_call st p c t count ≡ (0, g.0, g.1, g.2, g.3)
    unfolding events_call
    events-done s g e = rw (le-ltb _ _ h, s) (ap (λ (x : ℕ × State × List ℕ × List ℕ). (0, x.0, x.1, x.2, x.3)) (sym e))
