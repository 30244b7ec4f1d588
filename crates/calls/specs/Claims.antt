-- What is claimed of the calls over plain words: which calls are refused, with which number, and that a refused one leaves all that it was
-- lent; that many events are what next gives, called that many times; which word of a record is which.
use Rattle.std.specs.Prelude.{ℕ, zero, suc, ◌/◌, ◌<◌, ◌≤◌, ◌≡◌, true, false, ◌⊎◌, List, [], ◌∷◌, ◌++◌, length, replicate}
use Rattle.wire.specs.Memory.{pasted}
use Rattle.reassembly.specs.declared.config.Config.{Config}
use Rattle.queue.specs.Event.{Event}
use Rattle.queue.specs.declared.event.Given.{Given}
use Rattle.state.specs.State.{State, refused}
use Rattle.frames.specs.Slot.{short_by}
use Rattle.receiver.specs.Next.{next_of}
use Rattle.state.specs.Start.{start_from}
use Rattle.receiver.specs.Show.{show_of}
use Rattle.calls.specs.Bounds.{are_within}
use Rattle.calls.specs.Settings.{most64, settings_most, start_by, SizedConfig, config_in}
use Rattle.queue.specs.Words.{memory_word}
use Rattle.calls.specs.Record.{record_words, unit_record, read_place}
use Rattle.calls.specs.Events.{Many, is_given, is_joined, put_event, next_call, events_of, put_events, events_call}
use Rattle.calls.specs.Show.{show_call}

-- Demand 1 and what else there is to answer: a refused call returns its number, and the state and each byte, word and number that it was lent are as they were. (Of the
-- words that hold the state, `kept` says so in the contracts, and 90 is theirs too.)
abbrev pub StartAnswer : State → List ℕ → Type 0
StartAnswer st s = let r = start_by st s in
    ((are_within s settings_most ≡ false) × (r ≡ refused 91 st))
    ⊎ ((are_within s settings_most ≡ true) × (r ≡ start_from st (config_in s)) × ((r.refusal ≡ 0 → ⊥) → r.state ≡ st))

-- next: 92, then 22, else what next gives
abbrev pub NextAnswer : State → List ℕ → List ℕ → List ℕ → Type 0
NextAnswer st p c t = let r = next_call st p c t in let o = next_of st p c in
    ((length t < record_words) × (r ≡ (92, st, c, t)))
    ⊎ ((record_words ≤ length t) × (short_by st.config (length p) (length c) ≡ true) × (r ≡ (22, st, c, t)))
    ⊎ ((record_words ≤ length t) × (short_by st.config (length p) (length c) ≡ false)
    × (r ≡ (0, o.0.state, o.1, put_event t 0 o.0.event)))

-- many events: 92, then 22, else their number and their records
abbrev pub EventsAnswer : State → List ℕ → List ℕ → List ℕ → ℕ → Type 0
EventsAnswer st p c t count = let r = events_call st p c t count in
    let m = events_of (length t / record_words) st p c in
    ((length t < record_words) × (r ≡ (92, count, st, c, t)))
    ⊎ ((record_words ≤ length t) × (short_by st.config (length p) (length c) ≡ true) × (r ≡ (22, count, st, c, t)))
    ⊎ ((record_words ≤ length t) × (short_by st.config (length p) (length c) ≡ false)
    × (r ≡ (0, length m.events, m.state, m.collecting, put_events t 0 m.events)))

-- show: 92, then 93, else a copy
abbrev pub ShowAnswer : List ℕ → List ℕ → List ℕ → List ℕ → ℕ → Type 0
ShowAnswer p c t out len = let r = show_call p c t out len in let b = show_of p c (read_place t 0) in
    ((length t < record_words) × (r ≡ (92, len, out)))
    ⊎ ((record_words ≤ length t) × (length out < length b) × (r ≡ (93, len, out)))
    ⊎ ((record_words ≤ length t) × (length b ≤ length out) × (r ≡ (0, length b, pasted out 0 b (length b))))

pub record CallsAnswer : Type 0 where
  pub start : (st : State) (s : List ℕ) → StartAnswer st s
  pub next : (st : State) (p c t : List ℕ) → NextAnswer st p c t
  pub events : (st : State) (p c t : List ℕ) (count : ℕ) → EventsAnswer st p c t count
  pub show : (p c t out : List ℕ) (len : ℕ) → ShowAnswer p c t out len

-- next, called n times: its answers, and what the last call left
unfoldable pub next_times : ℕ → State → List ℕ → List ℕ → Many
next_times zero st p c = record { events = []; state = st; collecting = c }
next_times (suc n) st p c =
    let r = next_of st p c in
    let m = next_times n r.0.state p r.1 in
    record { events = r.0.event ∷ m.events; state = m.state; collecting = m.collecting }

-- every event is a note or a unit, and none but the last is a joined unit
unfoldable pub OnlyLastJoined : List Event → Type 0
OnlyLastJoined [] = Unit {0}
OnlyLastJoined (e ∷ []) = is_given e ≡ true
OnlyLastJoined (e ∷ f ∷ es) = (is_given e ≡ true) × (is_joined e ≡ false) × OnlyLastJoined (f ∷ es)

unfoldable pub EndsJoined : List Event → Type 0
EndsJoined [] = ⊥
EndsJoined (e ∷ []) = is_joined e ≡ true
EndsJoined (e ∷ f ∷ es) = EndsJoined (f ∷ es)

-- why it stops: there is no room for more, the last event is a joined unit, or the next call of next gave no event
pub record Stopped (k : ℕ) (st : State) (p c : List ℕ) (m : Many) : Type 0 where
  pub called : next_times (length m.events) st p c ≡ m
  pub within : length m.events ≤ k
  pub why : (length m.events ≡ k) ⊎ EndsJoined m.events

pub record Ended (k : ℕ) (st : State) (p c : List ℕ) (m : Many) : Type 0 where
  pub last : Event
  pub nothing : is_given last ≡ false
  pub unjoined : EndsJoined m.events → ⊥
  pub fewer : length m.events < k
  pub called : next_times (suc (length m.events)) st p c
      ≡ record { events = m.events ++ (last ∷ []); state = m.state; collecting = m.collecting }

-- at most k events for one call are those that next gives, called that many times
pub record AsByNext (k : ℕ) (st : State) (p c : List ℕ) (m : Many) : Type 0 where
  pub given : OnlyLastJoined m.events
  pub stopped : Stopped k st p c m ⊎ Ended k st p c m

abbrev pub EventsClaim : Type 0
EventsClaim = (k : ℕ) (st : State) (p c : List ℕ) → AsByNext k st p c (events_of k st p c)

-- settings of a configuration, word by word: start takes them for it
abbrev pub settings_of : Config → List ℕ
settings_of c = c.stream ∷ c.cid ∷ c.watch.n ∷ c.rules.limit ∷ (c.watch.ids ++ replicate 12 0)

abbrev pub SettingsClaim : Type 0
SettingsClaim = (st : State) (c : Config) → SizedConfig c → c.watch.n ≤ most64 → c.rules.limit ≤ most64
    → start_by st (settings_of c) ≡ start_from st c

-- the record of a unit, word by word; a memory is 0 for packet memory and 1 for collecting memory (`memory_word`, of `queue`)
abbrev pub RecordClaim : Type 0
RecordClaim = (g : Given) → let u = g.unit in let f = u.fields in
    unit_record g
    ≡ 2 ∷ 0 ∷ memory_word g.place.memory ∷ g.place.start ∷ g.place.len ∷ u.packet_id ∷ u.kind ∷ u.psn.0 ∷ u.mpu
    ∷ f.movie_fragment ∷ f.sample ∷ f.offset ∷ f.priority ∷ f.dependency ∷ f.item ∷ replicate 9 0
