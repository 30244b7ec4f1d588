-- What the calls answer and leave, the receiver's state being in words that the caller lends.
use Rattle.std.specs.Prelude.{ℕ, ◌/◌, ◌<◌, ◌≤◌, ◌≡◌, List, length, Result, Ok, Err}
use Rattle.refusal.specs.declared.Refusal.{Refusal}
use Rattle.state.specs.Words.{state_words, state_in, Exact}
use Rattle.state.specs.State.{State}
use Rattle.calls.specs.Record.{record_words}
use Rattle.calls.specs.Events.{NextLeft, EventsLeft, events_of, events_left}

-- how many were given; where the call is refused, the number that the caller lent
abbrev pub given_or : Result ℕ Refusal → ℕ → ℕ
given_or (Ok n) lent = n
given_or (Err r) lent = lent

-- next: by a definition's answer x. A refused call leaves every word.
pub record NextDone (before c t : List ℕ) (r : ℕ) (after d u : List ℕ) (x : NextLeft) : Type 0 where
  pub short : length before < state_words → (r ≡ 90) × (d ≡ c) × (u ≡ t)
  pub long : state_words ≤ length before → (r, state_in after, d, u) ≡ x
  pub kept : (r ≡ 0 → ⊥) → after ≡ before
  pub exact : Exact before after

-- many events
pub record EventsDone (before c t : List ℕ) (count : ℕ) (r : ℕ) (after d u : List ℕ) (n : ℕ) (x : EventsLeft) : Type 0 where
  pub short : length before < state_words → (r ≡ 90) × (d ≡ c) × (u ≡ t) × (n ≡ count)
  pub long : state_words ≤ length before → (r, n, state_in after, d, u) ≡ x
  pub kept : (r ≡ 0 → ⊥) → after ≡ before
  pub exact : Exact before after

-- the events that were given, where the words suffice
pub record EventsGiven (before : List ℕ) (n : ℕ) (after d u : List ℕ) (st : State) (p c t : List ℕ) : Type 0 where
  pub answer : (n, state_in after, d, u) ≡ events_left t (events_of (length t / record_words) st p c)
  pub exact : Exact before after
