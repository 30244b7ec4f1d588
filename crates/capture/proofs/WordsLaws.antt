-- Laws of specs/Words.antt.
use Rattle.std.specs.Prelude.{◌≡◌, ℕ, Bool, true, false, List, refl}
use Rattle.std.proofs.Common.{ap}
use Rattle.queue.specs.Event.{Event, as_given}
use Rattle.queue.specs.Event.{Nothing, Note, Unit, Refused}
use Rattle.queue.specs.declared.event.Event.{Event as GivenEvent}
use Rattle.queue.specs.declared.event.Event.TheVariants.{Note as ANote, Unit as AUnit}
use Rattle.lines.specs.Line.{is_line}
use Rattle.state.specs.State.{State, with_owed}
use Rattle.state.specs.Words.{state_in}
use Rattle.capture.specs.declared.session.Session.{Session as Values}
use Rattle.capture.specs.Session.{session_in}
use Rattle.capture.specs.Capture.{closed}
use Rattle.capture.specs.Words.{closed_values}

-- Laws.
owed_no_more : (st : State) → st.owed ≡ false → st ≡ with_owed st false
owed_no_more st h = ap (λ (b : Bool). with_owed st b) h

-- with the state memory it is the session after the event: where nothing waits, next is owed no more already
pub closed_in : (s : Values) (t : List ℕ) (e : Event) → (e ≡ Nothing → (state_in t).owed ≡ false)
    → session_in (closed_values s e) t ≡ closed (session_in s t) e
unfolding closed_values closed
closed_in s t Nothing h = ap (λ (st : State). record { phase = s.phase; state = st; tally = s.tally }) (owed_no_more (state_in t) (h refl))
closed_in s t (Note n id) h = refl
closed_in s t (Unit g) h = refl
closed_in s t (Refused n) h = refl

-- what next gives has a line of its own
pub given_line : (e : GivenEvent) → is_line (as_given e) ≡ true
given_line (ANote n id) = refl
given_line (AUnit g) = refl
