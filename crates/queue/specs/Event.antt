-- What next answers, as the definitions speak of it.
use Rattle.std.specs.Prelude.{ℕ, Option, Some, None, Result, Ok, Err}
use Rattle.refusal.specs.declared.Refusal.{Refusal}
use Rattle.refusal.specs.Refusal.{number_of}
use Rattle.queue.specs.declared.event.Given.{Given}
use Rattle.queue.specs.declared.event.Event.{Event as GivenEvent}
use Rattle.queue.specs.declared.event.Event.TheVariants.{Note as ANote, Unit as AUnit}

-- nothing waits; a note's number and its packet_id, 0 for notes up to 51, which have none; a unit; or a refusal's number
pub data Event : Type 0 where
  Nothing : Event
  Note : ℕ → ℕ → Event
  Unit : Given → Event
  Refused : ℕ → Event

abbrev pub as_given : GivenEvent → Event
as_given (ANote n id) = Note n id
as_given (AUnit g) = Unit g

-- an event, or nothing
abbrev pub as_event : Option GivenEvent → Event
as_event None = Nothing
as_event (Some e) = as_given e

-- the same, or a refusal
abbrev pub as_answer : Result (Option GivenEvent) Refusal → Event
as_answer (Ok e) = as_event e
as_answer (Err r) = Refused (number_of r)
