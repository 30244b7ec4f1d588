-- What next comes to in a slot, as the definitions speak of it.
use Rattle.std.specs.Prelude.{ℕ}
use Rattle.intake.specs.declared.held.Cursor.{Cursor}
use Rattle.queue.specs.Event.{Event as AnEvent, Note}
use Rattle.delivery.specs.declared.cursor.Found.{Found as FoundInSlot}
use Rattle.delivery.specs.declared.cursor.Found.TheVariants.{Note as NoteFound, Packet as PacketFound, Tail as TailFound, Done as NothingFound}
use Rattle.delivery.specs.declared.cursor.Advanced.{Advanced as AdvancedInSlot}

-- an event; a TLV packet, from where to where in packet memory; a tail that is held, where it starts and how long it is; or no more
pub data Found : Type 0 where
  Event : AnEvent → Found
  Packet : ℕ → ℕ → Found
  Tail : ℕ → ℕ → Found
  Done : Found

-- what the cursor comes to, and the cursor past it
pub record Advanced : Type 0 where
  pub found : Found
  pub cursor : Cursor

-- a note of the slot has no packet_id
abbrev pub as_found : FoundInSlot → Found
as_found (NoteFound n) = Event (Note n 0)
as_found (PacketFound start end) = Packet start end
as_found (TailFound start len) = Tail start len
as_found NothingFound = Done

abbrev pub as_advanced : AdvancedInSlot → Advanced
as_advanced a = record { found = as_found a.found; cursor = a.cursor }
