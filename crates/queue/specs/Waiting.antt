-- What next has yet to give of a packet: its note, note 64, its units.
use Rattle.std.specs.Prelude.{ℕ, Bool}
use Rattle.mmtp.specs.declared.packet.Packet.{Packet}
use Rattle.queue.specs.Event.{Event}
use Rattle.queue.specs.declared.event.Given.{Given}

-- an aggregate whose units are being given: its packet, where that stands in packet memory, and the next unit's place in it
pub record Aggregate : Type 0 where
  pub packet : Packet
  pub start : ℕ
  pub end : ℕ
  pub at : ℕ

-- the units of a packet that have yet to be given
pub data Give : Type 0 where
  Nothing : Give
  One : Given → Give
  Many : Aggregate → Give

-- a note's number, 0 for none; whether the note that it is above R follows; units
pub record Queue : Type 0 where
  pub note : ℕ
  pub over : Bool
  pub packet_id : ℕ
  pub give : Give

-- an event, Nothing where the queue is empty, and the queue after it
pub record Taken : Type 0 where
  pub event : Event
  pub queue : Queue
