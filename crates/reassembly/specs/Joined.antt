-- What a step of joining comes to, as the definitions speak of it.
use Rattle.std.specs.Prelude.{ℕ, Bool, Option, Some, None}
use Rattle.reassembly.specs.declared.channel.Channel.{Channel}
use Rattle.reassembly.specs.declared.join.Action.{Action}
use Rattle.reassembly.specs.declared.join.Joined.{Joined as AJoined}
use Rattle.reassembly.specs.declared.note.JoinNote.{JoinNote}
use Rattle.reassembly.specs.Notes.{number_of}

-- the channel; the number of a note but the last, 0 for none; whether the bytes are above R, whose note comes after the other; what is to be done
pub record Joined : Type 0 where
  pub channel : Channel
  pub note : ℕ
  pub over : Bool
  pub action : Action

-- a note's number, 0 for none
abbrev pub as_number : Option JoinNote → ℕ
as_number None = 0
as_number (Some n) = number_of n

abbrev pub as_joined : AJoined → Joined
as_joined j = record { channel = j.channel; note = as_number j.note; over = j.over; action = j.action }
