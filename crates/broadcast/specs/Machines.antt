-- Machines as they occur in readings, between the calls for one slot and the next.
use Rattle.std.specs.Prelude.{ℕ, ◌≡◌, List}
use Rattle.tmcc.specs.Layout.{Layout}
use Rattle.tlv.specs.Run.{State as Slot-state}
use Rattle.reassembly.specs.declared.config.Config.{Config}
use Rattle.reassembly.specs.Run.{Lane}
use Rattle.broadcast.specs.Drains.{Tracks}
use Rattle.broadcast.specs.SlotClaims.{Short}
use Rattle.broadcast.specs.Calls.{Machine}

-- nothing waits, and slot s of a frame with layout l is due; the next frame, where s is 120
pub record At {A : Type 0} (cfg : Config) (m : Machine) (tl : Slot-state A) (f : ℕ → Lane (List A)) (l : Layout)
    (s : ℕ) : Type 0 where
  pub tracks : Tracks cfg m.state m.packet m.collecting tl f
  pub short : Short tl
  pub frame : m.state.frame ≡ record { layout = l; at = s }
