-- Held headers (document 02, item 2): what a receiver holds of a packet begins with a good first byte, in every reading.
use Rattle.std.specs.Prelude.{ℕ, ◌+◌, ◌≤◌, ◌≡◌, true, List, length}
use Rattle.tlv.specs.Packet.{marked}
use Rattle.reassembly.specs.declared.config.Config.{Config}
use Rattle.intake.specs.Slot.{held_bytes}
use Rattle.broadcast.specs.Calls.{Machine, Made, machine_after_all}
use Rattle.broadcast.specs.Demand3.{started}

-- held bytes stand in packet memory and, if there are any, begin with a good first byte
pub record HeldHeader (m : Machine) : Type 0 where
  pub inside : m.state.held.start + m.state.held.len ≤ length m.packet
  pub begins : marked (held_bytes m.state.held m.packet) ≡ true

-- every start, any memories, any list of calls, accepted or refused, each with the memories as the last one left them: so after each
-- call of every reading, whole or damaged; of states that a caller makes up nothing is said
abbrev pub HeldHeaders : Type 0
HeldHeaders = (cfg : Config) (p c : List ℕ) (xs : List Made)
    → let m = machine_after_all (started cfg p c) xs in
    m.state.held.on ≡ true → HeldHeader m
