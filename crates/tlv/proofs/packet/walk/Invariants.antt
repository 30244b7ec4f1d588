-- Why walk meets its contract: the walk from each place that the loop comes to is the walk from t.
use Rattle.std.proofs.Common.{◌≡◌, ◌-◌, ◌≤◌, length}
use Rattle.tlv.specs.Packet.{walk_of}
use Rattle.tlv.proofs.packet.walk.Given as goal

abbrev pub invariant-loop-at : goal.invariant-loop-at
invariant-loop-at l = record { within : l.at ≤ length l.s; same : walk_of l.s l.at ≡ walk_of l.s l.t }

abbrev pub decreases-loop-at : goal.decreases-loop-at
decreases-loop-at l = length l.s - l.at
