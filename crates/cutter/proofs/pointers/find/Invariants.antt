-- Why find meets its contract: the pointers so far, with the packets from the place that the loop comes to, are the slot's.
use Prim.Native.Nat.{◌-◌, ◌≤◌}
use mathlib.Core.Path.{◌≡◌}
use mathlib.Core.List.{[]}
use lib.ListN.{length, drop}
use Rattle.tlv.specs.Packet.{cut}
use Rattle.cutter.specs.Pointers.{top_of, last_of}
use Rattle.cutter.proofs.Places.{top_from, last_from}
use Rattle.cutter.proofs.pointers.find.Given as goal

abbrev pub invariant-loop-at : goal.invariant-loop-at
invariant-loop-at l =
    (l.at ≤ length l.run)
    × ((cut (drop l.at l.run)).tail ≡ [])
    × (top_from l.from l.l l.top l.at (cut (drop l.at l.run)).packets ≡ top_of l.run l.from l.l)
    × (last_from l.from l.l l.last l.at (cut (drop l.at l.run)).packets ≡ last_of l.run l.from l.l)

abbrev pub decreases-loop-at : goal.decreases-loop-at
decreases-loop-at l = length l.run - l.at
