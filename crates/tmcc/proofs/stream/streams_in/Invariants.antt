-- Why streams_in meets its contract: the count and the last of the streams passed are what the loop holds.
use Prim.Native.Nat.{◌≤◌}
use mathlib.Core.Path.{◌≡◌}
use Rattle.tmcc.specs.Count.{count_below, last_below}
use Rattle.tmcc.specs.Stream.{chosen}
use Rattle.tmcc.proofs.stream.streams_in.Given as goal

abbrev pub invariant-loop-r : goal.invariant-loop-r
invariant-loop-r l =
    (l.streams.count ≤ l.r) × (l.streams.count ≡ count_below (chosen l.block l.id) l.r) × (l.streams.last ≡ last_below (chosen l.block l.id) l.r)
