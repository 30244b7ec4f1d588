-- Why are_within meets its contract: what is left to test decides.
use Prim.Native.Nat.{◌≤◌}
use mathlib.Core.Path.{◌≡◌}
use lib.ListN.{length, drop}
use Rattle.calls.specs.Bounds.{are_within}
use Rattle.calls.proofs.bounds.are_within.Given as goal

abbrev pub invariant-loop-k : goal.invariant-loop-k
invariant-loop-k l = (length l.most ≤ length l.t) × (are_within (drop l.k l.t) (drop l.k l.most) ≡ are_within l.t l.most)
