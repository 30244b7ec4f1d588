-- How often next is called after a slot or a lost frame: at most 42,869 times. Of 16,384 held bytes and 5,049 of the slot, each
-- brings at most two notes or units, and there are two more at most: 42,868. The last call says that nothing waits.
use Rattle.std.specs.Prelude.{ℕ, ◌-◌, ◌<◌, ◌≤◌, List, [], ◌∷◌, length}
use Rattle.tlv.specs.Run.{Slot, State as Slot-state, lost, given, step}
use Rattle.reassembly.specs.declared.config.Config.{Config}
use Rattle.reassembly.specs.Run.{Lane}
use Rattle.broadcast.specs.Account.{events}
use Rattle.broadcast.specs.SlotClaims.{Short}
use Rattle.broadcast.specs.Calls.{frame, lost-frame, slot, lost-slot, next, Made, own, shows, added}

-- in the account: an own live slot, with at most 16,384 bytes held, gives at most 42,868 notes and units, and a lost one gives at
-- most one
abbrev pub SlotBound : Type 1
SlotBound =
    (A : Type 0) (cfg : Config) (f : ℕ → Lane (List A)) (tl : Slot-state A) → Short tl
    → ((a : A) (s : Slot) → length s.bytes ≤ 5049 → length (events cfg f (step tl (given a s)).events) ≤ 42868)
    × (length (events cfg f (step tl lost).events) ≤ 1)

-- in a list of calls, next is called at most 42,869 times after each slot, given or lost, and each lost frame, before the reading's
-- next call of another kind; at first it may be called n times
abbrev pub NextsWithin : ℕ → List Made → Type 0
NextsWithin n [] = Prim.Unit {0}
NextsWithin n (own (frame b) ∷ xs) = NextsWithin 0 xs
NextsWithin n (own lost-frame ∷ xs) = NextsWithin 42869 xs
NextsWithin n (own (slot d) ∷ xs) = NextsWithin 42869 xs
NextsWithin n (own lost-slot ∷ xs) = NextsWithin 42869 xs
NextsWithin n (own next ∷ xs) = (0 < n) × NextsWithin (n - 1) xs
NextsWithin n (shows ∷ xs) = NextsWithin n xs
NextsWithin n (added k ∷ xs) = NextsWithin n xs
