-- Laws of the receiver's state in lent words: a part that is stored is that part of the state, and the others stay as they were.
use Rattle.std.specs.Prelude.{ℕ, ◌*◌, ◌<◌, ◌≡◌, List}
use Rattle.std.proofs.Math.Bool.{false}
use Rattle.std.proofs.Math.ListN.{get_or}
use Rattle.wire.specs.Words.{Within}
use Rattle.tmcc.specs.Layout.{Layout}
use Rattle.state.specs.Words.{pointers_in, length_in, own_in, CleanSlot}

-- the slots of a layout that are put one by one: slot k is there
pub record SlotAt (t : List ℕ) (l : Layout) (k : ℕ) : Type 0 where
  pub pointers : pointers_in t k ≡ get_or l.pointers k (record { 0 = 0; 1 = 0 })
  pub size : length_in t k ≡ get_or l.lengths k 0
  pub own : own_in t k ≡ get_or l.own k false

-- the first s slots are there, and nothing else changed
pub record SlotsPut (before after : List ℕ) (l : Layout) (s : ℕ) : Type 0 where
  pub within : Within before after 271 (4 * s)
  pub slots : (k : ℕ) → k < s → SlotAt after l k
  pub clean : (k : ℕ) → k < s → CleanSlot after k
