-- What is claimed of slots to packets: what lost slots take away, that the packets are those of the row, and how held bytes begin.
use Rattle.std.specs.Prelude.{ℕ, suc, ◌<◌, ◌≡◌, Bool, true, List, [], ◌∷◌, ◌++◌, map, length, replicate}
use Rattle.tlv.specs.Packet.{marked, cut}
use Rattle.tlv.specs.Run.{Slot, Labelled, State, searching, held, Arrival, lost}
use Rattle.tlv.specs.Run.{step, run, state_after, packets, Clean, intact, damaged}
use Rattle.tlv.specs.Row.{bytes_of, labels_of, row, row_packets}
use Rattle.wire.specs.Lists.{sift, all}

-- a packet as it is compared: whether each label of it is kept, and its bytes
pub record Seen : Type 0 where
  pub kept : Bool
  pub bytes : List ℕ

module _ {A : Type 0} where
  -- each slot has at least one byte
  abbrev pub Filled : List (A × Slot) → Type 0
  Filled [] = Unit {0}
  Filled (x ∷ xs) = (0 < length x.1.bytes) × Filled xs

  -- held bytes, if there are any, begin with a good first byte
  abbrev pub HeldGood : State A → Type 0
  HeldGood searching = Unit {0}
  HeldGood (held ls b) = marked b ≡ true

  -- of a packet that was given, its labels
  abbrev pub seen : (A → Bool) → Labelled A → Seen
  seen keep p = record { kept = all keep p.labels; bytes = p.bytes }

  -- of one in the row, the labels of the slots that its bytes came in
  abbrev pub seen_in_row : (A → Bool) → List (A × ℕ) → Seen
  seen_in_row keep q = record { kept = all keep (labels_of q); bytes = bytes_of q }

-- lost slots take away exactly the packets that have one of their labels, whatever is noted
abbrev pub RunLoss : Type 1
RunLoss = (A : Type 0) (keep : A → Bool) (xs : List (A × Slot))
    → packets (run searching (damaged keep xs))
    ≡ sift (λ (p : Labelled A). all keep p.labels) (packets (run searching (intact xs)))

-- where nothing is noted, the packets are those of the row, and their labels are the slots that their bytes came in
abbrev pub RunRow : Type 1
RunRow = (A : Type 0) (keep : A → Bool) (xs : List (A × Slot)) → Clean (run searching (intact xs)) → Filled xs
    → map (seen keep) (packets (run searching (intact xs))) ≡ map (seen_in_row keep) (row_packets xs)

-- both: with slots lost the packets are those of the row whose bytes all came in slots that are not
abbrev pub RowLoss : Type 1
RowLoss = (A : Type 0) (keep : A → Bool) (xs : List (A × Slot)) → Clean (run searching (intact xs)) → Filled xs
    → map (λ (p : Labelled A). p.bytes) (packets (run searching (damaged keep xs)))
    ≡ map bytes_of (sift (λ (q : List (A × ℕ)). all keep (labels_of q)) (row_packets xs))

-- the packets of the row are its bytes, cut
abbrev pub RowCut : Type 1
RowCut = (A : Type 0) (xs : List (A × Slot)) → map bytes_of (row_packets xs) ≡ (cut (bytes_of (row xs))).packets

-- one list of slots behind another
abbrev pub RunAppend : Type 1
RunAppend = (A : Type 0) (st : State A) (xs ys : List (Arrival A))
    → (run st (xs ++ ys) ≡ run st xs ++ run (state_after st xs) ys)
    × (state_after st (xs ++ ys) ≡ state_after (state_after st xs) ys)

-- lost slots one after another are one lost slot
abbrev pub RunLost : Type 1
RunLost = (A : Type 0) (st : State A) (n : ℕ) (xs : List (Arrival A))
    → (run st (replicate (suc n) lost ++ xs) ≡ run st (lost ∷ xs))
    × (state_after st (replicate (suc n) lost ++ xs) ≡ state_after st (lost ∷ xs))

-- "held headers" (document 02, item 2): a slot, given or lost, sound or not, leaves held bytes that begin with a good first byte
abbrev pub StepHeldGood : Type 1
StepHeldGood = (A : Type 0) (st : State A) (x : Arrival A) → HeldGood st → HeldGood (step st x).state

-- the same after any slots, read by a fresh receiver
abbrev pub RunHeldGood : Type 1
RunHeldGood = (A : Type 0) (xs : List (Arrival A)) → HeldGood (state_after searching xs)
