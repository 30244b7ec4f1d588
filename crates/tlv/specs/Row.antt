-- The row of packets: the own live slots' bytes, each with its slot's label, from the first top pointer on, cut into packets.
use Rattle.std.specs.Prelude.{ℕ, zero, suc, cond, List, [], ◌∷◌, ◌++◌, map, length, take, drop, eqb}
use Rattle.tlv.specs.Packet.{total, complete}
use Rattle.tlv.specs.Slot.{none}
use Rattle.tlv.specs.Run.{Slot}

module _ {A : Type 0} where
  -- a byte, behind the label of the slot that it came in
  abbrev pub tagged : A → List ℕ → List (A × ℕ)
  tagged a [] = []
  tagged a (b ∷ bs) = (a, b) ∷ tagged a bs

  abbrev pub bytes_of : List (A × ℕ) → List ℕ
  bytes_of = map (λ (x : A × ℕ). x.1)

  abbrev pub labels_of : List (A × ℕ) → List A
  labels_of = map (λ (x : A × ℕ). x.0)

  -- all bytes of the slots
  unfoldable pub all_bytes : List (A × Slot) → List (A × ℕ)
  all_bytes [] = []
  all_bytes (x ∷ xs) = tagged x.0 x.1.bytes ++ all_bytes xs

  -- "The own live slots' data .., in order, from their first top pointer other than 0xFFFF"
  unfoldable pub row : List (A × Slot) → List (A × ℕ)
  row [] = []
  row (x ∷ xs) = cond (eqb x.1.top none) (row xs) (drop x.1.top (all_bytes (x ∷ xs)))

  -- the packets that are complete in a row of bytes; `n` bounds them
  unfoldable pub packets_by : ℕ → List (A × ℕ) → List (List (A × ℕ))
  packets_by zero b = []
  packets_by (suc n) b =
      cond (complete (bytes_of b)) (take (total (bytes_of b)) b ∷ packets_by n (drop (total (bytes_of b)) b)) []

  unfoldable pub row_packets : List (A × Slot) → List (List (A × ℕ))
  row_packets xs = packets_by (length (row xs)) (row xs)
