-- The pointers of a slot (document 01, "Slots"), by where the packets of the run start and end.
use Rattle.std.specs.Prelude.{ℕ, ◌+◌, ◌-◌, Bool, cond, ◌&&◌, List, [], ◌∷◌, length, eqb, leb, ltb}
use Rattle.wire.specs.Lists.{sift}
use Rattle.tmcc.specs.declared.layout.Pointers.{Pointers}
use Rattle.tlv.specs.Packet.{cut}
use Rattle.tlv.specs.Slot.{none}

-- where packets that stand one behind another start, and where they end; the first starts at `at`
unfoldable pub starts : ℕ → List (List ℕ) → List ℕ
starts at [] = []
starts at (p ∷ ps) = at ∷ starts (at + length p) ps

unfoldable pub ends : ℕ → List (List ℕ) → List ℕ
ends at [] = []
ends at (p ∷ ps) = (at + length p) ∷ ends (at + length p) ps

-- byte i of the run lies in the slot of l bytes that begins at `from`
unfoldable pub in_slot : ℕ → ℕ → ℕ → Bool
in_slot from l i = leb from i && ltb i (from + l)

-- a packet that ends at `end` ends in the slot if its last byte lies there
abbrev pub ends_in : ℕ → ℕ → ℕ → Bool
ends_in from l end = in_slot from l (end - 1)

-- the offset from `from` of the first of some places, or of the last; `p` if there is none
abbrev pub first_offset : ℕ → ℕ → List ℕ → ℕ
first_offset from p [] = p
first_offset from p (x ∷ xs) = x - from

abbrev pub last_offset : ℕ → ℕ → List ℕ → ℕ
last_offset from p [] = p
last_offset from p (x ∷ xs) = last_offset from (x - from) xs

-- "Top pointer t: offset of the first packet that starts in the slot, below L, or 0xFFFF for none"
unfoldable pub top_of : List ℕ → ℕ → ℕ → ℕ
top_of run from l = first_offset from none (sift (in_slot from l) (starts 0 (cut run).packets))

-- "Last pointer: one past the last byte of the last packet that ends in it"
unfoldable pub last_of : List ℕ → ℕ → ℕ → ℕ
last_of run from l = last_offset from none (sift (ends_in from l) (ends 0 (cut run).packets))

unfoldable pub pointers_of : List ℕ → ℕ → ℕ → Pointers
pointers_of run from l = record { 0 = top_of run from l; 1 = last_of run from l }

-- the pointers of the packets so far, and one packet more
unfoldable pub top_with : ℕ → ℕ → ℕ → ℕ → ℕ
top_with top from l start = cond (eqb top none) (cond (in_slot from l start) (start - from) none) top

unfoldable pub last_with : ℕ → ℕ → ℕ → ℕ → ℕ
last_with last from l end = cond (ends_in from l end) (end - from) last
