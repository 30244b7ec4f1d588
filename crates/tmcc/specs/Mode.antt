-- The modes of a control block: their rules, and the data length that they give each slot. Modes and slots are counted from 0.
use Rattle.std.specs.Prelude.{ℕ, zero, suc, ◌+◌, ◌-◌, ◌*◌, ◌%◌, Bool, true, cond, ◌&&◌, List, [], ◌∷◌, get_or, eqb, leb, ltb}
use Rattle.wire.specs.Bits.{bits_at}
use Rattle.tmcc.specs.Count.{all_below}

-- bytes 1 to 24: modulation (high half) and code rate (low half); slot count; back-off
abbrev pub mode_byte : List ℕ → ℕ → ℕ
mode_byte b k = get_or b (1 + 3 * k) 0

abbrev pub slot_count : List ℕ → ℕ → ℕ
slot_count b k = get_or b (2 + 3 * k) 0

abbrev pub back_off : List ℕ → ℕ → ℕ
back_off b k = get_or b (3 + 3 * k) 0

abbrev pub modulation : ℕ → ℕ
modulation mode = bits_at 4 4 mode

abbrev pub code_rate : ℕ → ℕ
code_rate mode = bits_at 0 4 mode

-- data bytes by code rate 1 to 11
abbrev pub slot_bytes : List ℕ
slot_bytes = 0 ∷ 1870 ∷ 2244 ∷ 2805 ∷ 3366 ∷ 3740 ∷ 4114 ∷ 4301 ∷ 4488 ∷ 4675 ∷ 4862 ∷ 5049 ∷ []

unfoldable pub data_bytes : ℕ → ℕ
data_bytes rate = get_or slot_bytes rate 0

-- 1 to `most`
unfoldable pub within : ℕ → ℕ → Bool
within most x = leb 1 x && leb x most

-- a used mode: modulation 1 to 5, code rate 1 to 11, a positive multiple of 5 slots; its back-off is ignored
unfoldable pub used : ℕ → ℕ → Bool
used mode count = within 5 (modulation mode) && within 11 (code_rate mode) && (ltb 0 count && eqb (count % 5) 0)

-- an unused mode is 0xFF, 0, 0
unfoldable pub unused : ℕ → ℕ → ℕ → Bool
unused mode count off = eqb mode 0xff && eqb count 0 && eqb off 0

abbrev pub used_at : List ℕ → ℕ → Bool
used_at b k = used (mode_byte b k) (slot_count b k)

-- used modes come first, in falling order of modulation, then of rate, no pair twice: a used mode is the first,
-- or follows a used one whose pair, read as one byte, is larger
abbrev pub follows : List ℕ → ℕ → Bool
follows b zero = true
follows b (suc k) = used_at b k && ltb (mode_byte b (suc k)) (mode_byte b k)

unfoldable pub mode_good : List ℕ → ℕ → Bool
mode_good b k = cond (used_at b k) (follows b k) (unused (mode_byte b k) (slot_count b k) (back_off b k))

-- the slots of the first k modes
unfoldable pub slots_of : List ℕ → ℕ → ℕ
slots_of b zero = 0
slots_of b (suc k) = slots_of b k + slot_count b k

-- refusal 12 is given unless the eight modes keep these rules and take 120 slots in all
unfoldable pub modes_good : List ℕ → Bool
modes_good b = all_below (mode_good b) 8 && eqb (slots_of b 8) 120

-- the mode that slot s falls to, of the m modes from k on, where s counts from the first slot of mode k
unfoldable pub mode_from : List ℕ → ℕ → ℕ → ℕ → ℕ
mode_from b zero k s = k
mode_from b (suc m) k s = cond (ltb s (slot_count b k)) k (mode_from b m (k + 1) (s - slot_count b k))

-- slots are taken upward from the first
unfoldable pub mode_of : List ℕ → ℕ → ℕ
mode_of b s = mode_from b 8 0 s

-- live slots stand first in each five, as many as the modulation says
abbrev pub live : ℕ → ℕ → Bool
live mode s = ltb (s % 5) (modulation mode)

-- L: the data length of slot s, 0 for a dummy
unfoldable pub slot_length : List ℕ → ℕ → ℕ
slot_length b s = cond (live (mode_byte b (mode_of b s)) s) (data_bytes (code_rate (mode_byte b (mode_of b s)))) 0
