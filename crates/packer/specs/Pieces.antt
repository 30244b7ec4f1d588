-- The pieces of a unit: how its bytes are cut, and what each piece's packet carries.
use Rattle.std.specs.Prelude.{ℕ, zero, suc, ◌+◌, ◌-◌, ◌%◌, ◌^◌, cond, List, [], ◌∷◌, length, take, drop, ◌==◌, nat_le}
use Rattle.mmtp.specs.declared.payload.Indicator.{Indicator}
use Rattle.mmtp.specs.declared.payload.Indicator.TheVariants.{Whole, First, Middle, Last}
use Rattle.reassembly.specs.declared.unit.Unit.{Unit}
use Rattle.reassembly.specs.declared.join.Piece.{Piece}

-- "up to m bytes", one piece; "otherwise pieces of m and the rest if not empty". `n` bounds them
unfoldable pub pieces_by : ℕ → ℕ → List ℕ → List (List ℕ)
pieces_by zero m s = s ∷ []
pieces_by (suc n) m s = cond (nat_le (length s) m) (s ∷ []) (take m s ∷ pieces_by n m (drop m s))

unfoldable pub pieces : ℕ → List ℕ → List (List ℕ)
pieces m s = pieces_by (length s) m s

-- how many there are of `len` bytes
unfoldable pub count_by : ℕ → ℕ → ℕ → ℕ
count_by zero m len = 1
count_by (suc n) m len = cond (nat_le len m) 1 (suc (count_by n m (len - m)))

unfoldable pub count_of : ℕ → ℕ → ℕ
count_of m len = count_by len m len

-- the most pieces of a unit
abbrev pub max_pieces : ℕ
max_pieces = 65535

-- "up to m bytes as FI 00", otherwise first, middle, last
unfoldable pub indicator_at : ℕ → ℕ → Indicator
indicator_at n i = cond (n == 1) Whole (cond (i == 0) First (cond (i + 1 == n) Last Middle))

-- "counters falling to 0", "modulo 256" (document 02, item 4)
unfoldable pub counter_at : ℕ → ℕ → ℕ
counter_at n i = (n - 1 - i) % 256

-- "psn (modulo 4,294,967,296) .. rising by one from the caller's"
unfoldable pub with_psn : Unit → ℕ → Unit
with_psn u i =
    record {
      packet_id = u.packet_id;
      kind = u.kind;
      psn = record { 0 = (u.psn.0 + i) % 2 ^ 32 };
      mpu = u.mpu;
      fields = u.fields;
    }

-- piece `i` of `n`, of `len` bytes
unfoldable pub piece_at : Unit → ℕ → ℕ → ℕ → Piece
piece_at u n i len = record { unit = with_psn u i; indicator = indicator_at n i; counter = counter_at n i; len = len }
