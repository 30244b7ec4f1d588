-- A unit of more than 257 pieces of which exactly 256 are lost, computed: the counters fit across the hole, the psn alone tells it, and
-- the unit is absent.
use Rattle.std.specs.Prelude.{◌≡◌, ℕ, zero, suc, ◌+◌, ◌-◌, ◌%◌, Bool, true, cond, not, ◌&&◌, List, [], ◌∷◌, ◌++◌, map, ◌==◌, nat_le, nat_lt}
use Rattle.mmtp.specs.declared.payload.Indicator.TheVariants.{Whole, First, Middle, Last}
use Rattle.reassembly.specs.Join.{counter_follows}
use Rattle.reassembly.specs.Run.{Input, Labelled, Event, note, unit, fresh, run}
use Rattle.reassembly.specs.Sent.{sent}
use Rattle.reassembly.specs.Claims.{received, unharmed}
use Rattle.reassembly.specs.Lost.{info, packet}

-- the numbers from `i` on, `k` of them
abbrev numbers : ℕ → ℕ → List ℕ
numbers i zero = []
numbers i (suc k) = i ∷ numbers (i + 1) k

-- the counter of piece `i` of `n`
abbrev pub counter : ℕ → ℕ → ℕ
counter n i = (n - 1 - i) % 256

-- piece `i` of `n`, of one byte; label and psn are `i`
abbrev piece : ℕ → ℕ → ℕ × Input
piece n i = (i, packet 0 i (cond (i == 0) First (cond (i + 1 == n) Last Middle)) (counter n i) (i % 256 ∷ []))

-- the packets of a unit of `n` pieces, and of a whole one behind it
abbrev pub packets : ℕ → List (ℕ × Input)
packets n = map (piece n) (numbers 0 n) ++ ((n, packet 0 n Whole 0 (20 ∷ [])) ∷ [])

-- the two units
abbrev pub joined : ℕ → Labelled ℕ
joined n = record { labels = numbers 0 n; content = record { info = info 0 0; bytes = map (λ i. i % 256) (numbers 0 n) } }

abbrev pub whole : ℕ → Labelled ℕ
whole n = record { labels = n ∷ []; content = record { info = info 0 n; bytes = 20 ∷ [] } }

-- 256 packets are lost from packet `i` on
abbrev pub without : ℕ → ℕ → Bool
without i k = not (nat_le i k && nat_lt k (i + 256))

abbrev read : List (ℕ × Input) → List (Event ℕ)
read xs = run (record { limit = 1000 }) (λ k. fresh) xs

-- a unit of `n` pieces of which 256 are lost, from piece `i` on
pub record Absent (n i : ℕ) : Type 0 where
  -- nothing lost: the unit comes
  pub comes : read (packets n) ≡ unit (joined n) ∷ unit (whole n) ∷ []
  -- "one lower modulo 256" holds between the pieces before and behind the hole
  pub fits : counter_follows (counter n (i - 1)) (counter n (i + 256)) ≡ true
  -- 60, and no unit but the one behind it
  pub absent : read (received (without i) (packets n)) ≡ note 60 0 ∷ unit (whole n) ∷ []
  -- which is the one that no lost packet carries
  pub left : unharmed (without i) (sent (packets n)) ≡ whole n ∷ []

abbrev pub Examples : Type 0
Examples =
    -- first and last piece alone are left
    Absent 258 1
    -- the hole is between middle pieces
    × Absent 300 10
