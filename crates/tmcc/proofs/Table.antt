-- The table of data lengths: each entry is a multiple of 187 and at most 5049, by one test computed over the whole table.
use Prim.Native.Nat.{ℕ, zero, suc, ◌%◌, ◌≤◌}
use mathlib.Core.Path.{◌≡◌, refl}
use mathlib.Core.Bool.{Bool, true, ◌&&◌}
use mathlib.Core.List.{List, [], ◌∷◌}
use native.Mathlib.Omega.{arith}
use lib.ListN.{get_or}
use lib.Dec.{eqb, leb}
use borrow.Author.Tests.{eqb-true, leb-true}
use Rattle.tmcc.specs.Mode.{slot_bytes, data_bytes, code_rate, mode_byte, mode_of, live, slot_length}
use Rattle.tmcc.proofs.Cases.{and_left, and_right, by_test}

-- the test passes at each entry, and at 0, which stands past the end
every : (ℕ → Bool) → List ℕ → Bool
every p [] = p 0
every p (x ∷ xs) = p x && every p xs

-- and so at any place
at : (p : ℕ → Bool) (xs : List ℕ) → every p xs ≡ true → (k : ℕ) → p (get_or xs k 0) ≡ true
unfolding every
at p [] e k = e
at p (x ∷ xs) e zero = and_left (p x) (every p xs) e
at p (x ∷ xs) e (suc k) = at p xs (and_right (p x) (every p xs) e) k

right : ℕ → Bool
right x = eqb (x % 187) 0 && leb x 5049

pub data_187 : (rate : ℕ) → data_bytes rate % 187 ≡ 0
unfolding data_bytes every right
data_187 rate = eqb-true _ _ (and_left _ _ (at right slot_bytes refl rate))

pub data_most : (rate : ℕ) → data_bytes rate ≤ 5049
unfolding data_bytes every right
data_most rate = leb-true _ _ (and_right (eqb (data_bytes rate % 187) 0) _ (at right slot_bytes refl rate))

-- what holds of every entry and of 0 holds of every slot's data length
of-slot : (P : ℕ → Type 0) → ((rate : ℕ) → P (data_bytes rate)) → P 0 → (b : List ℕ) (s : ℕ) → P (slot_length b s)
unfolding slot_length
of-slot P h z b s =
    let mode = mode_byte b (mode_of b s) in
    by_test (live mode s) P (data_bytes (code_rate mode)) 0 (λ e. h (code_rate mode)) (λ e. z)

pub slot-187 : (b : List ℕ) (s : ℕ) → slot_length b s % 187 ≡ 0
slot-187 b s = of-slot (λ n. n % 187 ≡ 0) data_187 refl b s

pub slot-most : (b : List ℕ) (s : ℕ) → slot_length b s ≤ 5049
slot-most b s = of-slot (λ n. n ≤ 5049) data_most (omega arith) b s
