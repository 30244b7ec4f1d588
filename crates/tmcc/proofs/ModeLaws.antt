-- Laws of specs/Mode.antt.
use Rattle.std.specs.Prelude.{ℕ, zero, suc, ◌+◌, ◌-◌, ◌%◌, ◌<◌, ◌≤◌, ◌≡◌, refl, true, false, ◌&&◌, List, eqb, ltb}
use Rattle.std.proofs.Common.{add-one, arith, lt-ltb, le-ltb}
use Rattle.tmcc.specs.Count.{all_below}
use Rattle.tmcc.proofs.CountLaws.{all-below-false}
use Rattle.tmcc.specs.Mode.{mode_byte, slot_count, back_off, modulation, code_rate, data_bytes, unused, used_at, mode_good, slots_of, modes_good, mode_from, mode_of, slot_length}

-- by cases: an unused mode, the first mode, a later one
pub good-unused : (b : List ℕ) (k : ℕ) → used_at b k ≡ false → mode_good b k ≡ unused (mode_byte b k) (slot_count b k) (back_off b k)
unfolding mode_good
good-unused b k e = rw e

pub good-first : (b : List ℕ) (k : ℕ) → used_at b k ≡ true → k ≡ 0 → mode_good b k ≡ true
unfolding mode_good
good-first b zero e h = rw e
good-first b (suc k) e h = absurd (omega arith)

pub good-later : (b : List ℕ) (k : ℕ) → used_at b k ≡ true → (k ≡ 0 → ⊥)
    → mode_good b k ≡ (used_at b (k - 1) && ltb (mode_byte b k) (mode_byte b (k - 1)))
unfolding mode_good
good-later b zero e h = absurd (h refl)
good-later b (suc k) e h = let p : suc k - 1 ≡ k = omega arith in rw (e, p)

-- one mode that breaks them; all that keep them
pub modes-bad : (b : List ℕ) (k : ℕ) → k < 8 → mode_good b k ≡ false → modes_good b ≡ false
unfolding modes_good
modes-bad b k h e = rw (all-below-false (mode_good b) k 8 h e)

pub modes-all : (b : List ℕ) → all_below (mode_good b) 8 ≡ true → modes_good b ≡ eqb (slots_of b 8) 120
unfolding modes_good
modes-all b e = rw e

-- the slots of one mode more
pub slots-one : (b : List ℕ) (k : ℕ) → slots_of b (k + 1) ≡ slots_of b k + slot_count b k
unfolding slots_of
slots-one b k = rw (add-one k)

-- of n modes in all, mode k has slot s, or a later one has it
pub mode_here : (b : List ℕ) (n k s : ℕ) → k < n → s < slot_count b k → mode_from b (n - k) k s ≡ k
unfolding mode_from
mode_here b n k s h l = let e : n - k ≡ suc (n - (k + 1)) = omega arith in rw (e, lt-ltb _ _ l)

pub mode_later : (b : List ℕ) (n k s : ℕ) → k < n → slot_count b k ≤ s
    → mode_from b (n - k) k s ≡ mode_from b (n - (k + 1)) (k + 1) (s - slot_count b k)
unfolding mode_from
mode_later b n k s h l = let e : n - k ≡ suc (n - (k + 1)) = omega arith in rw (e, le-ltb _ _ l)

-- the data length of a live slot of mode k, and of a dummy
pub length-live : (b : List ℕ) (s k : ℕ) → k ≡ mode_of b s → s % 5 < modulation (mode_byte b k)
    → slot_length b s ≡ data_bytes (code_rate (mode_byte b k))
unfolding slot_length
length-live b s k e l = rw (← e, lt-ltb _ _ l)

pub length_dummy : (b : List ℕ) (s k : ℕ) → k ≡ mode_of b s → modulation (mode_byte b k) ≤ s % 5 → slot_length b s ≡ 0
unfolding slot_length
length_dummy b s k e l = rw (← e, le-ltb _ _ l)
