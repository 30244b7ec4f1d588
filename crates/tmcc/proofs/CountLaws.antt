-- Laws of specs/Count.antt.
use Rattle.std.specs.Prelude.{ℕ, zero, suc, ◌+◌, ◌<◌, ◌≡◌, Bool, true, false, cond, ◌&&◌}
use Rattle.std.proofs.Math.Bool.{and-false}
use Rattle.std.proofs.Common.{not-suc-le-zero, add-one, arith}
use Rattle.wire.proofs.TabLaws.{below_one}
use Rattle.tmcc.specs.Count.{all_below, count_below, last_below}

-- one number more
pub all_one : (p : ℕ → Bool) (k : ℕ) → all_below p (k + 1) ≡ (all_below p k && p k)
unfolding all_below
all_one p k = rw (add-one k)

pub count-one : (p : ℕ → Bool) (k : ℕ) → count_below p (k + 1) ≡ cond (p k) (count_below p k + 1) (count_below p k)
unfolding count_below
count-one p k = rw (add-one k)

pub last_one : (p : ℕ → Bool) (k : ℕ) → last_below p (k + 1) ≡ cond (p k) k (last_below p k)
unfolding last_below
last_one p k = rw (add-one k)

-- one number that does not pass
pub all-below-false : (p : ℕ → Bool) (k n : ℕ) → k < n → p k ≡ false → all_below p n ≡ false
unfolding all_below
all-below-false p k zero h e = absurd (not-suc-le-zero h)
all-below-false p k (suc n) h e =
    below_one k n h (λ q. rw (← q, e) (and-false (all_below p k))) (λ l. rw (all-below-false p k n l e))

-- a count that is 0 was 0 one number before
zero-before : (t : Bool) (n : ℕ) → cond t (n + 1) n ≡ 0 → n ≡ 0
zero-before true n z = omega arith
zero-before false n z = z

-- so one number that passes keeps the count from 0
pub count-below-true : (p : ℕ → Bool) (k n : ℕ) → k < n → p k ≡ true → count_below p n ≡ 0 → ⊥
unfolding count_below
count-below-true p k zero h e = absurd (not-suc-le-zero h)
count-below-true p k (suc n) h e =
    below_one k n h (λ q. rw (← q, e) (λ z. omega arith)) (λ l z. count-below-true p k n l e (zero-before (p n) _ z))
