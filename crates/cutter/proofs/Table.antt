-- The data lengths of the table, by one test computed over it.
use Prim.Native.Nat.{ℕ, zero, suc, ◌+◌, ◌≤◌, ◌<◌}
use mathlib.Core.Path.{◌≡◌, refl, sym}
use Rattle.std.proofs.Common.{◌≢◌, add_comm, length}
use Rattle.std.specs.Bool.{MatchBool}
use Rattle.std.specs.List.{range_with_len, AllWithin, HoldsAt}
use Rattle.std.proofs.lemmas.List.FromFn.{get_or-range_with_len}
use mathlib.Core.Bool.{Bool, true, false, ◌&&◌, and-eq-true_iff, and-true, true≢false}
use native.Mathlib.Omega.{arith}
use lib.Dec.{leb}
use borrow.Author.Tests.{eqb-true, eq-eqb, ne_eqb, leb-true, not-false}
use Rattle.tmcc.specs.Count.{all_below}
use Rattle.tmcc.specs.Mode.{data_bytes}
use Rattle.tmcc.proofs.CountLaws.{all-below-false}
use Rattle.cutter.specs.Slot.{other_rate, unlisted}

-- where one number fails a test, and each passes another
found : {P : Type 0} (p q : ℕ → Bool) (n : ℕ) → all_below p n ≡ false → all_below q n ≡ true
    → ((k : ℕ) → p k ≡ false → q k ≡ true → P) → P
unfolding all_below
found p q zero f t give = absurd (true≢false f)
found {P} p q (suc n) f t give =
    let both = (and-eq-true_iff (all_below q n) (q n)).0 t in
    go (p n) refl both.1 (λ g. found p q n g both.0 give)
  where
    go : (b : Bool) → p n ≡ b → q n ≡ true → (all_below p n ≡ false → P) → P
    go false e h ih = give n e h
    go true e h ih = ih (rw (e, and-true (all_below p n)) at f)

every : (p : ℕ → Bool) (n : ℕ) → ((k : ℕ) → k < n → p k ≡ true) → all_below p n ≡ true
unfolding all_below
every p zero h = refl
every p (suc n) h = rw (every p n (λ k l. h k (omega arith)), h n (omega arith))

-- whether a length is not in the table, by what `all` says of the code rates
pub unlisted-by : (l : ℕ) (r : Bool)
    → MatchBool r (AllWithin (λ k. data_bytes k ≢ l) (range_with_len 1 11) 0 (length (range_with_len 1 11)))
    ((k : ℕ) × (k < length (range_with_len 1 11)) × HoldsAt (λ k. data_bytes k ≡ l) (range_with_len 1 11) k)
    → r ≡ unlisted l
unfolding unlisted
unlisted-by l true h =
    sym (every (other_rate l) 11 (λ k i. rw (ne_eqb _ _ (rw (get_or-range_with_len 1 11 k 0 i, add_comm 1 k) at (h k 0 (omega arith) i)))))
unlisted-by l false h =
    let e : data_bytes (h.0 + 1) ≡ l = rw (get_or-range_with_len 1 11 h.0 0 h.1, add_comm 1 h.0) at (h.2 0) in
    sym (all-below-false (other_rate l) h.0 11 h.1 (rw (eq-eqb _ _ e)))

abbrev between : ℕ → Bool
between k = leb 1870 (data_bytes (k + 1)) && leb (data_bytes (k + 1)) 5049

pub listed_bounds : (l : ℕ) → unlisted l ≡ false → (1870 ≤ l) × (l ≤ 5049)
unfolding unlisted
listed_bounds l u = found (other_rate l) between 11 u (unfold all_below data_bytes in refl) pick
  where
    pick : (k : ℕ) → other_rate l k ≡ false → between k ≡ true → (1870 ≤ l) × (l ≤ 5049)
    pick k e b =
        let q : data_bytes (k + 1) ≡ l = eqb-true _ _ (not-false _ e) in
        let c = (and-eq-true_iff (leb 1870 (data_bytes (k + 1))) (leb (data_bytes (k + 1)) 5049)).0 b in
        omega (arith, leb-true 1870 (data_bytes (k + 1)) c.0, leb-true (data_bytes (k + 1)) 5049 c.1)
