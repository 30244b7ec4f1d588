-- Laws of specs/Bounds.antt.
use Rattle.std.specs.Prelude.{ℕ, ◌+◌, ◌<◌, ◌≤◌, ◌≡◌, refl, true, false, ◌&&◌, List, [], ◌∷◌, leb, length, get_or, drop}
use Rattle.std.proofs.Common.{◌∙◌, add-one, arith, le-leb}
use Rattle.std.proofs.Math.Bool.{and-false, and-eq-true_iff}
use Rattle.std.proofs.lemmas.Bool.{lt-leb}
use Rattle.std.proofs.Math.Seq.{drop-cons, drop-length}
use Rattle.std.specs.List.{list_all, zip}
use Rattle.calls.specs.Bounds.{are_within}

-- Laws.
-- place by place, where there are enough words
pub within-zip : (t ms : List ℕ) → length ms ≤ length t → list_all (λ (p : ℕ × ℕ). leb p.1 p.0) (zip ms t) ≡ are_within t ms
unfolding are_within
within-zip t [] h = refl
within-zip [] (m ∷ ms) h = absurd (omega arith)
within-zip (w ∷ t) (m ∷ ms) h = rw (within-zip t ms (omega arith))

-- too few words
pub within-few : (t ms : List ℕ) → length t < length ms → are_within t ms ≡ false
unfolding are_within
within-few t [] h = absurd (omega arith)
within-few [] (m ∷ ms) h = refl
within-few (w ∷ t) (m ∷ ms) h = rw (within-few t ms (omega arith)) (and-false (leb w m))

-- a word at a time
module _ (t ms : List ℕ) (k : ℕ) (h : k < length t) (g : k < length ms) where
  step : are_within (drop k t) (drop k ms) ≡ (leb (get_or t k 0) (get_or ms k 0) && are_within (drop (k + 1) t) (drop (k + 1) ms))
  unfolding are_within
  step = rw (drop-cons t k 0 h, drop-cons ms k 0 g, add-one)

  pub within-above : get_or ms k 0 < get_or t k 0 → are_within (drop k t) (drop k ms) ≡ false
  within-above l = step ∙ rw (lt-leb (get_or t k 0) (get_or ms k 0) l)

  pub within_on : get_or t k 0 ≤ get_or ms k 0 → are_within (drop k t) (drop k ms) ≡ are_within (drop (k + 1) t) (drop (k + 1) ms)
  within_on l = step ∙ rw (le-leb (get_or t k 0) (get_or ms k 0) l)

pub within_end : (t ms : List ℕ) (k : ℕ) → k ≡ length ms → are_within (drop k t) (drop k ms) ≡ true
unfolding are_within
within_end t ms k e = rw (e, drop-length ms)

pub within-enough : (t ms : List ℕ) → are_within t ms ≡ true → length ms ≤ length t
unfolding are_within
within-enough t [] e = omega arith
within-enough [] (m ∷ ms) e = let y : ◌≡◌ {A = ℕ} 0 1 = cc in absurd (omega arith)
within-enough (w ∷ t) (m ∷ ms) e =
    let i = within-enough t ms ((and-eq-true_iff (leb w m) (are_within t ms)).0 e).1 in
    omega arith
