-- The first bytes of a list: fields in them, and what is left of them.
use Rattle.std.specs.Prelude.{ℕ, zero, suc, ◌+◌, ◌≤◌, ◌<◌, ◌≡◌, refl, List, [], ◌∷◌, take, drop}
use Rattle.std.proofs.Common.{sym, zero-add, suc-add, arith, get_or-take}
use Rattle.std.proofs.Math.Seq.{take-nil}
use Rattle.wire.specs.Field.{be}

-- the first fields of a list are those of its first bytes
pub be-take : (n k : ℕ) (s : List ℕ) (i : ℕ) → i + n ≤ k → be n (take k s) i ≡ be n s i
unfolding be
be-take zero k s i h = refl
be-take (suc n) k s i h =
    let l : i + n < k = omega arith in
    rw (be-take n k s i (omega arith), get_or-take k s (i + n) 0 l)

pub drop-take : (k n : ℕ) (s : List ℕ) → drop k (take (k + n) s) ≡ take n (drop k s)
drop-take zero n s = rw (zero-add n)
drop-take (suc k) n [] = rw (take-nil (suc k + n)) (sym (take-nil n))
drop-take (suc k) n (x ∷ s) = rw (suc-add k n) (drop-take k n s)
