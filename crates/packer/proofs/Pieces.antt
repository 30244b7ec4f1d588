-- A unit's pieces: together they are the unit, and how many, how long and where they are.
use Rattle.std.proofs.Common.{◌≡◌, ℕ, zero, suc, ◌-◌, ◌*◌, ◌<◌, ◌≤◌, Bool, true, false, cond, leb, List, [], ◌∷◌, length, get_or, take, drop, sym, refl, ap, append-nil, suc-mul, add_comm, zero-mul, mul-one, mul-suc, arith, length-drop, take-append-drop, length-take, take_all, drop-drop, le-leb, leb-false, leb-true}
use borrow.Author.Tests.{lt-leb}
use Rattle.wire.proofs.Choice.{either}
use Rattle.packer.specs.Pieces.{pieces_by, pieces, count_by, count_of}
use Rattle.packer.specs.Packer.{joined}

-- they are counted by their lengths
count_by_lem : (n m : ℕ) (s : List ℕ) → length (pieces_by n m s) ≡ count_by n m (length s)
unfolding pieces_by count_by
count_by_lem zero m s = refl
count_by_lem (suc n) m s = go (leb (length s) m) (count_by_lem n m (drop m s))
  where
    go : (t : Bool) → length (pieces_by n m (drop m s)) ≡ count_by n m (length (drop m s))
        → length (cond t (s ∷ []) (take m s ∷ pieces_by n m (drop m s))) ≡ cond t 1 (suc (count_by n m (length s - m)))
    go true i = refl
    go false i = rw (i, length-drop)

pub count-pieces : (m : ℕ) (s : List ℕ) → length (pieces m s) ≡ count_of m (length s)
unfolding pieces count_of
count-pieces m s = count_by_lem (length s) m s

-- where the count stops, where it ends, and how it goes on
pub count_stop : (m len : ℕ) → count_by 0 m len ≡ 1
unfolding count_by
count_stop m len = refl

pub count-last : (n m len : ℕ) → len ≤ m → count_by n m len ≡ 1
unfolding count_by
count-last zero m len h = refl
count-last (suc n) m len h = rw (le-leb _ _ h)

pub count_next : (n m len : ℕ) → m < len → count_by (suc n) m len ≡ suc (count_by n m (len - m))
unfolding count_by
count_next n m len h = rw (lt-leb _ _ h)

count-some : (n m len : ℕ) → 0 < count_by n m len
unfolding count_by
count-some zero m len = omega arith
count-some (suc n) m len = either (λ c. 0 < c) (leb len m) (omega arith) (omega arith)

-- a count that stops above `k`: it is all of them, or both are above `k`
abbrev pub Bounded : ℕ → ℕ → ℕ → Type 0
Bounded k counted all = (counted ≤ k → counted ≡ all) × (k < counted → k < all)

bounded_last : (k n m len : ℕ) → len ≤ m → Bounded k (count_by k m len) (count_by n m len)
bounded_last k n m len l = rw (count-last k m len l, count-last n m len l) (λ h. refl, λ h. h)

bounded_by : (k n m len : ℕ) → 0 < m → len ≤ n → Bounded k (count_by k m len) (count_by n m len)
bounded_by k zero m len p f = bounded_last k zero m len (omega arith)
bounded_by zero (suc n) m len p f = (λ h. absurd (omega (arith, count_stop m len, h)), λ h. count-some (suc n) m len)
bounded_by (suc k) (suc n) m len p f = go (leb len m) refl (λ l. bounded_by k n m (len - m) p (omega (arith, l)))
  where
    go : (t : Bool) → leb len m ≡ t → (m < len → Bounded k (count_by k m (len - m)) (count_by n m (len - m)))
        → Bounded (suc k) (count_by (suc k) m len) (count_by (suc n) m len)
    go true e i = bounded_last (suc k) (suc n) m len (leb-true len m e)
    go false e i =
        let l = leb-false len m e in
        let b = i l in
        rw (count_next k m len l, count_next n m len l)
        (λ h. ap suc (b.0 (omega (arith, h))), λ h. omega (arith, b.1 (omega (arith, h))))

pub count_bounded : (k m len : ℕ) → 0 < m → Bounded k (count_by k m len) (count_of m len)
unfolding count_of
count_bounded k m len p = bounded_by k len m len p (omega arith)

-- they cover the unit
covers-by : (n m len : ℕ) → 0 < m → len ≤ n → len ≤ m * count_by n m len
covers-by zero m len p f = omega arith
covers-by (suc n) m len p f = go (leb len m) refl (λ l. covers-by n m (len - m) p (omega (arith, l)))
  where
    go : (t : Bool) → leb len m ≡ t → (m < len → len - m ≤ m * count_by n m (len - m)) → len ≤ m * count_by (suc n) m len
    go true e i = let l = leb-true len m e in rw (count-last (suc n) m len l, mul-one) l
    go false e i = let l = leb-false len m e in rw (count_next n m len l, mul-suc) (omega (arith, i l))

pub covers : (m len : ℕ) → 0 < m → len ≤ m * count_of m len
unfolding count_of
covers m len p = covers-by len m len p (omega arith)

-- each begins in the unit
begins-by : (n m len i : ℕ) → i < count_by n m len → i * m ≤ len
unfolding count_by
begins-by n m len zero h = rw zero-mul (omega arith)
begins-by zero m len (suc i) h = absurd (omega arith)
begins-by (suc n) m len (suc i) h = go (leb len m) refl h (begins-by n m (len - m) i)
  where
    go : (t : Bool) → leb len m ≡ t → suc i < cond t 1 (suc (count_by n m (len - m)))
        → (i < count_by n m (len - m) → i * m ≤ len - m) → suc i * m ≤ len
    go true e k b = absurd (omega arith)
    go false e k b =
        let l = leb-false len m e in
        let r = b (omega arith) in
        rw suc-mul (omega arith)

pub begins : (m len i : ℕ) → i < count_of m len → i * m ≤ len
unfolding count_of
begins m len i h = begins-by len m len i h

-- piece `i` is what stands there
piece-by : (n m : ℕ) (s : List ℕ) (i : ℕ) → 0 < m → length s ≤ n → i < length (pieces_by n m s)
    → get_or (pieces_by n m s) i [] ≡ take m (drop (i * m) s)
unfolding pieces_by
piece-by zero m s zero o f h = rw zero-mul (sym (take_all m s (omega arith)))
piece-by zero m s (suc i) o f h = absurd (omega arith)
piece-by (suc n) m s zero o f h = rw zero-mul (go (leb (length s) m) refl)
  where
    go : (t : Bool) → leb (length s) m ≡ t → get_or (cond t (s ∷ []) (take m s ∷ pieces_by n m (drop m s))) 0 [] ≡ take m s
    go true e = sym (take_all m s (leb-true _ _ e))
    go false e = refl
piece-by (suc n) m s (suc i) o f h = go (leb (length s) m) refl h (piece-by n m (drop m s) i o)
  where
    go : (t : Bool) → leb (length s) m ≡ t → suc i < length (cond t (s ∷ []) (take m s ∷ pieces_by n m (drop m s)))
        → (length (drop m s) ≤ n → i < length (pieces_by n m (drop m s))
        → get_or (pieces_by n m (drop m s)) i [] ≡ take m (drop (i * m) (drop m s)))
        → get_or (cond t (s ∷ []) (take m s ∷ pieces_by n m (drop m s))) (suc i) [] ≡ take m (drop (suc i * m) s)
    go true e k b = absurd (omega arith)
    go false e k b =
        let l = length-drop m s in
        let r = b (omega arith) (omega arith) in
        rw (r, drop-drop, suc-mul, add_comm (i * m) m)

pub piece_is : (m : ℕ) (s : List ℕ) (i : ℕ) → 0 < m → i < length (pieces m s) → get_or (pieces m s) i [] ≡ take m (drop (i * m) s)
unfolding pieces
piece_is m s i o h = piece-by (length s) m s i o (omega arith) h

-- each has at most `m` bytes
abbrev pub AllMost : ℕ → List (List ℕ) → Type 0
AllMost m [] = Unit {0}
AllMost m (s ∷ ss) = (length s ≤ m) × AllMost m ss

pub all_most : (m n : ℕ) → m ≤ n → (ss : List (List ℕ)) → AllMost m ss → AllMost n ss
all_most m n h [] a = tt
all_most m n h (s ∷ ss) a = (omega (arith, a.0), all_most m n h ss a.1)

most-by : (n m : ℕ) (s : List ℕ) → 0 < m → length s ≤ n → AllMost m (pieces_by n m s)
unfolding pieces_by
most-by zero m s o f = (omega arith, tt)
most-by (suc n) m s o f =
    go (leb (length s) m) refl (λ h. most-by n m (drop m s) o (omega (arith, length-drop m s)))
  where
    go : (t : Bool) → leb (length s) m ≡ t → (m < length s → AllMost m (pieces_by n m (drop m s)))
        → AllMost m (cond t (s ∷ []) (take m s ∷ pieces_by n m (drop m s)))
    go true e r = (leb-true _ _ e, tt)
    go false e r = (omega (arith, length-take m s), r (leb-false _ _ e))

pub pieces-most : (m : ℕ) (s : List ℕ) → 0 < m → AllMost m (pieces m s)
unfolding pieces
pieces-most m s o = most-by (length s) m s o (omega arith)

-- an empty unit is one piece too
pub pieces-some : (m : ℕ) (s : List ℕ) → 0 < length (pieces m s)
unfolding pieces
pieces-some m s = rw (count_by_lem (length s) m s) (count-some (length s) m (length s))

-- together they are the unit
joined_by : (n m : ℕ) (s : List ℕ) → joined (pieces_by n m s) ≡ s
unfolding pieces_by joined
joined_by zero m s = append-nil s
joined_by (suc n) m s = go (leb (length s) m) (joined_by n m (drop m s))
  where
    go : (t : Bool) → joined (pieces_by n m (drop m s)) ≡ drop m s
        → joined (cond t (s ∷ []) (take m s ∷ pieces_by n m (drop m s))) ≡ s
    go true i = append-nil s
    go false i = rw i (take-append-drop m s)

pub joined-pieces : (m : ℕ) (s : List ℕ) → joined (pieces m s) ≡ s
unfolding pieces
joined-pieces m s = joined_by (length s) m s
