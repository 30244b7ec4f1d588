-- Laws of specs/Words.antt.
use Rattle.std.specs.Prelude.{ℕ, zero, suc, ◌+◌, ◌-◌, ◌<◌, ◌≤◌, ◌≡◌, refl, Bool, true, false, ◌⊎◌, List, [], ◌∷◌, ◌++◌, eqb, ltb, length, get_or, set, replicate}
use Rattle.std.proofs.Common.{sym, ◌∙◌, ap, inl, inr, add-zero, add-one, arith, length-set, get_or-set_same, get_or-set_other, get_or-append-add, ext_get_or, ltb-true, ltb-false, eqb-true}
use Rattle.std.proofs.Math.ListN.{get_or-append}
use Rattle.std.proofs.lemmas.List.{get_or-replicate}
use Rattle.std.proofs.lemmas.Bool.{eqb-false}
use Rattle.wire.proofs.TabLaws.{below_one}
use Rattle.wire.specs.Words.{Holds, Zeros, Put, Beside, Within, flag_word, flag_of, Same, put_from}

-- Laws.
pub flag-back : (b : Bool) → flag_of (flag_word b) ≡ b
unfolding flag_of
flag-back true = refl
flag-back false = refl

module _ (t : List ℕ) (i : ℕ) (u : List ℕ) (k : ℕ) where
  -- from j words further on
  pub same_from : (j m n : ℕ) → j + m ≤ n → Same t i u k n → Same t (i + j) u (k + j) m
  same_from j m n h s l g =
      let a : i + j + l ≡ i + (j + l) = omega arith in
      let b : k + j + l ≡ k + (j + l) = omega arith in
      rw (a, b) (s (j + l) (omega arith))

  pub same_first : (n : ℕ) → 0 < n → Same t i u k n → get_or t i 0 ≡ get_or u k 0
  same_first n h s = rw (add-zero i, add-zero k) at (s 0 h)

length-put : (t : List ℕ) (i m : ℕ) (vs : List ℕ) → length (put_from t i m vs) ≡ length t
unfolding put_from
length-put t i m [] = refl
length-put t i m (v ∷ vs) = length-put (set t (i + m) v) i (suc m) vs ∙ length-set t (i + m) v

put-below : (t : List ℕ) (i m : ℕ) (vs : List ℕ) (n : ℕ) → n < i + m → get_or (put_from t i m vs) n 0 ≡ get_or t n 0
unfolding put_from
put-below t i m [] n h = refl
put-below t i m (v ∷ vs) n h =
    put-below (set t (i + m) v) i (suc m) vs n (omega arith) ∙ get_or-set_other t (i + m) n v 0 (λ e. omega arith)

put-above : (t : List ℕ) (i m : ℕ) (vs : List ℕ) (n : ℕ) → i + m + length vs ≤ n → get_or (put_from t i m vs) n 0 ≡ get_or t n 0
unfolding put_from
put-above t i m [] n h = refl
put-above t i m (v ∷ vs) n h =
    put-above (set t (i + m) v) i (suc m) vs n (omega arith) ∙ get_or-set_other t (i + m) n v 0 (λ e. omega arith)

put-at : (t : List ℕ) (i m : ℕ) (vs : List ℕ) (j : ℕ) → i + m + length vs ≤ length t → j < length vs
    → get_or (put_from t i m vs) (i + (m + j)) 0 ≡ get_or vs j 0
unfolding put_from
put-at t i m [] j h g = absurd (omega arith)
put-at t i m (v ∷ vs) zero h g =
    rw (add-zero m)
    (put-below (set t (i + m) v) i (suc m) vs (i + m) (omega arith) ∙ get_or-set_same t (i + m) v 0 (omega arith))
put-at t i m (v ∷ vs) (suc j) h g =
    let e : m + suc j ≡ suc m + j = omega arith in
    rw e (put-at (set t (i + m) v) i (suc m) vs j (rw (length-set t (i + m) v) (omega arith)) (omega arith))

-- what stores leave
pub stores : (t : List ℕ) (i n : ℕ) (xs : List ℕ) → length xs ≡ n → i + n ≤ length t → Put t (put_from t i 0 xs) i n xs
stores t i n xs l h =
    record {
      size = length-put t i 0 xs;
      holds = λ j g. let e : 0 + j ≡ j = omega arith in rw e at (put-at t i 0 xs j (omega arith) (omega arith));
      below = λ m g. put-below t i 0 xs m (omega arith);
      above = λ m g. put-above t i 0 xs m (omega arith);
    }

-- words that are put behind others
pub put_on : (t u v : List ℕ) (i m n k : ℕ) (xs ys : List ℕ) → length xs ≡ m → m + n ≡ k → Put t u i m xs → Put u v (i + m) n ys
    → Put t v i k (xs ++ ys)
put_on t u v i m n k xs ys l s p q =
    record {
      size = q.size ∙ p.size;
      holds = λ j g. go j g (ltb j m) refl;
      below = λ w g. q.below w (omega arith) ∙ p.below w g;
      above = λ w g. q.above w (omega arith) ∙ p.above w (omega arith);
    }
  where
    go : (j : ℕ) → j < k → (b : Bool) → ltb j m ≡ b → get_or v (i + j) 0 ≡ get_or (xs ++ ys) j 0
    go j g true e =
        let h = ltb-true j m e in
        q.below (i + j) (omega arith) ∙ p.holds j h ∙ sym (get_or-append xs ys 0 j (omega arith))
    go j g false e =
        let h = ltb-false j m e in
        let d : ℕ = j - m in
        let a : i + j ≡ i + m + d = omega arith in
        let b : j ≡ length xs + d = omega arith in
        ap (λ (x : ℕ). get_or v x 0) a ∙ q.holds d (omega arith) ∙ sym (ap (λ (x : ℕ). get_or (xs ++ ys) x 0) b ∙ get_or-append-add xs ys d 0)

-- the same words where nothing is put
pub put-none : (t : List ℕ) (i : ℕ) → Put t t i 0 []
put-none t i = record { size = refl; holds = λ j h. absurd (omega arith); below = λ m h. refl; above = λ m h. refl }

-- words of a list that are put one by one: none yet, and one more
pub put-start : (t : List ℕ) (i : ℕ) (xs : List ℕ) → Put t t i 0 xs
put-start t i xs = record { size = refl; holds = λ j h. absurd (omega arith); below = λ m h. refl; above = λ m h. refl }

pub put_next : (t u : List ℕ) (i k : ℕ) (xs : List ℕ) → i + k < length t → Put t u i k xs
    → Put t (set u (i + k) (get_or xs k 0)) i (k + 1) xs
put_next t u i k xs h p =
    record {
      size = length-set u (i + k) (get_or xs k 0) ∙ p.size;
      holds = λ j g. below_one j k (rw add-one at g) (λ e. rw e (get_or-set_same u (i + k) (get_or xs k 0) 0 (rw p.size h)))
          (λ l. get_or-set_other u (i + k) (i + j) (get_or xs k 0) 0 (λ e. omega arith) ∙ p.holds j l);
      below = λ m g. get_or-set_other u (i + k) m (get_or xs k 0) 0 (λ e. omega arith) ∙ p.below m g;
      above = λ m g. get_or-set_other u (i + k) m (get_or xs k 0) 0 (λ e. omega arith) ∙ p.above m (omega arith);
    }

-- such words are determined
pub put_one : (t u v : List ℕ) (i n : ℕ) (xs : List ℕ) → Put t u i n xs → Put t v i n xs → u ≡ v
put_one t u v i n xs p q = ext_get_or 0 u v (p.size ∙ sym q.size) (λ m h. go m (ltb m i) refl)
  where
    go : (m : ℕ) (b : Bool) → ltb m i ≡ b → get_or u m 0 ≡ get_or v m 0
    go m true e = let h = ltb-true m i e in p.below m h ∙ sym (q.below m h)
    go m false e = low m (ltb-false m i e) (ltb m (i + n)) refl
      where
        low : (m : ℕ) → i ≤ m → (b : Bool) → ltb m (i + n) ≡ b → get_or u m 0 ≡ get_or v m 0
        low m g true f =
            let h = ltb-true m (i + n) f in
            let d : ℕ = m - i in
            let a : m ≡ i + d = omega arith in
            rw a (p.holds d (omega arith) ∙ sym (q.holds d (omega arith)))
        low m g false f = let h = ltb-false m (i + n) f in p.above m h ∙ sym (q.above m h)

-- words put somewhere are the same as the list's own
pub put_holds : (t u : List ℕ) (i n : ℕ) (xs : List ℕ) → Put t u i n xs → Same u i xs 0 n
put_holds t u i n xs p j h = let e : 0 + j ≡ j = omega arith in rw e (p.holds j h)

-- and words elsewhere are as they were
pub put_same : (t u : List ℕ) (i n : ℕ) (xs : List ℕ) → Put t u i n xs → (k m : ℕ) → (k + m ≤ i) ⊎ (i + n ≤ k) → Same u k t k m
put_same t u i n xs p k m (inl h) j g = p.below (k + j) (omega arith)
put_same t u i n xs p k m (inr h) j g = p.above (k + j) (omega arith)

pub put-within : (t u : List ℕ) (i n : ℕ) (xs : List ℕ) → Put t u i n xs → Within t u i n
put-within t u i n xs p = record { size = p.size; elsewhere = λ m h. go m h }
  where
    go : (m : ℕ) → Beside m i n → get_or u m 0 ≡ get_or t m 0
    go m (inl h) = p.below m h
    go m (inr h) = p.above m h

-- words that are 0
pub zeros_hold : (t : List ℕ) (i n : ℕ) → Zeros t i n → Holds t i n (replicate n 0)
zeros_hold t i n z j h = z j h ∙ sym (get_or-replicate n j 0 0 h)

-- a list and one behind it
pub same-front : (xs ys : List ℕ) (n : ℕ) → n ≤ length xs → Same (xs ++ ys) 0 xs 0 n
same-front xs ys n h j g = let e : 0 + j ≡ j = omega arith in rw e (get_or-append xs ys 0 j (omega arith))

pub same-behind : (xs ys : List ℕ) (m n : ℕ) → length xs ≡ m → Same (xs ++ ys) m ys 0 n
same-behind xs ys m n l j g = let e : 0 + j ≡ j = omega arith in rw (e, ← l) (get_or-append-add xs ys j 0)

-- words that stand somewhere are put there where they are stored again
pub holds-put : (t : List ℕ) (i n : ℕ) (xs : List ℕ) → Holds t i n xs → Put t t i n xs
holds-put t i n xs h = record { size = refl; holds = h; below = λ m g. refl; above = λ m g. refl }

-- of two lists that stand one behind the other, each stands by itself
pub holds-front : (t : List ℕ) (i m n : ℕ) (xs ys : List ℕ) → m ≤ length xs → m ≤ n → Holds t i n (xs ++ ys) → Holds t i m xs
holds-front t i m n xs ys l k h j g = h j (omega arith) ∙ get_or-append xs ys 0 j (omega arith)

pub holds-behind : (t : List ℕ) (i m k n : ℕ) (xs ys : List ℕ) → length xs ≡ m → m + k ≤ n → Holds t i n (xs ++ ys)
    → Holds t (i + m) k ys
holds-behind t i m k n xs ys l s h j g =
    let a : i + m + j ≡ i + (m + j) = omega arith in
    let b : m + j ≡ length xs + j = omega arith in
    rw a (h (m + j) (omega arith) ∙ ap (λ (x : ℕ). get_or (xs ++ ys) x 0) b ∙ get_or-append-add xs ys j 0)

-- one word is stored, among words and in their list
pub holds-set : (t : List ℕ) (i n : ℕ) (xs : List ℕ) (k v : ℕ) → i + k < length t → k < length xs → Holds t i n xs
    → Holds (set t (i + k) v) i n (set xs k v)
holds-set t i n xs k v l s h j g = go (eqb j k) refl
  where
    go : (b : Bool) → eqb j k ≡ b → get_or (set t (i + k) v) (i + j) 0 ≡ get_or (set xs k v) j 0
    go true e = rw (eqb-true j k e) (get_or-set_same t (i + k) v 0 l ∙ sym (get_or-set_same xs k v 0 s))
    go false e =
        let d = eqb-false j k e in
        get_or-set_other t (i + k) (i + j) v 0 (λ q. d (omega arith)) ∙ h j g ∙ sym (get_or-set_other xs k j v 0 d)

-- stores within a part
pub within_none : (t : List ℕ) (i n : ℕ) → Within t t i n
within_none t i n = record { size = refl; elsewhere = λ m h. refl }

pub within-put : (t u : List ℕ) (i n k m : ℕ) (xs : List ℕ) → i ≤ k → k + m ≤ i + n → Put t u k m xs → Within t u i n
within-put t u i n k m xs a b p = record { size = p.size; elsewhere = λ w h. go w h }
  where
    go : (w : ℕ) → Beside w i n → get_or u w 0 ≡ get_or t w 0
    go w (inl h) = p.below w (omega arith)
    go w (inr h) = p.above w (omega arith)

pub within-set : (t : List ℕ) (i n k v : ℕ) → k < n → Within t (set t (i + k) v) i n
within-set t i n k v s = record { size = length-set t (i + k) v; elsewhere = λ w h. get_or-set_other t (i + k) w v 0 (go w h) }
  where
    go : (w : ℕ) → Beside w i n → w ≡ i + k → ⊥
    go w (inl h) e = omega arith
    go w (inr h) e = omega arith
