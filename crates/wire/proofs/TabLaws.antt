-- Laws of specs/Tab.antt.
use Rattle.std.specs.Prelude.{ℕ, zero, suc, ◌+◌, ◌<◌, ◌≤◌, ◌≡◌, refl, List, [], ◌∷◌, ◌++◌, length, get_or, take, set}
use Rattle.std.proofs.Common.{sym, ◌∙◌, ap, ⊎_elim, eq-or-lt_of_le, le_of_suc-le-suc, not-suc-le-zero, add-one, arith, length-append, take-suc-set, take_all, ext_get_or}
use Rattle.std.proofs.Math.ListN.{get_or-append}
use Rattle.std.proofs.lemmas.List.{get_or_at}
use Rattle.wire.specs.Tab.{tab}

-- each number below k + 1 is below k, or is k
pub below_one : {P : Type 0} (i k : ℕ) → i < suc k → (i ≡ k → P) → (i < k → P) → P
below_one i k h same less = ⊎_elim same less (eq-or-lt_of_le (le_of_suc-le-suc h))

pub length-tab : {A : Type 0} (f : ℕ → A) (n : ℕ) → length (tab f n) ≡ n
unfolding tab
length-tab f zero = refl
length-tab f (suc n) = rw (length-append, length-tab f n) (omega arith)

pub get_or-tab : {A : Type 0} (f : ℕ → A) (n i : ℕ) (d : A) → i < n → get_or (tab f n) i d ≡ f i
unfolding tab
get_or-tab f zero i d h = absurd (not-suc-le-zero h)
get_or-tab f (suc n) i d h =
    below_one i n h (λ q. rw q (get_or_at (tab f n) (f n) [] d n (length-tab f n)))
    (λ l. get_or-append (tab f n) (f n ∷ []) d i (rw (length-tab f n) l) ∙ get_or-tab f n i d l)

-- a turn of a loop that fills an array in order
pub tab-turn : {A : Type 0} (f : ℕ → A) (l : List A) (k : ℕ) (a : A) → k < length l → take k l ≡ tab f k → a ≡ f k
    → take (k + 1) (set l k a) ≡ tab f (k + 1)
unfolding tab
tab-turn f l k a h e q = rw (add-one, q) (take-suc-set l k (f k) h ∙ ap (λ t. t ++ (f k ∷ [])) e)

-- the array that it has filled
pub tab-filled : {A : Type 0} (f : ℕ → A) (l : List A) (n k : ℕ) → length l ≡ n → k ≤ n → n ≤ k → take k l ≡ tab f k → l ≡ tab f n
tab-filled f l n k e h g t =
    let q : k ≡ n = omega arith in
    sym (take_all n l (omega arith)) ∙ rw q at t

-- two functions that agree below n
pub tab-same : {A : Type 0} (f g : ℕ → A) (n : ℕ) → ((k : ℕ) → k < n → f k ≡ g k) → tab f n ≡ tab g n
unfolding tab
tab-same f g zero h = refl
tab-same f g (suc n) h = rw (tab-same f g n (λ k l. h k (omega arith)), h n (omega arith))

-- a list is the list of its elements
pub tab-list : {A : Type 0} (l : List A) (n : ℕ) (d : A) → length l ≡ n → tab (λ k. get_or l k d) n ≡ l
tab-list l n d e =
    ext_get_or d (tab (λ k. get_or l k d) n) l (length-tab (λ k. get_or l k d) n ∙ sym e)
    (λ k h. get_or-tab (λ k. get_or l k d) n k d (rw (length-tab (λ k. get_or l k d) n) at h))
