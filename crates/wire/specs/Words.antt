-- Words of a memory: words that stand somewhere, words that are put somewhere, and what is the same elsewhere.
use Rattle.std.specs.Prelude.{ℕ, suc, ◌+◌, ◌<◌, ◌≤◌, ◌≡◌, Bool, true, false, not, ◌⊎◌, List, [], ◌∷◌, eqb, length, get_or, set}

-- the words `xs`, `n` of them, stand in `t` from `i` on
abbrev pub Holds : List ℕ → ℕ → ℕ → List ℕ → Type 0
Holds t i n xs = (j : ℕ) → j < n → get_or t (i + j) 0 ≡ get_or xs j 0

-- n words from i on are 0
abbrev pub Zeros : List ℕ → ℕ → ℕ → Type 0
Zeros t i n = (j : ℕ) → j < n → get_or t (i + j) 0 ≡ 0

-- `after` is `before` with the words `xs`, `n` of them, from `i` on
pub record Put (before after : List ℕ) (i n : ℕ) (xs : List ℕ) : Type 0 where
  pub size : length after ≡ length before
  pub holds : Holds after i n xs
  pub below : (m : ℕ) → m < i → get_or after m 0 ≡ get_or before m 0
  pub above : (m : ℕ) → i + n ≤ m → get_or after m 0 ≡ get_or before m 0

-- a place outside the `n` words from `i` on
abbrev pub Beside : ℕ → ℕ → ℕ → Type 0
Beside m i n = (m < i) ⊎ (i + n ≤ m)

-- `after` is `before` but for the `n` words from `i` on
pub record Within (before after : List ℕ) (i n : ℕ) : Type 0 where
  pub size : length after ≡ length before
  pub elsewhere : (m : ℕ) → Beside m i n → get_or after m 0 ≡ get_or before m 0

-- a flag as a word, and the flag of a word
abbrev pub flag_word : Bool → ℕ
flag_word true = 1
flag_word false = 0

unfoldable pub flag_of : ℕ → Bool
flag_of n = not (eqb n 0)

-- the same words, perhaps elsewhere
abbrev pub Same : List ℕ → ℕ → List ℕ → ℕ → ℕ → Type 0
Same t i u k n = (j : ℕ) → j < n → get_or t (i + j) 0 ≡ get_or u (k + j) 0

-- stores one behind the other, the next one at i + m
unfoldable pub put_from : List ℕ → ℕ → ℕ → List ℕ → List ℕ
put_from t i m [] = t
put_from t i m (v ∷ vs) = put_from (set t (i + m) v) i (suc m) vs
