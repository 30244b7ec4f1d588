-- "all decimal": the text of a number.
use Rattle.std.specs.Prelude.{ℕ, zero, suc, ◌+◌, ◌/◌, ◌%◌, ◌≤◌, ◌<◌, cond, ltb}
use mathlib.Core.List.{List, [], ◌∷◌, ◌++◌}

-- the character of a digit, 48 being `0`
abbrev pub digit : ℕ → ℕ
digit d = 48 + d

-- the digits of n from the highest on, at most `f` of them
unfoldable pub digits : ℕ → ℕ → List ℕ
digits zero n = []
digits (suc f) n =
    let more : List ℕ = digits f (n / 10) ++ (digit (n % 10) ∷ []) in
    cond (ltb n 10) (digit n ∷ []) more

-- a number of up to 64 bits has at most 20 digits
unfoldable pub decimal : ℕ → List ℕ
decimal n = digits 20 n

-- the two digits of a number below 100, and the four of one below 10,000, leading zeros with them
unfoldable pub pair : ℕ → List ℕ
pair d = digit (d / 10) ∷ digit (d % 10) ∷ []

unfoldable pub four : ℕ → List ℕ
four d = pair (d / 100) ++ pair (d % 100)

-- n without its last k groups of four digits
unfoldable pub without_groups : ℕ → ℕ → ℕ
without_groups n zero = n
without_groups n (suc k) = without_groups (n / 10000) k

-- its last k groups
unfoldable pub last_groups : ℕ → ℕ → List ℕ
last_groups n zero = []
last_groups n (suc k) = four (without_groups n k % 10000) ++ last_groups n k

-- how many groups of four stand behind the first one to four digits, at most `f` of them
unfoldable pub groups : ℕ → ℕ → ℕ
groups zero n = 0
groups (suc f) n = cond (ltb n 10000) 0 (suc (groups f (n / 10000)))

-- before the groups of a number that is not 0 stands one that is not 0 either, of at most four digits
pub record First (f n : ℕ) : Type 0 where
  pub most : groups f n ≤ f
  pub some : 1 ≤ without_groups n (groups f n)
  pub short : without_groups n (groups f n) < 10000
