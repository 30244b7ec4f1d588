-- The watch list as start is given it, and the search in the order given.
use Prim.Native.Nat.{ℕ, zero, suc, ◌+◌, ◌<◌, ◌≤◌, min}
use Rattle.std.specs.Prelude.{List, get_or, Option, Some, None}
use Rattle.std.proofs.Math.Bool.{cond}
use Rattle.std.proofs.Math.Path.{◌≡◌}
use Rattle.std.proofs.Math.Dec.{eqb}
use Rattle.watch.specs.declared.given.Watch.{Watch}

-- the first of the m places from k on that has the id
unfoldable pub first_from : List ℕ → ℕ → ℕ → ℕ → Option ℕ
first_from ids id k zero = None
first_from ids id k (suc m) = cond (eqb (get_or ids k 0) id) (Some k) (first_from ids id (k + 1) m)

-- in the order given
unfoldable pub lookup_of : Watch → ℕ → Option ℕ
lookup_of w id = first_from w.ids id 0 (min w.n 16)

module _ (ids : List ℕ) (id : ℕ) where
  -- the place that it finds
  pub record Place (k m j : ℕ) : Type 0 where
    pub low : k ≤ j
    pub high : j < k + m
    pub has : get_or ids j 0 ≡ id
    pub first : (i : ℕ) → k ≤ i → i < j → get_or ids i 0 ≡ id → ⊥

-- no id stands twice among the first n
abbrev pub Distinct : List ℕ → ℕ → Type 0
Distinct ids n = (i j : ℕ) → i < j → j < n → get_or ids i 0 ≡ get_or ids j 0 → ⊥
