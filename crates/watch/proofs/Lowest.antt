-- The place that a search downwards comes to: the first one that has the id.
use Prim.Native.Nat.{ℕ, ◌-◌, ◌<◌, ◌≤◌}
use Rattle.std.specs.Prelude.{List, get_or, Some}
use Rattle.std.proofs.Math.Path.{◌≡◌}
use native.Mathlib.Omega.{arith}
use Rattle.watch.specs.declared.given.Watch.{Watch}
use Rattle.watch.specs.Given.{lookup_of}
use Rattle.watch.proofs.GivenLaws.{lookup_is}

module _ (ids : List ℕ) (id : ℕ) where
  -- the first of the places from k on and below e that has the id, or e
  pub record Lowest (k e j : ℕ) : Type 0 where
    pub low : k ≤ j
    pub high : j ≤ e
    pub has : j < e → get_or ids j 0 ≡ id
    pub first : (i : ℕ) → k ≤ i → i < j → get_or ids i 0 ≡ id → ⊥

  pub lowest_end : (e : ℕ) → Lowest e e e
  lowest_end e = record { low = omega arith; high = omega arith; has = λ h. omega arith; first = λ i l h g. omega arith }

  pub lowest_hit : (k e : ℕ) → k < e → get_or ids k 0 ≡ id → Lowest k e k
  lowest_hit k e h g = record { low = omega arith; high = omega arith; has = λ l. g; first = λ i l b q. omega arith }

  pub lowest_on : (k e j : ℕ) → 0 < k → Lowest k e j → (get_or ids (k - 1) 0 ≡ id → ⊥) → Lowest (k - 1) e j
  lowest_on k e j h p f =
      record {
        low = omega arith;
        high = p.high;
        has = p.has;
        first = λ i l b g. let d : k - 1 ≡ i → ⊥ = λ w. f (rw w g) in p.first i (omega arith) b g;
      }

-- what it found is what the search in the order given finds
pub lookup_lowest : (w : Watch) (id k : ℕ) → Lowest w.ids id 0 16 k → k < 16 → k < w.n → lookup_of w id ≡ Some k
lookup_lowest w id k p h l = lookup_is w id k h l (p.has h) (λ i b g. p.first i (omega arith) b g)
