-- The one number below n that passes a test.
use Rattle.std.specs.Prelude.{ℕ, zero, suc, ◌+◌, ◌-◌, ◌<◌, ◌≤◌, ◌≡◌, refl, Bool, true, false, cond, Option, Some, None, eqb}
use Rattle.std.proofs.Common.{eq-eqb, ne_eqb, add-zero, add-suc, arith}
use Rattle.std.specs.Option.{is_some}
use borrow.Author.Tests.{eqb-true}
use Rattle.tmcc.specs.Count.{count_below, last_below}
use Rattle.tmcc.proofs.CountLaws.{count-one, last_one}

-- none has passed, or just one, which was kept
abbrev pub Holds : (ℕ → Bool) → ℕ → Option ℕ → Type 0
Holds p n None = count_below p n ≡ 0
Holds p n (Some x) = (count_below p n ≡ 1) × (last_below p n ≡ x)

abbrev pub one : (ℕ → Bool) → ℕ → Option ℕ
one p n = cond (eqb (count_below p n) 1) (Some (last_below p n)) None

pub holds-start : (p : ℕ → Bool) → Holds p 0 None
unfolding count_below
holds-start p = refl

-- a number that does not pass
pub holds-fail : (p : ℕ → Bool) (n : ℕ) (o : Option ℕ) → Holds p n o → p n ≡ false → Holds p (n + 1) o
holds-fail p n None h e = rw (count-one, e) h
holds-fail p n (Some x) h e = (rw (count-one, e) h.0, rw (last_one, e) h.1)

-- the first that passes
pub holds-first : (p : ℕ → Bool) (n : ℕ) (o : Option ℕ) → Holds p n o → is_some o ≡ false → p n ≡ true → Holds p (n + 1) (Some n)
holds-first p n None h i e = (rw (count-one, e, h), rw (last_one, e))
holds-first p n (Some x) h i e = cc

-- a count does not fall
not-less : (t : Bool) (a c : ℕ) → a ≤ c → a ≤ cond t (c + 1) c
not-less true a c h = omega arith
not-less false a c h = h

count-most : (p : ℕ → Bool) (n m : ℕ) → count_below p n ≤ count_below p (n + m)
unfolding count_below
count-most p n zero = rw add-zero (omega arith)
count-most p n (suc m) = rw add-suc (not-less (p (n + m)) _ _ (count-most p n m))

-- so after a second one it is not one
pub second : (p : ℕ → Bool) (n : ℕ) (o : Option ℕ) (m : ℕ) → Holds p n o → is_some o ≡ true → p n ≡ true → n < m → None ≡ one p m
second p n None m h i e l = cc
second p n (Some x) m h i e l =
    let q : m ≡ n + 1 + (m - (n + 1)) = omega arith in
    let two : count_below p (n + 1) ≡ 2 = rw (count-one, e, h.0) in
    let most : count_below p (n + 1) ≤ count_below p m = rw q (count-most p (n + 1) (m - (n + 1))) in
    let z : count_below p m ≡ 1 → ⊥ = λ o. omega arith in
    rw (ne_eqb _ _ z)

pub one-of : (p : ℕ → Bool) (n : ℕ) (o : Option ℕ) → Holds p n o → o ≡ one p n
one-of p n None h = let z : count_below p n ≡ 1 → ⊥ = λ e. omega arith in rw (ne_eqb _ _ z)
one-of p n (Some x) h = rw (eq-eqb _ _ h.0, h.1)

-- what it is says whether there is one, and which
module _ (p : ℕ → Bool) (n : ℕ) where
  by_count : (t : Bool) (x : ℕ) → eqb (count_below p n) 1 ≡ t → cond t (Some (last_below p n)) None ≡ Some x
      → (count_below p n ≡ 1) × (last_below p n ≡ x)
  by_count true x e h = (eqb-true _ _ e, cc)
  by_count false x e h = cc

  pub one-some : (x : ℕ) → one p n ≡ Some x → (count_below p n ≡ 1) × (last_below p n ≡ x)
  one-some x h = by_count (eqb (count_below p n) 1) x refl h

  pub one-none : one p n ≡ None → count_below p n ≡ 1 → ⊥
  one-none h c = let e : Some (last_below p n) ≡ None = rw (eq-eqb _ _ c) at h in cc
