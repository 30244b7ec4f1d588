-- A choice by a test.
use Rattle.std.specs.Prelude.{ℕ, ◌≡◌, refl, Bool, true, false, cond, ◌||◌}

-- what holds of both answers holds of it
pub either : {A : Type 0} (P : A → Type 0) (t : Bool) {a b : A} → P a → P b → P (cond t a b)
either P true h k = h
either P false h k = k

module _ {A : Type 0} where
  pub chosen : (b : Bool) (x y : A) → b ≡ true → cond b x y ≡ x
  chosen true x y e = refl
  chosen false x y e = cc

  pub chosen-not : (b : Bool) (x y : A) → b ≡ false → cond b x y ≡ y
  chosen-not true x y e = cc
  chosen-not false x y e = refl

  -- what holds of each answer where it is chosen
  pub by_test : (P : A → Type 0) (b : Bool) (x y : A) → (b ≡ true → P x) → (b ≡ false → P y) → P (cond b x y)
  by_test P true x y f g = f refl
  by_test P false x y f g = g refl

pub neither : (a b : Bool) → a || b ≡ false → (a ≡ false) × (b ≡ false)
neither true b e = (cc, cc)
neither false b e = (refl, e)

-- a test that picks a number other than 0 was not met
pub passed : (t : Bool) (n x : ℕ) → (n ≡ 0 → ⊥) → cond t n x ≡ 0 → (t ≡ false) × (x ≡ 0)
passed true n x z e = absurd (z e)
passed false n x z e = (refl, e)
