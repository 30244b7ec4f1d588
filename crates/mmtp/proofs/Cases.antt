-- What the value of a choice tells of its test.
use Rattle.std.specs.Prelude.{Bool, true, false, cond, ◌≡◌, refl}

-- it is not the second answer: the test is true
pub chose : {A : Type 0} (b : Bool) (x y z : A) → cond b x y ≡ z → (y ≡ z → ⊥) → (b ≡ true) × (x ≡ z)
chose true x y z e h = (refl, e)
chose false x y z e h = absurd (h e)

-- it is not the first answer: the test is false
pub chose-not : {A : Type 0} (b : Bool) (x y z : A) → cond b x y ≡ z → (x ≡ z → ⊥) → (b ≡ false) × (y ≡ z)
chose-not true x y z e h = absurd (h e)
chose-not false x y z e h = (refl, e)
