-- Going on for a number of calls: where it is above what is left to do, more calls change nothing.
use Rattle.std.specs.Prelude.{◌≡◌, ℕ, zero, suc, ◌<◌, Bool, true, false, cond, refl}
use Rattle.std.proofs.Common.{arith}

-- two ways of going on that agree where the test lets them
pub same-on : {A : Type 0} (b : Bool) (x y z : A) → (b ≡ true → x ≡ y) → cond b x z ≡ cond b y z
same-on true x y z f = f refl
same-on false x y z f = refl

module _ {X A : Type 0} (left : X → ℕ) (by : ℕ → X → A)
    (step : (f g : ℕ) (x : X) → ((y : X) → left y < left x → by f y ≡ by g y) → by (suc f) x ≡ by (suc g) x) where
  pub enough : (f g : ℕ) (x : X) → left x < f → left x < g → by f x ≡ by g x
  enough zero g x h k = absurd (omega arith)
  enough (suc f) zero x h k = absurd (omega arith)
  enough (suc f) (suc g) x h k = step f g x (λ y l. enough f g y (omega arith) (omega arith))
