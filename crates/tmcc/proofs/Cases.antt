-- Tests taken apart: both sides of a conjunction, and a choice by a test.
use Prim.Native.Nat.{ℕ}
use mathlib.Core.Path.{◌≡◌, refl}
use mathlib.Core.Bool.{Bool, true, false, cond, ◌&&◌}
use native.Mathlib.Omega.{arith}

pub and_left : (a b : Bool) → (a && b) ≡ true → a ≡ true
and_left true b e = refl
and_left false b e = e

pub and_right : (a b : Bool) → (a && b) ≡ true → b ≡ true
and_right true b e = e
and_right false b e = absurd (let z : ◌≡◌ {A = ℕ} 0 1 = cc in omega arith)

-- what follows either way from a test's answer
pub by_test : (t : Bool) (P : ℕ → Type 0) (x y : ℕ) → (t ≡ true → P x) → (t ≡ false → P y) → P (cond t x y)
by_test true P x y f g = f refl
by_test false P x y f g = g refl
