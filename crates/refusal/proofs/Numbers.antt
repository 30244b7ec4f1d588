-- Laws of refusals' numbers: none is that of what is accepted, and each tells its refusal.
use Rattle.std.specs.Prelude.{◌≡◌, ◌≢◌}
use native.Mathlib.Omega.{arith}
use Rattle.refusal.specs.declared.Refusal.{Refusal}
use Rattle.refusal.specs.Refusal.{number_of}

pub number-some : (r : Refusal) → (number_of r ≢ 0)
number-some r = grind arith

pub number_one : (r q : Refusal) → number_of r ≡ number_of q → r ≡ q
number_one r q e = grind arith
