-- Why clear meets its contract: the words are zeros and what stood behind them.
use Rattle.std.specs.Prelude.{ℕ, ◌<◌, ◌≤◌, ◌≡◌, List, ◌++◌, length, get_or, take, drop, replicate}
use native.Mathlib.Omega.{arith}
use Rattle.std.proofs.lemmas.Grind.{common_steps}
use Rattle.state.proofs.start.clear.Goals as goal

-- zeros, and what stands behind them
module _ (t z : List ℕ) (n : ℕ) (h : n ≤ length t) (e : z ≡ replicate (length (take n t)) 0) where
  same-size : length (z ++ drop n t) ≡ length t
  same-size = grind (arith, common_steps)

  zeros : (m : ℕ) → m < n → get_or (z ++ drop n t) m 0 ≡ 0
  zeros m g = grind (arith, common_steps)

  behind : (m : ℕ) → n ≤ m → get_or (z ++ drop n t) m 0 ≡ get_or t m 0
  behind m g = grind (arith, common_steps)

pub returns : goal.returns
returns c =
    let e = c.fill.ensures.after (λ y k. k) in
    record {
      size = same-size _ _ 751 c.requires e;
      rest = behind _ _ 751 c.requires e;
      zero = zeros _ _ 751 c.requires e;
    }
