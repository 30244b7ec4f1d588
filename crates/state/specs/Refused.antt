-- What a refused call answers, and leaves.
use Rattle.std.specs.Prelude.{ℕ, ◌≤◌, ◌≡◌}
use Rattle.state.specs.State.{State, Called}

abbrev pub IsRefused : Called → Type 0
IsRefused r = r.refusal ≡ 0 → ⊥

-- what a refused call answers: a number of its row of the table, `first` to `last`, and the state that it was given
pub record Kept (first last : ℕ) (st : State) (r : Called) : Type 0 where
  pub number : (first ≤ r.refusal) × (r.refusal ≤ last)
  pub state : r.state ≡ st

-- 0, or a number from `first` to `last`
abbrev pub OneOf : ℕ → ℕ → ℕ → Type 0
OneOf first last n = (n ≡ 0 → ⊥) → (first ≤ n) × (n ≤ last)

-- a call that answers so
abbrev pub KeepsState : ℕ → ℕ → State → Called → Type 0
KeepsState first last st r = IsRefused r → Kept first last st r
