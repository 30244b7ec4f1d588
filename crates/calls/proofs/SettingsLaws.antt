-- Laws of specs/Settings.antt.
use Rattle.std.specs.Prelude.{ℕ, ◌≤◌, ◌≡◌, true, false, List, length}
use Rattle.state.specs.State.{State, refused}
use Rattle.state.specs.Start.{start_from}
use Rattle.calls.specs.Bounds.{are_within}
use Rattle.calls.proofs.BoundsLaws.{within-enough}
use Rattle.calls.specs.Settings.{settings_most, config_in, start_by}

abbrev pub settings_words : ℕ
settings_words = 32

-- Laws.
pub start-by : (st : State) (s : List ℕ) → are_within s settings_most ≡ true → start_by st s ≡ start_from st (config_in s)
unfolding start_by
start-by st s e = rw e

pub start-not : (st : State) (s : List ℕ) → are_within s settings_most ≡ false → start_by st s ≡ refused 91 st
unfolding start_by
start-not st s e = rw e

pub settings-length : (s : List ℕ) → are_within s settings_most ≡ true → 32 ≤ length s
unfolding settings_most
settings-length s e = within-enough s _ e
