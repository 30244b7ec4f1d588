-- Why start_by meets its contract: too few words, settings that cannot be, or start.
use mathlib.Core.Path.{sym, ◌∙◌, ap}
use mathlib.Core.List.{[]}
use native.Mathlib.Omega.{arith}
use Rattle.state.proofs.Leaves.{leaves-refused}
use Rattle.state.specs.State.{Called}
use Rattle.calls.proofs.SettingsLaws.{start-by, start-not, settings-length}
use Rattle.calls.proofs.settings.start_by.Goals as goal

pub returns-then-not-are_settings : goal.returns-then-not-are_settings
returns-then-not-are_settings c =
    let f = sym c.are_settings.ensures ∙ c.if-not-are_settings.true in
    record {
      leaves = leaves-refused _ _ _ _ c.if-words-lt-STATE_WORDS.false (ap (λ (x : Called). (x, [])) (start-not _ _ f));
      clean = λ z. absurd (omega arith);
    }

pub config_of-requires : goal.config_of-requires
config_of-requires c =
    let l = settings-length _ (sym c.are_settings.ensures ∙ c.if-not-are_settings.false) in
    omega arith

pub returns : goal.returns
returns c =
    let f = sym c.are_settings.ensures ∙ c.if-not-are_settings.false in
    rw (start-by _ _ f, ← c.config_of.ensures) c.start.ensures
