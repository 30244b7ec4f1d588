-- Why are_settings meets its contract: the bounds are those of the settings.
use Rattle.calls.specs.Settings.{settings_most}
use Rattle.calls.proofs.settings.are_settings.Goals as goal

pub returns : goal.returns
unfolding settings_most
returns c = c.are_within.ensures
