-- Why config_of meets its contract: four words, and the ids behind them.
use Rattle.calls.specs.Settings.{config_in}
use Rattle.calls.proofs.settings.config_of.Goals as goal

pub returns : goal.returns
unfolding config_in
returns c = rw c.ids_of.ensures
