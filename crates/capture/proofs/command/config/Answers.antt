-- Why `config` meets its contract: field by field.
use Rattle.capture.specs.Command.{config_of}
use Rattle.capture.proofs.command.config.Goals as goal

pub returns : goal.returns
unfolding config_of
returns c =
    rw (c.read.ensures, c.read-2.ensures, c.ids.ensures, c.from.ensures, c.read-3.ensures)
