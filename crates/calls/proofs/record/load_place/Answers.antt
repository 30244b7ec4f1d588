-- Why load_place meets its contract: three words.
use Rattle.calls.specs.Record.{read_place}
use Rattle.calls.proofs.record.load_place.Goals as goal

pub returns : goal.returns
unfolding read_place
returns c = rw c.from.ensures
