-- Why pointers_at meets its contract: read gives both.
use Rattle.tmcc.specs.Layout.{pointers_at}
use Rattle.tmcc.proofs.layout.pointers_at.Goals as goal

pub returns : goal.returns
unfolding pointers_at
returns c = rw (c.read.ensures, c.read-2.ensures)
