-- Why data_bytes meets its contract: past the table's end an entry is 0.
use native.Mathlib.Omega.{arith}
use Rattle.tmcc.specs.Mode.{data_bytes}
use Rattle.tmcc.proofs.mode.data_bytes.Goals as goal

pub returns : goal.returns
unfolding data_bytes
returns c = rw (c.unwrap_or.ensures, c.copied.ensures, ← c.from.ensures) (c.get.ensures.lookup.4 (omega arith) 0)
