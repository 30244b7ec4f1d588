-- Why total_across meets its contract: the two bytes of the length.
use Rattle.std.proofs.Common.{arith}
use Rattle.tlv.specs.Held.{held_total}
use Rattle.tlv.proofs.CutsLaws.{total-bytes}
use Rattle.tlv.proofs.held.total_across.Goals as goal

pub returns : goal.returns
unfolding held_total
returns c = (rw total-bytes (cc), omega arith)
