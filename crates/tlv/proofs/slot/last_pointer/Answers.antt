-- Why last_pointer meets its contract: an end of 0 is written as none.
use Rattle.std.proofs.Common.{arith}
use Rattle.std.proofs.lemmas.Grind.{common_steps}
use Rattle.tlv.specs.Slot.{last_pointer}
use Rattle.tlv.proofs.slot.last_pointer.Goals as goal

pub returns-then-end-eq0 : goal.returns-then-end-eq0
unfolding last_pointer
returns-then-end-eq0 c = grind (arith, common_steps)

pub returns-else-end-eq0 : goal.returns-else-end-eq0
unfolding last_pointer
returns-else-end-eq0 c = grind (arith, common_steps)
