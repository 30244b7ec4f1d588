-- Why too_long meets its contract: with four bytes the total is known.
use Rattle.std.proofs.Common.{arith}
use Rattle.std.proofs.lemmas.Grind.{common_steps}
use Rattle.tlv.specs.Packet.{too_long}
use Rattle.tlv.proofs.packet.too_long.Goals as goal

pub returns-then-s-at-ge4 : goal.returns-then-s-at-ge4
unfolding too_long
returns-then-s-at-ge4 c = grind (arith, common_steps)

pub returns-else-s-at-ge4 : goal.returns-else-s-at-ge4
unfolding too_long
returns-else-s-at-ge4 c = grind (arith, common_steps)
