-- Why packet_at meets its contract: the answer is none exactly where the packet is not complete.
use Rattle.std.proofs.Common.{arith}
use Rattle.std.proofs.lemmas.Grind.{common_steps}
use Rattle.tlv.specs.Packet.{complete, packet_at}
use Rattle.tlv.proofs.packet.packet_at.Goals as goal

pub returns-in_err-left : goal.returns-in_err-left
unfolding complete packet_at
returns-in_err-left c = grind (arith, common_steps)

pub returns-then-left-lt4 : goal.returns-then-left-lt4
unfolding complete packet_at
returns-then-left-lt4 c = grind (arith, common_steps)

pub returns-then-n-left : goal.returns-then-n-left
unfolding complete packet_at
returns-then-n-left c = grind (arith, common_steps)

pub returns-else-n-left : goal.returns-else-n-left
unfolding complete packet_at
returns-else-n-left c = grind (arith, common_steps)
