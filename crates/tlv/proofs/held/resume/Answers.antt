-- Why resume meets its contract: the four cases of its definition.
use Rattle.std.proofs.Common.{arith}
use Rattle.std.proofs.lemmas.Grind.{common_steps}
use Rattle.tlv.specs.Held.{held_end, continuation_of}
use Rattle.tlv.proofs.held.resume.Goals as goal

pub returns-then-is_empty : goal.returns-then-is_empty
unfolding held_end continuation_of
returns-then-is_empty c = grind (arith, common_steps)

pub returns-then-total-gt-MAX_PACKET : goal.returns-then-total-gt-MAX_PACKET
unfolding held_end continuation_of
returns-then-total-gt-MAX_PACKET c = grind (arith, common_steps)

pub returns-then-top-eq-NONE : goal.returns-then-top-eq-NONE
unfolding held_end continuation_of
returns-then-top-eq-NONE c = grind (arith, common_steps)

pub returns-else-top-eq-NONE : goal.returns-else-top-eq-NONE
unfolding held_end continuation_of
returns-else-top-eq-NONE c = grind (arith, common_steps)
