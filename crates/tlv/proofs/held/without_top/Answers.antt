-- Why without_top meets its contract: the cases of its definition.
use Rattle.std.proofs.Common.{arith}
use Rattle.std.proofs.lemmas.Grind.{common_steps}
use Rattle.tlv.specs.Held.{end_beyond}
use Rattle.tlv.proofs.held.without_top.Goals as goal

pub returns-then-last-len : goal.returns-then-last-len
unfolding end_beyond
returns-then-last-len c = grind (arith, common_steps)

pub returns-then-end-len-2 : goal.returns-then-end-len-2
unfolding end_beyond
returns-then-end-len-2 c = grind (arith, common_steps)

pub returns : goal.returns
unfolding end_beyond
returns c = grind (arith, common_steps)
