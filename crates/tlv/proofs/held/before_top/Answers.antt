-- Why before_top meets its contract: the two cases of its definition.
use borrow.Author.Tests.{eq-eqb, ne_eqb}
use Rattle.tlv.specs.Held.{end_within}
use Rattle.tlv.proofs.held.before_top.Goals as goal

pub returns-then-end-t : goal.returns-then-end-t
unfolding end_within
returns-then-end-t c = rw (eq-eqb _ _ c.if-end-t.true)

pub returns-else-end-t : goal.returns-else-end-t
unfolding end_within
returns-else-end-t c = rw (ne_eqb _ _ c.if-end-t.false)
