-- Why is_chosen meets its contract: the type picks the case, and read gives the id.
use borrow.Author.Tests.{eq-eqb, ne_eqb}
use Rattle.tmcc.specs.Stream.{chosen}
use Rattle.tmcc.proofs.stream.is_chosen.Goals as goal

pub returns-then-block-r-eq2 : goal.returns-then-block-r-eq2
unfolding chosen
returns-then-block-r-eq2 c = rw (c.read.ensures, ← c.from-r.ensures, eq-eqb _ _ c.if-block-r-eq2.true)

pub returns-else-block-r-eq2 : goal.returns-else-block-r-eq2
unfolding chosen
returns-else-block-r-eq2 c = rw (← c.from-r.ensures, ne_eqb _ _ c.if-block-r-eq2.false)
