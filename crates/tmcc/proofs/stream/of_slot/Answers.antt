-- Why stream::of_slot meets its contract: the halves by shift and mask, in their order.
use borrow.Author.Tests.{eq-eqb, ne_eqb}
use Rattle.wire.proofs.BitsLaws.{bits_shift, bits_mask}
use Rattle.tmcc.specs.Stream.{relative_stream}
use Rattle.tmcc.proofs.stream.of_slot.Goals as goal

pub returns-then-s-eq0 : goal.returns-then-s-eq0
unfolding relative_stream
returns-then-s-eq0 c = rw (eq-eqb _ _ c.if-s-eq0.true) (bits_shift _ 4 4)

pub returns-else-s-eq0 : goal.returns-else-s-eq0
unfolding relative_stream
returns-else-s-eq0 c = rw (ne_eqb _ _ c.if-s-eq0.false) (bits_mask _ 4)
