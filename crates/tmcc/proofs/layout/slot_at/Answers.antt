-- Why slot_at meets its contract: the length picks the case, and of_slot gives the stream.
use borrow.Author.Tests.{lt-ltb, le-ltb}
use Rattle.tmcc.specs.Stream.{own_slot}
use Rattle.tmcc.proofs.layout.slot_at.Goals as goal

pub returns-then-length-gt0 : goal.returns-then-length-gt0
unfolding own_slot
returns-then-length-gt0 c =
    rw (c.pointers_at.ensures, ← c.length_of-length.ensures, lt-ltb 0 _ c.if-length-gt0.true, c.of_slot.ensures)

pub returns-else-length-gt0 : goal.returns-else-length-gt0
unfolding own_slot
returns-else-length-gt0 c =
    rw (c.pointers_at.ensures, ← c.length_of-length.ensures, le-ltb 0 _ c.if-length-gt0.false)
