-- Why the loop of walks ends: a reader that gets on stays in the packet.
use Rattle.std.proofs.Common.{sym, arith}
use Rattle.mmtp.proofs.UnitLaws.{next_walks}
use Rattle.mmtp.proofs.reader.walks.Goals as goal

pub loop-behind-smaller : goal.loop-behind-smaller
loop-behind-smaller c =
    let on = next_walks _ _ _ _ _ (rw c.loop-behind.invariant.same at (sym c.in-Some.ensures.place)) in
    omega arith
