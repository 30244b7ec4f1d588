-- Why `gather` meets its contract: as many bytes as are wanted and there are come to stand behind those that are held.
use Rattle.std.proofs.Common.{◌+◌, ap, arith}
use Rattle.feeding.specs.Turn.{kept_turn}
use Rattle.feeding.proofs.FeedLaws.{gathered-by, some-of}
use Rattle.feeding.proofs.feed.gather.Goals as goal

pub returns : goal.returns
returns c =
    let k = c.requires.0.some in
    let m = rw c.wanted.ensures at c.min-took.ensures in
    let n = c.min-took.result in
    rw (some-of (c.args.held + n) (omega arith))
    (ap kept_turn (gathered-by _ _ _ _ _ n (omega arith) m c.copy_at.ensures))
