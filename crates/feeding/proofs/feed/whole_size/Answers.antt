-- Why `whole_size` meets its contract: the command fits, or not.
use Rattle.std.proofs.Common.{refl, arith}
use Rattle.feeding.proofs.FeedLaws.{whole_fits, whole_over, some-of}
use Rattle.feeding.proofs.feed.whole_size.Goals as goal

pub returns-then-n-b : goal.returns-then-n-b
returns-then-n-b c =
    let e = rw c.size.ensures.0 at c.max-n.ensures in
    let w = whole_fits _ _ e c.if-n-b.true in
    rw w (some-of _ (omega arith), c.if-n-b.true)

pub returns-else-n-b : goal.returns-else-n-b
returns-else-n-b c =
    let e = rw c.size.ensures.0 at c.max-n.ensures in
    rw (whole_over _ _ e c.if-n-b.false) (refl, omega arith)
