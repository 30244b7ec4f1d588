-- Why `source` meets its contract: the block's bytes, or those that were gathered.
use Rattle.std.proofs.Common.{sym, ◌∙◌, arith, length-take-le}
use Rattle.feeding.proofs.FeedLaws.{source_block, source_gathered, of-some, of-none}
use Rattle.feeding.proofs.feed.source.Goals as goal

pub returns-in-Some : goal.returns-in-Some
returns-in-Some c = λ n e.
    let k = of-some _ n (sym c.in-Some.is ∙ e) in
    rw k.0 (sym (source_gathered _ _ _ _ _ (λ z. omega arith)))

pub returns-in-None : goal.returns-in-None
returns-in-None c = λ n e. rw (of-none n (sym c.in-None.is ∙ e)) (sym (source_block _ _ _ _))
