-- Why `run` meets its contract: the command is not whole, or is carried out.
use mathlib.Core.Path.{sym}
use Rattle.feeding.proofs.FeedLaws.{ran-part, ran-whole}
use Rattle.state.proofs.Clean.{exact_none, exact-on}
use Rattle.feeding.proofs.feed.run.Goals as goal

pub returns-then-b-size : goal.returns-then-b-size
returns-then-b-size c =
    record { answer = sym (ran-part _ _ _ _ _ _ (rw c.size.ensures.0 at c.if-b-size.true)); exact = exact_none _ }

pub returns : goal.returns
returns c =
    record {
      answer =
          sym (ran-whole _ _ _ _ _ _ (rw c.size.ensures.0 at c.if-b-size.false) _ _ _ c.act-acted.ensures.answer _ _ _
          (c.pour.ensures.long (rw c.act-acted.ensures.exact.size c.requires.0)));
      exact = exact-on _ _ _ c.act-acted.ensures.exact c.pour.ensures.exact;
    }
