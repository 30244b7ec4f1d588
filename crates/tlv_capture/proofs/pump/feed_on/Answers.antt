-- Why `feed_on` meets its contract: what is left of the block, fed; something moves if bytes were read, or text was written.
use borrow.Author.Tests.{eq-eqb, ne_eqb}
use Rattle.tlv_capture.proofs.pump.feed_on.Goals as goal

pub returns-then-fed-ne0 : goal.returns-then-fed-ne0
returns-then-fed-ne0 c =
    let d = c.saturating_sub-left in
    record {
      fed = c.feed-fed.result;
      feeds = rw (c.part-rest.ensures, d.ensures) at c.feed-fed.ensures;
      pumped = rw (ne_eqb _ _ c.if-fed-ne0.true, c.saturating_sub.ensures, c.saturating_sub-unread.ensures, d.ensures);
    }

pub returns-else-fed-ne0 : goal.returns-else-fed-ne0
returns-else-fed-ne0 c =
    let d = c.saturating_sub-left in
    record {
      fed = c.feed-fed.result;
      feeds = rw (c.part-rest.ensures, d.ensures) at c.feed-fed.ensures;
      pumped = rw (eq-eqb _ _ c.if-fed-ne0.false, c.saturating_sub.ensures, c.saturating_sub-unread.ensures, d.ensures);
    }
