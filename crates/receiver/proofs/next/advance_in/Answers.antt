-- Why advance_in meets its contract: the cursor is read, moved and stored.
use Rattle.wire.proofs.WordsLaws.{put-within}
use Rattle.words.proofs.CursorLaws.{cursor-put}
use Rattle.state.proofs.Clean.{exact-cursor}
use Rattle.receiver.proofs.next.advance_in.Goals as goal

pub returns : goal.returns
returns c =
    record {
      moved = rw (cursor-put _ _ _ _ c.store_cursor.ensures) (rw c.load_cursor.ensures at c.advance-advanced.ensures);
      within = put-within _ _ _ _ _ c.store_cursor.ensures.put;
      exact = exact-cursor _ _ _ c.store_cursor.ensures;
    }
