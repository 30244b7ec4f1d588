-- Why store_cursor meets its contract: five stores, one behind the other; a u8 is below 256.
use mathlib.Core.Path.{refl}
use native.Mathlib.Nat.{add-zero}
use native.Mathlib.Omega.{arith}
use Rattle.wire.specs.Words.{put_from}
use Rattle.wire.proofs.WordsLaws.{stores}
use Rattle.words.specs.Cursor.{cursor_words}
use Rattle.words.proofs.cursor.store_cursor.Goals as goal

pub returns : goal.returns
unfolding cursor_words put_from
returns c =
    let a = c.args in
    record {
      put = rw c.from.ensures (rw (add-zero a.i) at (stores a.t.now a.i 5 (cursor_words a.c) refl (omega arith)));
      sized = omega arith;
    }
