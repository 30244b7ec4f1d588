-- Why store_held meets its contract: three stores, one behind the other.
use mathlib.Core.Path.{refl}
use native.Mathlib.Nat.{add-zero}
use native.Mathlib.Omega.{arith}
use Rattle.wire.specs.Words.{put_from}
use Rattle.wire.proofs.WordsLaws.{stores}
use Rattle.words.specs.Cursor.{held_words}
use Rattle.words.proofs.cursor.store_held.Goals as goal

pub returns : goal.returns
unfolding held_words put_from
returns c =
    let a = c.args in
    rw c.from.ensures (rw (add-zero a.i) at (stores a.t.now a.i 3 (held_words a.held) refl (omega arith)))
