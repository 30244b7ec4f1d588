-- Why put_notes meets its contract: three stores.
use mathlib.Core.Path.{refl}
use mathlib.Core.List.{[], ◌∷◌}
use native.Mathlib.Nat.{add-zero}
use native.Mathlib.Omega.{arith}
use Rattle.wire.specs.Words.{put_from, flag_word}
use Rattle.wire.proofs.WordsLaws.{stores}
use Rattle.queue.proofs.waiting.put_notes.Goals as goal

pub returns : goal.returns
unfolding put_from
returns c =
    let a = c.args in
    record {
      put =
          rw c.from.ensures
          (rw (add-zero a.i) at (stores a.t.now a.i 3 (a.note ∷ flag_word a.over ∷ a.packet_id ∷ []) refl (omega arith)));
      note-sized = omega arith;
      id-sized = omega arith;
    }
