-- Why put_note meets its contract: six stores, and zeros behind them.
use Prim.Native.Nat.{ℕ}
use mathlib.Core.Path.{refl}
use mathlib.Core.List.{List, [], ◌∷◌}
use native.Mathlib.Nat.{add-zero}
use native.Mathlib.Omega.{arith}
use lib.ListN.{replicate}
use Rattle.wire.specs.Words.{put_from}
use Rattle.wire.proofs.WordsLaws.{stores, put_on}
use Rattle.calls.specs.Record.{note_record}
use Rattle.calls.proofs.record.put_note.Goals as goal

pub returns : goal.returns
unfolding note_record put_from
returns c =
    let t = c.args.t.now in
    let i = c.args.i in
    let xs : List ℕ = 1 ∷ c.args.number ∷ 0 ∷ 0 ∷ 0 ∷ c.args.id ∷ [] in
    record {
      put =
          put_on t _ _ i 6 18 24 xs (replicate 18 0) refl refl
          (rw (add-zero i) at (stores t i 6 xs refl (omega (arith, c.requires))))
          (rw (c.from.ensures, c.from-2.ensures) at c.put_zeros.ensures);
      sized = (omega (arith, c.well_formed), omega (arith, c.well_formed));
    }
