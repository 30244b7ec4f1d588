-- Why put_unit meets its contract: five stores, what the unit carries, and zeros behind it.
use Prim.Native.Nat.{ℕ, ◌+◌}
use mathlib.Core.Path.{◌≡◌, refl}
use mathlib.Core.List.{List, [], ◌∷◌, ◌++◌}
use native.Mathlib.Nat.{add-zero}
use native.Mathlib.Omega.{arith}
use lib.ListN.{length-set, length-append, replicate}
use Rattle.wire.specs.Words.{put_from}
use Rattle.wire.proofs.WordsLaws.{stores, put_on}
use Rattle.words.specs.Channel.{unit_words}
use Rattle.words.proofs.ChannelLaws.{length-unit}
use Rattle.queue.specs.Words.{memory_word}
use Rattle.queue.proofs.WordsLaws.{memory-number}
use Rattle.calls.specs.Record.{unit_record}
use Rattle.calls.proofs.record.put_unit.Goals as goal

pub put_zeros-requires : goal.put_zeros-requires
put_zeros-requires c = let l = c.store_unit.ensures.put.size in rw l (simp length-set (omega arith))

pub returns : goal.returns
unfolding unit_record put_from
returns c =
    let t = c.args.t.now in
    let i = c.args.i in
    let g = c.args.given in
    let e = memory-number g.place.memory in
    let xs : List ℕ = 2 ∷ 0 ∷ memory_word g.place.memory ∷ g.place.start ∷ g.place.len ∷ [] in
    let a : i + 5 + 10 ≡ i + 15 = omega arith in
    record {
      put =
          put_on t _ _ i 15 9 24 (xs ++ unit_words g.unit) (replicate 9 0) (rw (length-append, length-unit g.unit)) refl
          (put_on t _ _ i 5 10 15 xs (unit_words g.unit) refl refl
          (rw (add-zero i) at (stores t i 5 xs refl (omega (arith, c.requires)))) (rw e at c.store_unit.ensures.put))
          c.put_zeros.ensures;
      sized = c.store_unit.ensures.sized;
    }
