-- Why put_one meets its contract: the number, what the unit carries behind it, and its place behind that.
use Prim.Native.Nat.{◌+◌, ◌≤◌}
use mathlib.Core.Path.{◌≡◌, refl, ◌∙◌}
use mathlib.Core.List.{[], ◌∷◌, ◌++◌}
use native.Mathlib.Nat.{add-zero}
use native.Mathlib.Omega.{arith}
use lib.ListN.{length, set, length-set}
use Rattle.wire.specs.Words.{put_from}
use Rattle.wire.proofs.WordsLaws.{stores, put_on}
use Rattle.words.specs.Channel.{unit_words}
use Rattle.words.proofs.ChannelLaws.{length-unit}
use Rattle.queue.specs.Words.{give_words, memory_word}
use Rattle.queue.proofs.WordsLaws.{memory-number}
use Rattle.queue.proofs.waiting.put_one.Goals as goal
use Rattle.queue.proofs.waiting.put_one.Goals.{After-store_unit}

-- the words stay as many
size : (d : After-store_unit) → length d.store_unit.new.t ≡ length d.args.t.now
size d = d.store_unit.ensures.put.size ∙ simp length-set

pub returns : goal.returns
unfolding give_words put_from
returns c =
    let t = c.args.t.now in
    let i = c.args.i in
    let g = c.args.given in
    let v = c.store_unit.new.t in
    let ys = memory_word g.place.memory ∷ g.place.start ∷ g.place.len ∷ [] in
    let e : i + 3 + 1 ≡ i + 4 = omega arith in
    let e₀ : i + 3 + 11 ≡ i + 14 = omega arith in
    let e₁ : i + 14 + 1 ≡ i + 15 = omega arith in
    let e₂ : i + 14 + 2 ≡ i + 16 = omega arith in
    let z : i + 14 + 3 ≤ length v = omega (arith, c.requires, size (goal.at.returns c).After-store_unit) in
    record {
      put =
          rw (memory-number g.place.memory)
          (put_on t v _ (i + 3) 11 3 14 ((1 ∷ []) ++ unit_words g.unit) ys (rw (length-unit g.unit)) refl
          (put_on t (set t (i + 3) 1) v (i + 3) 1 10 11 (1 ∷ []) (unit_words g.unit) refl refl
          (rw (add-zero (i + 3)) at (stores t (i + 3) 1 (1 ∷ []) refl (omega (arith, c.requires))))
          (rw e c.store_unit.ensures.put))
          (rw e₀ (rw (add-zero (i + 14), e₁, e₂) at (stores v (i + 14) 3 ys refl z))));
      sized = c.store_unit.ensures.sized;
    }
