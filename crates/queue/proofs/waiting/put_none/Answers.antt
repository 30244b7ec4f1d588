-- Why put_none meets its contract: fourteen words are 0.
use Prim.Native.Nat.{ℕ, ◌+◌, ◌-◌, ◌≤◌}
use mathlib.Core.Path.{◌≡◌, refl}
use mathlib.Core.List.{List}
use native.Mathlib.Omega.{arith}
use lib.ListN.{length, take, drop, replicate, length-take, length-drop}
use borrow.Rule.Slice.PartMut.{put_mid}
use Rattle.std.proofs.Common.{rules}
use Rattle.std.proofs.lemmas.List.{places}
use Rattle.wire.specs.Words.{Put}
use Rattle.queue.specs.Words.{give_words}
use Rattle.queue.proofs.waiting.put_none.Goals as goal

-- a part that is written anew
part_put : (t xs : List ℕ) (a k : ℕ) → length xs ≡ k → a + k ≤ length t → Put t (put_mid a k t xs) a k xs
part_put t xs a k l h =
    record {
      size = search (rules, places);
      holds = λ j g. search (rules, places);
      below = λ m g. search (rules, places);
      above = λ m g. search (rules, places);
    }

pub returns : goal.returns
unfolding give_words
returns c =
    let i = c.args.i in
    let t = c.args.t.now in
    let e : i + 17 - (i + 3) ≡ 14 = omega arith in
    let l : length (take (i + 17 - (i + 3)) (drop (i + 3) t)) ≡ 14 = simp (length-take, length-drop) (omega arith) in
    let f : c.fill.new.self ≡ replicate 14 0 = rw l at (c.fill.ensures.after (λ y h. search rules)) in
    record { put = rw (f, e) (part_put t (replicate 14 0) (i + 3) 14 refl (omega arith)); sized = tt }
