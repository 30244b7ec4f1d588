-- Why put_zeros meets its contract: the part is filled with 0, and the others stay.
use Prim.Native.Nat.{ℕ, ◌+◌, ◌-◌, ◌≤◌}
use mathlib.Core.Path.{◌≡◌}
use mathlib.Core.List.{List}
use native.Mathlib.Omega.{arith}
use lib.ListN.{length, take, drop, replicate, length-replicate, length-take, length-drop}
use borrow.Rule.Slice.PartMut.{put_mid}
use Rattle.std.proofs.Common.{rules}
use Rattle.std.proofs.lemmas.List.{places}
use Rattle.wire.specs.Words.{Put}
use Rattle.calls.proofs.record.put_zeros.Goals as goal

-- a part that is written anew
part_put : (t xs : List ℕ) (a k : ℕ) → length xs ≡ k → a + k ≤ length t → Put t (put_mid a k t xs) a k xs
part_put t xs a k l h =
    record {
      size = search (rules, places);
      holds = λ j g. search (rules, places);
      below = λ m g. search (rules, places);
      above = λ m g. search (rules, places);
    }

pub returns : goal.returns
returns c =
    let i = c.args.i in
    let n = c.args.n in
    let t = c.args.t.now in
    let e : i + n - i ≡ n = omega arith in
    let l : length (take (i + n - i) (drop i t)) ≡ n = simp (length-take, length-drop) (omega arith) in
    let f : c.fill.new.self ≡ replicate n 0 = rw l at (c.fill.ensures.after (λ y h. search rules)) in
    rw (f, e) (part_put t (replicate n 0) i n (length-replicate n 0) (omega arith))
