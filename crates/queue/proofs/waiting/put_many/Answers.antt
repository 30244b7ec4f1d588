-- Why put_many meets its contract: the number, the packet behind it, and where it stands behind that.
use Prim.Native.Nat.{◌+◌, ◌≤◌}
use mathlib.Core.Path.{◌≡◌, refl, ◌∙◌}
use mathlib.Core.List.{[], ◌∷◌, ◌++◌}
use native.Mathlib.Nat.{add-zero}
use native.Mathlib.Omega.{arith}
use lib.ListN.{length, set, length-set}
use Rattle.wire.specs.Words.{put_from}
use Rattle.wire.proofs.WordsLaws.{stores, put_on}
use Rattle.queue.specs.Words.{give_words, packet_words}
use Rattle.queue.proofs.WordsLaws.{length-packet}
use Rattle.queue.proofs.waiting.put_many.Goals as goal
use Rattle.queue.proofs.waiting.put_many.Goals.{After-store_packet}

-- the words stay as many
size : (d : After-store_packet) → length d.store_packet.new.t ≡ length d.args.t.now
size d = d.store_packet.ensures.put.size ∙ simp length-set

pub returns : goal.returns
unfolding give_words put_from
returns c =
    let t = c.args.t.now in
    let i = c.args.i in
    let l = c.args.l in
    let v = c.store_packet.new.t in
    let ys = l.start ∷ l.end ∷ c.args.at ∷ [] in
    let e : i + 3 + 1 ≡ i + 4 = omega arith in
    let e₀ : i + 3 + 11 ≡ i + 14 = omega arith in
    let e₁ : i + 14 + 1 ≡ i + 15 = omega arith in
    let e₂ : i + 14 + 2 ≡ i + 16 = omega arith in
    let z : i + 14 + 3 ≤ length v = omega (arith, c.requires, size (goal.at.returns c).After-store_packet) in
    record {
      put =
          (put_on t v _ (i + 3) 11 3 14 ((2 ∷ []) ++ packet_words l.packet) ys (rw (length-packet l.packet)) refl
          (put_on t (set t (i + 3) 2) v (i + 3) 1 10 11 (2 ∷ []) (packet_words l.packet) refl refl
          (rw (add-zero (i + 3)) at (stores t (i + 3) 1 (2 ∷ []) refl (omega (arith, c.requires))))
          (rw e c.store_packet.ensures.put))
          (rw e₀ (rw (add-zero (i + 14), e₁, e₂) at (stores v (i + 14) 3 ys refl z))));
      sized = c.store_packet.ensures.sized;
    }
