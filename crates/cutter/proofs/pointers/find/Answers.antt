use Prim.Native.Nat.{◌+◌, ◌≤◌, ◌<◌}
use mathlib.Core.Path.{refl, ◌∙◌}
use native.Mathlib.Omega.{arith}
use lib.ListN.{length}
use borrow.Author.Rules.{rules}
use Rattle.tlv.proofs.CutsLaws.{cut-sized}
use Rattle.cutter.specs.Pointers.{top_of, last_of, pointers_of}
use Rattle.cutter.proofs.Packets.{fits-here, whole-next, top-next, last-next}
use Rattle.cutter.proofs.Places.{top-done, last_done}
use Rattle.cutter.proofs.pointers.find.Goals as goal

pub loop-at-init : goal.loop-at-init
unfolding top_of last_of
loop-at-init c = (search rules, c.requires.0, refl, refl)

pub total_at-requires : goal.total_at-requires
total_at-requires c = omega (arith, fits-here c.args.run.now c.loop-at.at (omega arith) c.loop-at.invariant.1)

pub overflow_add-end : goal.overflow_add-end
overflow_add-end c = omega (arith, fits-here c.args.run.now c.loop-at.at (omega arith) c.loop-at.invariant.1, c.total_at.ensures.0)

pub last_with-last-requires : goal.last_with-last-requires
last_with-last-requires c = omega (arith, fits-here c.args.run.now c.loop-at.at (omega arith) c.loop-at.invariant.1, c.total_at.ensures.0)

pub loop-at-smaller : goal.loop-at-smaller
loop-at-smaller c = omega (arith, fits-here c.args.run.now c.loop-at.at (omega arith) c.loop-at.invariant.1, c.total_at.ensures.0)

pub loop-at-preserved : goal.loop-at-preserved
loop-at-preserved c =
    let i = c.loop-at.invariant in
    let a = c.args in
    let s = a.run.now in
    let at = c.loop-at.at in
    let h : at < length s = omega arith in
    rw (c.top_with-top.ensures, c.last_with-last.ensures, c.total_at.ensures.0) (
      (fits-here s at h i.1).1,
      whole-next s at h i.1,
      top-next s at h i.1 a.from a.l (omega arith) _ ∙ i.2,
      last-next s at h i.1 a.from a.l _ ∙ i.3,
    )

pub returns : goal.returns
unfolding pointers_of
returns c =
    let l = c.loop-at in
    let a = c.args in
    let e : a.from + a.l ≤ l.at = omega arith in
    rw (← l.invariant.2, ← l.invariant.3, top-done a.from a.l _ _ _ e, last_done a.from a.l _ _ _ (cut-sized _) e)
