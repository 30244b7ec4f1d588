use mathlib.Core.Path.{refl, sym, ◌∙◌}
use native.Mathlib.Omega.{arith}
use Rattle.calls.proofs.BoundsLaws.{within-few, within-above, within_on, within_end}
use Rattle.calls.proofs.bounds.are_within.Goals as goal

pub returns-then-t-most : goal.returns-then-t-most
returns-then-t-most c = sym (within-few _ _ c.if-t-most.true)

pub loop-k-init : goal.loop-k-init
loop-k-init c = (c.if-t-most.false, refl)

pub returns-then-most-k : goal.returns-then-most-k
returns-then-most-k c =
    let l = c.loop-k in
    sym (within-above _ _ l.k (omega (arith, l.invariant)) (omega (arith, l.invariant)) c.if-most-k.true) ∙ l.invariant.1

pub loop-k-preserved : goal.loop-k-preserved
loop-k-preserved c =
    let l = c.loop-k in
    (l.invariant.0, sym (within_on _ _ l.k (omega (arith, l.invariant)) (omega (arith, l.invariant)) c.if-most-k.false) ∙ l.invariant.1)

pub returns : goal.returns
returns c =
    let l = c.loop-k in
    sym (within_end _ _ l.k (omega (arith, l.invariant))) ∙ l.invariant.1
