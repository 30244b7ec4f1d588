use mathlib.Core.Path.{◌≡◌, refl, sym, ◌∙◌}
use native.Mathlib.Omega.{arith}
use Rattle.tmcc.specs.Mode.{mode_from, mode_of}
use Rattle.tmcc.proofs.ModeLaws.{mode_here, mode_later}
use Rattle.tmcc.proofs.mode.of_slot.Goals as goal

pub loop-k-init : goal.loop-k-init
unfolding mode_of
loop-k-init c = refl

pub returns-then-left-count : goal.returns-then-left-count
returns-then-left-count c =
    (sym (mode_here _ 8 _ _ c.loop-k-test.true (omega arith)) ∙ c.loop-k.invariant, omega arith)

pub loop-k-preserved : goal.loop-k-preserved
loop-k-preserved c =
    rw (c.from-count.ensures, c.mode_at.ensures.1) (sym (mode_later _ 8 _ _ c.loop-k-test.true (omega arith)) ∙ c.loop-k.invariant)

pub returns : goal.returns
unfolding mode_from
returns c =
    let l = c.loop-k in
    let e : l.k ≡ 8 = omega arith in
    (rw e at l.invariant, omega arith)
