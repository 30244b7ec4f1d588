use Prim.Native.Nat.{◌*◌, ◌+◌}
use mathlib.Core.Path.{◌≡◌, refl, sym, ◌∙◌}
use native.Mathlib.Omega.{arith}
use Rattle.tmcc.specs.Count.{all_below}
use Rattle.tmcc.proofs.CountLaws.{all_one}
use Rattle.tmcc.specs.Mode.{slots_of}
use Rattle.tmcc.proofs.ModeLaws.{slots-one, modes-bad, modes-all}
use Rattle.tmcc.proofs.mode.keep_rules.Goals as goal

pub loop-k-init : goal.loop-k-init
unfolding all_below slots_of
loop-k-init c = (omega arith, refl, refl)

pub returns-then-not-is_good : goal.returns-then-not-is_good
returns-then-not-is_good c =
    sym (modes-bad _ _ c.loop-k-test.true (sym c.is_good.ensures ∙ c.if-not-is_good.true))

pub loop-k-preserved : goal.loop-k-preserved
loop-k-preserved c =
    let l = c.loop-k in (
      omega (arith, c.fits-block (2 + 3 * l.k)),
      rw (slots-one, ← l.invariant.1, c.from-slots.ensures, c.mode_at.ensures.1),
      rw (all_one, l.invariant.2, ← c.is_good.ensures) c.if-not-is_good.false,
    )

pub returns : goal.returns
returns c =
    let l = c.loop-k in
    let e : l.k ≡ 8 = omega arith in
    rw (modes-all _ (rw e at l.invariant.2), ← rw e at l.invariant.1)
