use mathlib.Core.Path.{◌≡◌, refl, sym, ◌∙◌}
use native.Mathlib.Omega.{arith}
use Rattle.tmcc.specs.Count.{count_below, last_below}
use Rattle.tmcc.proofs.CountLaws.{count-one, last_one}
use Rattle.tmcc.proofs.stream.streams_in.Goals as goal
use Rattle.tmcc.proofs.stream.streams_in.Goals.{then-is_chosen, else-is_chosen}

pub loop-r-init : goal.loop-r-init
unfolding count_below last_below
loop-r-init c = (omega arith, refl, refl)

pub loop-r-preserved : goal.loop-r-preserved
loop-r-preserved c =
    let l = c.loop-r in
    elim c.if-is_chosen.branch [
      | then-is_chosen w ↦
          let e = sym c.is_chosen.ensures ∙ w.if-is_chosen.true in
          rw w.streams-is (omega arith, rw (count-one, e, l.invariant.1), rw (last_one, e))
      | else-is_chosen w ↦
          let e = sym c.is_chosen.ensures ∙ w.if-is_chosen.false in
          rw w.streams-is (omega arith, rw (count-one, e, l.invariant.1), rw (last_one, e, l.invariant.2))
    ]

pub returns : goal.returns
returns c =
    let l = c.loop-r in
    let e : l.r ≡ 16 = omega arith in
    rw (rw e at l.invariant.1, rw e at l.invariant.2)
