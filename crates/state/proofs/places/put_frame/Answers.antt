-- Why put_frame meets its contract: another layout, and slot 1 is due.
use mathlib.Core.Path.{◌∙◌, ap}
use native.Mathlib.Omega.{arith}
use Rattle.state.proofs.LentLaws.{state-at, state-layout}
use Rattle.state.specs.State.{State, with_frame}
use Rattle.state.proofs.Clean.{exact-on, exact-slots, exact-at}
use Rattle.state.proofs.places.put_frame.Goals as goal

pub returns : goal.returns
returns c =
    let d = c.put_slots in
    let l = d.ensures in
    record {
      state =
          state-at d.new.t 0 (omega (arith, c.requires, l.within.size))
          ∙ ap (λ (x : State). with_frame x (record { layout = x.frame.layout; at = 0 })) (state-layout _ _ _ l);
      exact = exact-on _ _ _ (exact-slots _ _ l.within l.clean) (exact-at d.new.t 0);
    }
