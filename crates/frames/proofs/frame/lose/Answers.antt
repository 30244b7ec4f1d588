-- Why lose meets its contract: what a lost slot leaves is settled, and one word says that next is owed.
use mathlib.Core.Bool.{true}
use mathlib.Core.Path.{◌∙◌, ap}
use native.Mathlib.Omega.{arith}
use Rattle.wire.specs.Words.{flag_of}
use Rattle.state.proofs.LentLaws.{state-owed}
use Rattle.frames.specs.Frame.{loss_of}
use Rattle.state.specs.Words.{state_in}
use Rattle.state.specs.State.{State, with_owed}
use Rattle.state.proofs.Clean.{exact-on, exact-owed}
use Rattle.frames.proofs.frame.lose.Goals as goal

pub returns : goal.returns
unfolding loss_of state_in flag_of
returns c =
    let e = c.settle.ensures in
    record {
      state =
          state-owed c.settle.new.words 1 (omega (arith, c.requires, e.exact.size))
          ∙ ap (λ (x : State). with_owed x true) e.state
          ∙ rw (c.lose-lost.ensures, c.load_held.ensures);
      exact =
          exact-on _ _ _ e.exact
          (exact-owed c.settle.new.words true (omega (arith, c.requires, e.exact.size)));
    }
