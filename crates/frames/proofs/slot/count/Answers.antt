-- Why count meets its contract: two words change.
use mathlib.Core.Bool.{true}
use mathlib.Core.Path.{◌∙◌, ap}
use native.Mathlib.Omega.{arith}
use lib.ListN.{length-set}
use Rattle.wire.specs.Words.{flag_of}
use Rattle.state.proofs.LentLaws.{state-at, state-owed}
use Rattle.frames.specs.Slot.{counted}
use Rattle.state.specs.Words.{state_in}
use Rattle.state.specs.State.{State, with_owed}
use Rattle.state.proofs.Clean.{exact-on, exact-owed, exact-at}
use Rattle.frames.proofs.slot.count.Goals as goal

pub overflow_add-words : goal.overflow_add-words
unfolding state_in
overflow_add-words c = omega (arith, c.requires)

pub bounds-words-21 : goal.bounds-words-21
bounds-words-21 c = simp length-set (omega arith)

pub returns : goal.returns
unfolding state_in counted flag_of
returns c =
    record {
      state =
          state-owed _ 1 (simp length-set (omega (arith, c.requires)))
          ∙ ap (λ (x : State). with_owed x true) (state-at c.args.words.now _ (omega (arith, c.requires)));
      exact =
          exact-on _ _ _ (exact-at c.args.words.now _) (exact-owed _ true (simp length-set (omega (arith, c.requires))));
    }
