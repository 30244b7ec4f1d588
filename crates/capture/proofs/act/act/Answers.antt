-- Why `act` meets its contract: the command does not fit, is accepted, or is refused.
use Rattle.std.proofs.Common.{refl, sym, ◌∙◌}
use Rattle.capture.proofs.CommandLaws.{size-by}
use Rattle.capture.proofs.StepsLaws.{acted_unknown, acted-accepted, acted-refused}
use Rattle.refusal.proofs.Numbers.{number-some}
use Rattle.state.proofs.Clean.{exact_none}
use Rattle.capture.proofs.act.act.Goals as goal

pub returns-then-not-is_fit : goal.returns-then-not-is_fit
returns-then-not-is_fit c =
    record {
      answer =
          rw c.end.ensures
          (sym (acted_unknown _ _ _ _ _ _ _ (sym c.from-letter.ensures) (sym c.is_fit.ensures ∙ c.if-not-is_fit.true)));
      exact = exact_none _;
    }

pub call-requires : goal.call-requires
call-requires c =
    (c.requires.0, c.requires.1, rw (size-by _ _ (sym c.from-letter.ensures)) at c.requires.2)

pub returns-in-Ok : goal.returns-in-Ok
returns-in-Ok c =
    let k = rw c.in-Ok.is at c.call.ensures in
    record {
      answer =
          rw c.after_call.ensures
          (sym (acted-accepted _ _ _ _ _ _ _ (sym c.from-letter.ensures) (sym c.is_fit.ensures ∙ c.if-not-is_fit.false) _ _
          k.answer refl));
      exact = k.exact;
    }

pub returns-in-Err : goal.returns-in-Err
returns-in-Err c =
    let k = rw c.in-Err.is at c.call.ensures in
    record {
      answer =
          rw c.end-in-Err.ensures
          (sym (acted-refused _ _ _ _ _ _ _ (sym c.from-letter.ensures) (sym c.is_fit.ensures ∙ c.if-not-is_fit.false) _ _
          k.answer (number-some c.in-Err.refusal) _ _ c.put_refusal.ensures.written));
      exact = k.exact;
    }
