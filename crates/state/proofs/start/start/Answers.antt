-- Why start meets its contract: too few words, accepted where there is no refusal, or refused.
use Rattle.std.specs.Prelude.{◌≡◌}
use mathlib.Core.List.{[]}
use mathlib.Core.Path.{refl, sym, ◌∙◌, ap}
use native.Mathlib.Omega.{arith}
use Rattle.std.proofs.lemmas.Grind.{common_steps}
use Rattle.refusal.specs.Refusal.{answer}
use Rattle.refusal.proofs.Numbers.{number-some}
use Rattle.state.proofs.Leaves.{leaves-short, leaves-refused, leaves-accepted}
use Rattle.state.proofs.StartLaws.{start-fresh, start-kept}
use Rattle.state.specs.State.{Called}
use Rattle.state.specs.Start.{start_refusal}
use Rattle.state.proofs.start.start.Goals as goal

pub returns-then-words-lt-STATE_WORDS : goal.returns-then-words-lt-STATE_WORDS
returns-then-words-lt-STATE_WORDS c = record { leaves = leaves-short _ _ _ c.if-words-lt-STATE_WORDS.true; clean = λ z. absurd (omega arith) }

pub returns-in_err-check : goal.returns-in_err-check
returns-in_err-check c =
    let e : answer c.from_residual.result ≡ start_refusal c.args.config = grind (arith, common_steps, c.in_err-check.was) in
    let n : start_refusal c.args.config ≡ 0 → ⊥ = rw (← c.in_err-check.ensures) (number-some _) in
    record {
      leaves =
          leaves-refused _ _ _ _ c.if-words-lt-STATE_WORDS.false
          (rw e (ap (λ (x : Called). (x, [])) (start-kept _ _ n)));
      clean = λ z. absurd (n (sym e ∙ z));
    }

pub returns : goal.returns
returns c =
    let e : start_refusal c.args.config ≡ 0 = grind (arith, common_steps, c.in_ok-check.was) in
    let p = c.put_fresh.ensures in
    record {
      leaves =
          leaves-accepted _ _ _ _ _ _ _ c.if-words-lt-STATE_WORDS.false refl p.sets
          (ap (λ (x : Called). (x, [])) (start-fresh _ _ e));
      clean = λ z. p.clean;
    }
