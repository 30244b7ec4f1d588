-- Why next_record meets its contract: too few words, a record that is too short, a refused next, or its event.
use mathlib.Core.Path.{refl, sym}
use native.Mathlib.Omega.{arith}
use Rattle.std.proofs.lemmas.Result.{err_from_is_err_and}
use Rattle.state.proofs.Clean.{exact_none}
use Rattle.calls.proofs.EventsLaws.{unrefused-event, event-put, next-few, next-done, next-refused}
use Rattle.refusal.proofs.Numbers.{number-some}
use Rattle.calls.proofs.events.next_record.Goals as goal

pub returns-then-words-lt-STATE_WORDS : goal.returns-then-words-lt-STATE_WORDS
returns-then-words-lt-STATE_WORDS c =
    let h = c.if-words-lt-STATE_WORDS.true in
    record { short = λ g. (refl, refl, refl); long = λ g. absurd (omega arith); kept = λ z. refl; exact = exact_none _ }

pub returns-then-out-lt-RECORD_WORDS : goal.returns-then-out-lt-RECORD_WORDS
returns-then-out-lt-RECORD_WORDS c =
    let h = c.if-words-lt-STATE_WORDS.false in
    record {
      short = λ g. absurd (omega arith);
      long = λ g. sym (next-few _ _ _ _ c.if-out-lt-RECORD_WORDS.true);
      kept = λ z. refl;
      exact = exact_none _;
    }

pub returns-in_err-event : goal.returns-in_err-event
returns-in_err-event c =
    let h = c.if-words-lt-STATE_WORDS.false in
    let p = err_from_is_err_and c.from_residual.result c.from_residual.ensures.1 in
    let d = c.in_err-event.ensures in
    rw (p.1, p.2)
    (record {
      short = λ g. absurd (omega arith);
      long = λ g. sym (next-refused _ _ _ _ c.if-out-lt-RECORD_WORDS.false _ (d.long h) (number-some _));
      kept = λ y. d.kept _ refl;
      exact = d.exact;
    })

pub returns : goal.returns
returns c =
    let h = c.if-words-lt-STATE_WORDS.false in
    let d = c.in_ok-event.ensures in
    record {
      short = λ g. absurd (omega arith);
      long = λ g.
          rw (event-put _ _ 0 _ c.if-out-lt-RECORD_WORDS.false c.put_event.ensures)
          (sym (next-done _ _ _ _ c.if-out-lt-RECORD_WORDS.false _ (d.long h) (unrefused-event c.in_ok-event.event)));
      kept = λ y. absurd (y refl);
      exact = d.exact;
    }
