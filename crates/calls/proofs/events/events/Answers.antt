-- Why events meets its contract: too few words, no room for a record, memories that are too short, or what next gives.
use mathlib.Core.Path.{refl, sym, ◌∙◌}
use native.Mathlib.Omega.{arith}
use Rattle.state.proofs.Clean.{exact_none}
use Rattle.calls.proofs.EventsLaws.{events-few, events-short, events-done}
use Rattle.calls.proofs.events.events.Goals as goal

pub returns-then-words-lt-STATE_WORDS : goal.returns-then-words-lt-STATE_WORDS
returns-then-words-lt-STATE_WORDS c count =
    let h = c.if-words-lt-STATE_WORDS.true in
    record { short = λ g. (refl, refl, refl, refl); long = λ g. absurd (omega arith); kept = λ z. refl; exact = exact_none _ }

pub returns-then-records-lt-RECORD_WORDS : goal.returns-then-records-lt-RECORD_WORDS
returns-then-records-lt-RECORD_WORDS c count =
    let h = c.if-words-lt-STATE_WORDS.false in
    record {
      short = λ g. absurd (omega arith);
      long = λ g. sym (events-few _ _ _ _ _ c.if-records-lt-RECORD_WORDS.true);
      kept = λ z. refl;
      exact = exact_none _;
    }

pub returns-then-is_short : goal.returns-then-is_short
returns-then-is_short c count =
    let h = c.if-words-lt-STATE_WORDS.false in
    record {
      short = λ g. absurd (omega arith);
      long = λ g. sym (events-short _ _ _ _ _ c.if-records-lt-RECORD_WORDS.false (sym c.is_short.ensures ∙ c.if-is_short.true));
      kept = λ z. refl;
      exact = exact_none _;
    }

pub read_events-requires : goal.read_events-requires
read_events-requires c =
    (c.if-words-lt-STATE_WORDS.false, sym c.is_short.ensures ∙ c.if-is_short.false)

pub returns : goal.returns
returns c count =
    let h = c.if-words-lt-STATE_WORDS.false in
    record {
      short = λ g. absurd (omega arith);
      long = λ g.
          sym (events-done _ _ _ _ _ c.if-records-lt-RECORD_WORDS.false (sym c.is_short.ensures ∙ c.if-is_short.false) _
          c.read_events.ensures.answer);
      kept = λ z. absurd (z refl);
      exact = c.read_events.ensures.exact;
    }
