use Rattle.std.proofs.Common.{ap, sym, refl, ◌∙◌, leb-true}
use Rattle.queue.specs.Event.{Nothing}
use Rattle.lines.proofs.TextLaws.{wrote_none}
use Rattle.receiver.proofs.NextLaws.{short-room}
use Rattle.capture.specs.Session.{Session}
use Rattle.capture.specs.Capture.{event_line, tallied}
use Rattle.capture.specs.Words.{closed_values}
use Rattle.capture.proofs.WordsLaws.{closed_in, given_line}
use Rattle.capture.proofs.StepsLaws.{pour_line, pour_last, pour_full, drains-paid, drains-on, drains-falls}
use Rattle.state.proofs.Clean.{exact_none, exact-on}
use Rattle.capture.proofs.pour.drain.Invariants.{on}
use Rattle.capture.proofs.pour.drain.Goals as goal

pub loop-words-init : goal.loop-words-init
loop-words-init c = (refl, c.requires.1, c.requires.0, exact_none _)

pub read_on-requires : goal.read_on-requires
read_on-requires c =
    let l = c.loop-words in
    (l.invariant.2, short-room _ _ _ l.invariant.1.long)

pub put_event-place-requires : goal.put_event-place-requires
put_event-place-requires c = leb-true _ _ (sym c.has_room.ensures ∙ c.loop-words-test.true)

pub returns-in_default : goal.returns-in_default
unfolding event_line tallied closed_values
returns-in_default c =
    let l = c.loop-words in
    let k = rw c.in_default.is at c.read_on.ensures in
    record {
      answer =
          ap (λ (s : Session). (record { session = s; at = l.place }, c.read_on.new.collecting, l.out))
          (closed_in (on c.args.session l.tally) c.read_on.new.words Nothing (drains-paid _ _ _ l.invariant.1 _ k.answer))
          ∙ sym (pour_last _ _ _ l.invariant.1 _ k.answer _ _ (sym c.has_room.ensures ∙ c.loop-words-test.true) _ _
          (sym (wrote_none _ _)) refl) ∙ l.invariant.0;
      exact = exact-on _ _ _ l.invariant.3 k.exact;
    }

pub loop-words-smaller : goal.loop-words-smaller
loop-words-smaller c =
    let k = rw c.in-Some.is at c.read_on.ensures in
    drains-falls _ _ _ c.loop-words.invariant.1 _ k.answer (given_line c.in-Some.event)

pub loop-words-preserved : goal.loop-words-preserved
loop-words-preserved c =
    let l = c.loop-words in
    let k = rw c.in-Some.is at c.read_on.ensures in
    let i = given_line c.in-Some.event in (
      rw c.count-tally.ensures
          (sym (pour_line _ _ _ l.invariant.1 _ k.answer _ _ (sym c.has_room.ensures ∙ c.loop-words-test.true) _ _
          c.put_event-place.ensures.written i) ∙ l.invariant.0),
      rw c.count-tally.ensures (drains-on _ _ _ l.invariant.1 _ k.answer i),
      rw k.exact.size l.invariant.2,
      exact-on _ _ _ l.invariant.3 k.exact,
    )

pub returns-after-loop-words : goal.returns-after-loop-words
returns-after-loop-words c =
    let l = c.loop-words in
    let r = sym c.has_room.ensures ∙ c.loop-words-test.false in
    record {
      answer = sym (pour_full _ _ _ _ _ l.invariant.1.owed r) ∙ l.invariant.0;
      exact = l.invariant.3;
    }
