use Prim.Native.Nat.{◌+◌}
use mathlib.Core.Path.{refl, sym, ◌∙◌, ap}
use native.Mathlib.Omega.{arith}
use borrow.Author.Tests.{leb-true}
use lib.ListN.{length}
use Rattle.lines.specs.Line.{longest_line}
use Rattle.feeding.specs.Feed.{bytes_taken, fed_from}
use Rattle.feeding.proofs.FeedLaws.{goes-room, goes-read, taken-by, source_some, kept-gathered, kept-is, or-none, stands-of, turn_by_lem, fed-turn, fed-stops, fed-short, fed-long}
use Rattle.state.proofs.Clean.{exact_none, exact-on}
use Rattle.feeding.proofs.feed.feed.Goals as goal
use Rattle.feeding.proofs.feed.feed.Goals.{then-words-lt-STATE_WORDS-via-then-words-lt-STATE_WORDS as too_few, then-words-lt-STATE_WORDS-via-else-words-lt-STATE_WORDS+then-command-lt-LONGEST_COMMAND as too_short}

pub returns-then-words-lt-STATE_WORDS : goal.returns-then-words-lt-STATE_WORDS
returns-then-words-lt-STATE_WORDS c =
    elim c.then-words-lt-STATE_WORDS.branch [
      | too_few w ↦ let l = w.if-words-lt-STATE_WORDS.true in
          record { short = λ h. (refl, refl, refl, refl, refl, refl); long = λ h. absurd (omega arith); exact = exact_none _ }
      | too_short w ↦ let l = w.if-words-lt-STATE_WORDS.false in
          record {
            short = λ h. absurd (omega arith);
            long = λ h. sym (fed-short _ _ _ _ _ _ _ w.if-command-lt-LONGEST_COMMAND.true);
            exact = exact_none _;
          }
    ]

pub loop-command-init : goal.loop-command-init
loop-command-init c =
    record {
      same = refl;
      keeps = c.keep.ensures.1;
      within = omega arith;
      command = c.if-command-lt-LONGEST_COMMAND.false;
      words = c.if-words-lt-STATE_WORDS.false;
      exact = exact_none _;
    }

pub goes_on-requires : goal.goes_on-requires
goes_on-requires c = c.loop-command.invariant.words

pub take_bytes-turn-requires : goal.take_bytes-turn-requires
take_bytes-turn-requires c =
    let i = c.loop-command.invariant in
    (i.keeps, i.command, goes-read _ _ _ _ _ (sym c.goes_on.ensures ∙ c.loop-command-test.true))

pub overflow_add-end : goal.overflow_add-end
overflow_add-end c =
    let i = c.loop-command.invariant in
    let k = kept-is _ _ _ c.take_bytes-turn.ensures in
    let t = taken-by _ _ _ _ _ _ k i.keeps (goes-read _ _ _ _ _ (sym c.goes_on.ensures ∙ c.loop-command-test.true)) i.command in
    omega (arith, t.1)

pub source-b-requires : goal.source-b-requires
source-b-requires c =
    let i = c.loop-command.invariant in
    let k = kept-is _ _ _ c.take_bytes-turn.ensures in
    let t = taken-by _ _ _ _ _ _ k i.keeps (goes-read _ _ _ _ _ (sym c.goes_on.ensures ∙ c.loop-command-test.true)) i.command in
    (rw (kept-gathered _ _ _ c.take_bytes-turn.ensures) (stands-of _ _ (omega (arith, t.2, t.3, i.command))), omega arith, t.1)

pub run-ran-requires : goal.run-ran-requires
run-ran-requires c =
    let i = c.loop-command.invariant in
    let g = sym c.goes_on.ensures ∙ c.loop-command-test.true in
    let k = kept-is _ _ _ c.take_bytes-turn.ensures in
    let t = taken-by _ _ _ _ _ _ k i.keeps (goes-read _ _ _ _ _ g) i.command in (
      i.words,
      rw (c.source-b.ensures _ (kept-gathered _ _ _ c.take_bytes-turn.ensures))
          (source_some _ _ _ _ _ t.0 t.1 (omega (arith, t.2, t.3, i.command))),
      leb-true (c.loop-command.fed.written + longest_line) (length c.loop-command.out) (goes-room _ _ _ _ _ g),
    )

pub loop-command-smaller : goal.loop-command-smaller
loop-command-smaller c =
    let i = c.loop-command.invariant in
    let k = kept-is _ _ _ c.take_bytes-turn.ensures in
    let t = taken-by _ _ _ _ _ _ k i.keeps (goes-read _ _ _ _ _ (sym c.goes_on.ensures ∙ c.loop-command-test.true)) i.command in
    omega (arith, t.0, t.1)

pub loop-command-preserved : goal.loop-command-preserved
loop-command-preserved c =
    let i = c.loop-command.invariant in
    let g = sym c.goes_on.ensures ∙ c.loop-command-test.true in
    let k = kept-is _ _ _ c.take_bytes-turn.ensures in
    let n = kept-gathered _ _ _ c.take_bytes-turn.ensures in
    let t = taken-by _ _ _ _ _ _ k i.keeps (goes-read _ _ _ _ _ g) i.command in
    let u = rw (c.unwrap_or.ensures, n, or-none) at c.keep-in-loop-command.ensures.0 in
    record {
      same =
          ap (fed_from _)
          (sym (turn_by_lem _ _ _ _ k _ (c.source-b.ensures _ n) _ _ _ _ c.run-ran.ensures.answer _ u))
          ∙ sym (fed-turn _ _ i.keeps.some g) ∙ i.same;
      keeps = c.keep-in-loop-command.ensures.1;
      within = t.1;
      command = omega (arith, t.3, i.command);
      words = rw c.run-ran.ensures.exact.size i.words;
      exact = exact-on _ _ _ i.exact c.run-ran.ensures.exact;
    }

pub returns : goal.returns
returns c =
    let n = c.if-words-lt-STATE_WORDS.false in
    let k = sym c.goes_on.ensures ∙ c.loop-command-test.false in
    record {
      short = λ h. absurd (omega arith);
      long =
          λ h. sym (fed-long _ _ _ _ _ _ _ c.if-command-lt-LONGEST_COMMAND.false _ c.keep.ensures.0
          (sym c.loop-command.invariant.same ∙ fed-stops _ _ c.loop-command.invariant.keeps.some k));
      exact = c.loop-command.invariant.exact;
    }
