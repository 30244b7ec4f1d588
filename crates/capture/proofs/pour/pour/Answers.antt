-- Why `pour` meets its contract: the words are too few, nothing is owed, there is no room, next is refused, or it is called.
use Rattle.std.proofs.Common.{◌≡◌, ℕ, ◌+◌, ◌≤◌, List, length, sym, refl, ◌∙◌, arith, leb-true}
use Rattle.lines.specs.Line.{longest_line}
use Rattle.state.specs.Words.{state_words, Exact}
use Rattle.capture.specs.declared.session.Session.{Session}
use Rattle.capture.specs.declared.session.Progress.{Progress}
use Rattle.capture.specs.Session.{progress_in}
use Rattle.capture.specs.Words.{PoursOr}
use Rattle.capture.specs.Steps.{Poured}
use Rattle.capture.proofs.StepsLaws.{pour_idle, pour_full, pour_short}
use Rattle.state.proofs.Clean.{exact_none}
use Rattle.capture.proofs.pour.pour.Goals as goal
use Rattle.capture.proofs.pour.pour.Goals.{then-words-lt-STATE_WORDS-via-then-words-lt-STATE_WORDS as too_few, then-words-lt-STATE_WORDS-via-else-words-lt-STATE_WORDS+then-not-is_busy as idle, then-words-lt-STATE_WORDS-via-else-words-lt-STATE_WORDS+else-not-is_busy+then-not-has_room as full}

-- the words suffice
long : {s : Session} {at : ℕ} {before c out : List ℕ} {r : Progress} {after d o : List ℕ} {x : Poured} → state_words ≤ length before
    → (progress_in r after, d, o) ≡ x → Exact before after → PoursOr s at before c out r after d o x
long h e z = record { short = λ k. absurd (omega arith); long = λ k. e; exact = z }

pub returns-then-words-lt-STATE_WORDS : goal.returns-then-words-lt-STATE_WORDS
returns-then-words-lt-STATE_WORDS c =
    elim c.then-words-lt-STATE_WORDS.branch [
      | too_few w ↦ let l = w.if-words-lt-STATE_WORDS.true in
          record { short = λ h. (refl, refl, refl, refl); long = λ h. absurd (omega arith); exact = exact_none _ }
      | idle w ↦ long w.if-words-lt-STATE_WORDS.false
          (sym (pour_idle _ _ _ _ _ (sym w.is_busy.ensures ∙ w.if-not-is_busy.true))) (exact_none _)
      | full w ↦ long w.if-words-lt-STATE_WORDS.false
          (sym (pour_full _ _ _ _ _ (sym w.is_busy.ensures ∙ w.if-not-is_busy.false)
          (sym w.has_room.ensures ∙ w.if-not-has_room.true))) (exact_none _)
    ]

pub put_refusal-requires : goal.put_refusal-requires
put_refusal-requires c =
    let l = leb-true (c.args.at + longest_line) (length c.args.out.now)
    (sym c.has_room.ensures ∙ c.if-not-has_room.false) in
    omega arith

pub returns-then-is_short : goal.returns-then-is_short
returns-then-is_short c =
    long c.if-words-lt-STATE_WORDS.false
    (rw c.end.ensures
    (sym (pour_short _ _ _ _ _ (sym c.is_busy.ensures ∙ c.if-not-is_busy.false)
    (sym c.has_room.ensures ∙ c.if-not-has_room.false) (sym c.is_short.ensures ∙ c.if-is_short.true) _ _
    c.put_refusal.ensures.written))) (exact_none _)

pub drain-requires : goal.drain-requires
drain-requires c = (
  c.if-words-lt-STATE_WORDS.false,
  record {
    owed = sym c.is_busy.ensures ∙ c.if-not-is_busy.false;
    long = sym c.is_short.ensures ∙ c.if-is_short.false;
  },
)

pub returns : goal.returns
returns c =
    long c.if-words-lt-STATE_WORDS.false c.drain.ensures.answer c.drain.ensures.exact
