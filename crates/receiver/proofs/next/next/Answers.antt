-- Why `next` meets its contract: too few words, refused, nothing owed, or reading on.
use Prim.Native.Nat.{ℕ, suc}
use mathlib.Core.List.{List}
use mathlib.Core.Path.{◌≡◌, sym, ◌∙◌, ap, subst}
use native.Mathlib.Omega.{arith}
use Rattle.delivery.specs.Cursor.{left}
use Rattle.queue.specs.Event.{Refused}
use Rattle.queue.specs.Event.{Event}
use Rattle.state.proofs.LentLaws.{owed-on, owed_off}
use Rattle.state.proofs.Leaves.{answers_short, answers_kept}
use Rattle.receiver.specs.Next.{NextOut, read_all}
use Rattle.receiver.proofs.NextLaws.{next-short, next-idle, next-reads, short-room}
use Rattle.state.specs.State.{State}
use Rattle.receiver.proofs.Unrefused.{Unrefused, read-unrefused}
use Rattle.receiver.proofs.next.next.Goals as goal

-- reading on answers no refusal
read_answer : (st : State) (p c : List ℕ) (r : Event) (n : ℕ) → r ≡ (read_all st p c).0.event → r ≡ Refused n → ⊥
unfolding read_all
read_answer st p c r n e f =
    subst (λ (x : Event). Unrefused x) (sym e ∙ f) (read-unrefused (suc (left st.cursor)) st p c)

pub returns-then-words-lt-STATE_WORDS : goal.returns-then-words-lt-STATE_WORDS
returns-then-words-lt-STATE_WORDS c = answers_short _ _ _ c.if-words-lt-STATE_WORDS.true

pub returns-then-is_short : goal.returns-then-is_short
returns-then-is_short c =
    answers_kept _ _ _ _ c.if-words-lt-STATE_WORDS.false
    (next-short _ _ _ (sym c.is_short.ensures ∙ c.if-is_short.true))

pub returns-then-words-eq0 : goal.returns-then-words-eq0
returns-then-words-eq0 c =
    answers_kept _ _ _ _ c.if-words-lt-STATE_WORDS.false
    (next-idle _ _ _ (sym c.is_short.ensures ∙ c.if-is_short.false) (owed_off _ c.if-words-eq0.true))

pub read_on-requires : goal.read_on-requires
read_on-requires c =
    (c.if-words-lt-STATE_WORDS.false, short-room _ _ _ (sym c.is_short.ensures ∙ c.if-is_short.false))

pub returns : goal.returns
returns c =
    let r = c.read_on.ensures in
    record {
      short = λ h. absurd (omega (arith, c.if-words-lt-STATE_WORDS.false));
      long = λ h. r.answer ∙ sym (next-reads _ _ _ (sym c.is_short.ensures ∙ c.if-is_short.false) (owed-on _ c.if-words-eq0.false));
      kept = λ n e. absurd (read_answer _ _ _ _ n (ap (λ (x : NextOut). x.0.event) r.answer) e);
      exact = r.exact;
    }
