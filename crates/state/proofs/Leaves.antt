-- Laws of what a call leaves in the words: one change behind another, too few words, a refusal, another state.
use Rattle.std.specs.Prelude.{ℕ, ◌<◌, ◌≤◌, ◌≡◌, refl, List, length}
use Rattle.std.proofs.Common.{sym, ◌∙◌, ap, arith}
use Rattle.wire.specs.Words.{Put}
use Rattle.wire.proofs.WordsLaws.{put-within}
use Rattle.intake.specs.declared.held.Intake.{Intake}
use Rattle.words.specs.Cursor.{held_words, CursorStored}
use Rattle.words.proofs.CursorLaws.{cursor-put}
use Rattle.queue.specs.Event.{Event}
use Rattle.queue.specs.Event.{Refused}
use Rattle.state.specs.State.{State, Called, Answer, with_slot, with_intake, refused, accepted}
use Rattle.state.specs.Words.{state_words, state_in, Leaves, Answers, Sets}
use Rattle.state.proofs.LentLaws.{state-held, state-cursor}
use Rattle.state.proofs.Clean.{exact_none, exact-on, exact-held, exact-cursor}

-- what a slot leaves
pub state_intake : (t u v : List ℕ) (i : Intake) → Put t u 22 3 (held_words i.held) → CursorStored u v 25 i.cursor
    → Sets t v (with_intake (state_in t) i)
state_intake t u v i p q =
    record {
      state =
          state-cursor u v i.cursor (put-within u v 25 5 _ q.put) (cursor-put u v 25 i.cursor q)
          ∙ ap (λ (s : State). with_slot s s.held i.cursor) (state-held t u i.held p);
      exact = exact-on t u v (exact-held t u i.held p) (exact-cursor u v i.cursor q);
    }

-- one change behind another
pub sets-on : (t u v : List ℕ) (f : State → State) (st : State) → Sets t u st → Sets u v (f (state_in u)) → Sets t v (f st)
sets-on t u v f st p q = record { state = q.state ∙ ap f p.state; exact = exact-on t u v p.exact q.exact }

-- what a call leaves: too few words, a refusal, or another state
module _ (t m : List ℕ) (x : Called × List ℕ) where
  pub leaves-short : length t < state_words → Leaves t m 90 t m x
  leaves-short h = record { short = λ g. (refl, refl); long = λ g. absurd (omega arith); kept = λ n. refl; exact = exact_none t }

  pub leaves-refused : (r : ℕ) → state_words ≤ length t → x ≡ (refused r (state_in t), m) → Leaves t m r t m x
  leaves-refused r h e = record { short = λ g. absurd (omega arith); long = λ g. sym e; kept = λ n. refl; exact = exact_none t }

  pub leaves-accepted : (u n : List ℕ) (r : ℕ) (st : State) → state_words ≤ length t → r ≡ 0 → Sets t u st → x ≡ (accepted st, n)
      → Leaves t m r u n x
  leaves-accepted u n r st h z s e =
      record {
        short = λ g. absurd (omega arith);
        long = λ g. rw (z, s.state) (sym e);
        kept = λ g. absurd (g z);
        exact = s.exact;
      }

-- the same of next
module _ (t c : List ℕ) (x : Answer × List ℕ) where
  pub answers_short : length t < state_words → Answers t c (Refused 90) t c x
  answers_short h = record { short = λ g. (refl, refl); long = λ g. absurd (omega arith); kept = λ n e. refl; exact = exact_none t }

  pub answers_kept : (r : Event) → state_words ≤ length t → x ≡ (record { event = r; state = state_in t }, c) → Answers t c r t c x
  answers_kept r h e = record { short = λ g. absurd (omega arith); long = λ g. sym e; kept = λ n e. refl; exact = exact_none t }
