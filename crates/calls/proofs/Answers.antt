-- Why the calls over plain words answer as is claimed, and a refused one leaves all that it was lent.
use Prim.Native.Nat.{ℕ}
use mathlib.Core.Path.{◌≡◌, refl, sym, ◌∙◌}
use mathlib.Core.Bool.{Bool, true, false, true≢false}
use mathlib.Core.Logic.{inl, inr}
use mathlib.Core.List.{List}
use native.Mathlib.Omega.{arith}
use borrow.Author.Tests.{ltb-true, ltb-false, eqb-true, eqb-false}
use lib.Dec.{eqb, ltb}
use lib.ListN.{length}
use Rattle.state.specs.State.{State}
use Rattle.frames.specs.Slot.{short_by}
use Rattle.receiver.specs.Next.{next_of}
use Rattle.receiver.proofs.NextLaws.{next-short}
use Rattle.receiver.specs.Show.{show_of}
use Rattle.receiver.proofs.Demand1.{demand_1}
use Rattle.calls.specs.Bounds.{are_within}
use Rattle.calls.specs.Settings.{settings_most, config_in}
use Rattle.calls.proofs.SettingsLaws.{start-by, start-not}
use Rattle.calls.specs.Record.{record_words, read_place}
use Rattle.calls.specs.Events.{refusal_of}
use Rattle.calls.proofs.EventsLaws.{refused-event, next-few, next-done, next-refused, events-few, events-short, events-done}
use Rattle.calls.proofs.ShowLaws.{show-few, show-long, copied-short, copied-whole}
use Rattle.calls.specs.Claims.{StartAnswer, NextAnswer, EventsAnswer, ShowAnswer, CallsAnswer}

start-answer : (st : State) (s : List ℕ) → StartAnswer st s
start-answer st s = go (are_within s settings_most) refl
  where
    go : (b : Bool) → are_within s settings_most ≡ b → StartAnswer st s
    go true e =
        let g = start-by st s e in
        inr (e, g, λ z. rw g (demand_1.start st (config_in s) (rw g at z)).state)
    go false e = inl (e, start-not st s e)

-- with memories that are not too short next is not refused
unrefused : (st : State) (p c : List ℕ) → short_by st.config (length p) (length c) ≡ false → refusal_of (next_of st p c).0.event ≡ 0
unrefused st p c s = go (eqb (refusal_of (next_of st p c).0.event) 0) refl
  where
    go : (b : Bool) → eqb (refusal_of (next_of st p c).0.event) 0 ≡ b → refusal_of (next_of st p c).0.event ≡ 0
    go true e = eqb-true _ _ e
    go false e =
        let r = refused-event (next_of st p c).0.event (eqb-false _ _ e) in
        absurd (true≢false (sym (demand_1.next-bytes st p c _ r) ∙ s))

next-answer : (st : State) (p c t : List ℕ) → NextAnswer st p c t
next-answer st p c t = go (ltb (length t) record_words) (short_by st.config (length p) (length c)) refl refl
  where
    go : (a b : Bool) → ltb (length t) record_words ≡ a → short_by st.config (length p) (length c) ≡ b → NextAnswer st p c t
    go true b e q = let h = ltb-true _ _ e in inl (h, next-few st p c t h)
    go false true e q =
        let h = ltb-false _ _ e in
        let n = next-short st p c q in
        inr (inl (h, q, next-refused st p c t h _ (sym n) (λ z. absurd (omega arith))))
    go false false e q =
        let h = ltb-false _ _ e in
        inr (inr (h, q, next-done st p c t h (next_of st p c) refl (unrefused st p c q)))

events-answer : (st : State) (p c t : List ℕ) (count : ℕ) → EventsAnswer st p c t count
events-answer st p c t count = go (ltb (length t) record_words) (short_by st.config (length p) (length c)) refl refl
  where
    go : (a b : Bool) → ltb (length t) record_words ≡ a → short_by st.config (length p) (length c) ≡ b → EventsAnswer st p c t count
    go true b e q = let h = ltb-true _ _ e in inl (h, events-few st p c t count h)
    go false true e q = let h = ltb-false _ _ e in inr (inl (h, q, events-short st p c t count h q))
    go false false e q = let h = ltb-false _ _ e in inr (inr (h, q, events-done st p c t count h q _ refl))

show-answer : (p c t out : List ℕ) (len : ℕ) → ShowAnswer p c t out len
show-answer p c t out len = go (ltb (length t) record_words) (ltb (length out) (length (show_of p c (read_place t 0)))) refl refl
  where
    go : (a d : Bool) → ltb (length t) record_words ≡ a → ltb (length out) (length (show_of p c (read_place t 0))) ≡ d
        → ShowAnswer p c t out len
    go true d e q = let h = ltb-true _ _ e in inl (h, show-few p c t out len h)
    go false true e q =
        let h = ltb-false _ _ e in
        let l = ltb-true _ _ q in
        inr (inl (h, l, show-long p c t out len h ∙ copied-short _ out len l))
    go false false e q =
        let h = ltb-false _ _ e in
        let l = ltb-false _ _ q in
        inr (inr (h, l, show-long p c t out len h ∙ copied-whole _ out len l))

pub calls-answer : CallsAnswer
calls-answer = record { start = start-answer; next = next-answer; events = events-answer; show = show-answer }
