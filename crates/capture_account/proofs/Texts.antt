-- The text of a capture is that of its meaning.
use Prim.Native.Nat.{ℕ, zero, suc}
use mathlib.Core.Path.{◌≡◌, refl, sym, ap, ◌∙◌}
use mathlib.Core.Bool.{Bool, true, false, cond, not, and-false, and-eq-true_iff, true≢false}
use mathlib.Core.List.{List, [], ◌∷◌, ◌++◌, append_assoc}
use lib.ListN.{length, get_or, take, drop}
use lib.Dec.{eqb}
use borrow.Author.Tests.{not-true}
use Rattle.queue.specs.Event.{Event}
use Rattle.queue.specs.Event.{Nothing, Note, Unit, Refused}
use Rattle.state.specs.State.{Called}
use Rattle.receiver.specs.Next.{next_of}
use Rattle.lines.specs.Line.{unit_line, refused_line}
use Rattle.capture.specs.declared.command.Letter.{Letter}
use Rattle.capture.specs.declared.session.Phase.{Phase}
use Rattle.capture.specs.declared.session.Phase.TheVariants.{Before, Reading, Ended}
use Rattle.capture.specs.Session.{Session, is_ended, busy, in_phase, with_state, with_tally, fresh_session}
use Rattle.capture.specs.Command.{letter_of, size_of, whole}
use Rattle.capture.specs.Capture.{
  Done,
  Drained,
  fits,
  call_of,
  after_call,
  done_of,
  event_line,
  tallied,
  closed,
  event_by,
  drained_by,
  drained_of,
  last_line,
  reads,
  text_by,
  text_of,
  capture_of,
}
use Rattle.capture.proofs.Drains.{still, drain-idle}
use Rattle.capture_account.specs.Events.{
  Placed,
  Meaning,
  Waited,
  nothing_waited,
  waited_then,
  waited_by,
  waited_of,
  command_refusal,
  events_first,
  no_more,
  meaning_by,
  meaning_of,
  line_by,
  lines_of,
  refused_lines,
  meaning_text,
}
use Rattle.capture_account.specs.Claims.{TextClaim}

-- what next gave, as text and as events
record Same (d : Drained) (g : Waited) : Type 0 where
  text : d.text ≡ lines_of g.events ++ refused_lines g.refusals
  calm : is_ended d.session.phase ≡ false → g.refusals ≡ []

busy-ended : (s : Session) → is_ended s.phase ≡ true → busy s ≡ false
busy-ended s e = go s.phase e
  where
    go : (h : Phase) → is_ended h ≡ true → busy (record { phase = h; state = s.state; tally = s.tally }) ≡ false
    go Before e = absurd (true≢false (sym e))
    go Reading e = absurd (true≢false (sym e))
    go Ended e = refl

module _ (p : List ℕ) where
  same_by : (s s' : Session) (c c' : List ℕ) (on : Session → List ℕ → Drained) (gon : Session → Waited)
      → ((t : Session) → Same (on t c') (gon t)) → (b : Bool) (e : Event)
      → Same (cond b (event_by e s' c' on) (still s c))
      (cond b (waited_then e s'.tally p c' (gon (with_tally s' (tallied s'.tally e)))) nothing_waited)
  unfolding event_line closed unit_line lines_of
  same_by s s' c c' on gon h false e = record { text = refl; calm = λ q. refl }
  same_by s s' c c' on gon h true Nothing = record { text = refl; calm = λ q. refl }
  same_by s s' c c' on gon h true (Note n id) =
      let i = h (with_tally s' (tallied s'.tally (Note n id))) in
      record { text = rw i.text (simp append_assoc); calm = i.calm }
  same_by s s' c c' on gon h true (Unit g) =
      let i = h (with_tally s' (tallied s'.tally (Unit g))) in
      record { text = rw i.text (simp append_assoc); calm = i.calm }
  same_by s s' c c' on gon h true (Refused n) = record { text = refl; calm = λ q. absurd (true≢false q) }

  drain-same : (f : ℕ) (s : Session) (c : List ℕ) → Same (drained_by f s p c) (waited_by f s p c)
  unfolding drained_by waited_by lines_of
  drain-same zero s c = record { text = refl; calm = λ q. refl }
  drain-same (suc f) s c =
      let r = next_of s.state p c in
      same_by s (with_state s r.0.state) c r.1 (λ t d. drained_by f t p d) (λ t. waited_by f t p r.1)
      (λ t. drain-same f t r.1) (busy s) r.0.event

same : (s : Session) (p c : List ℕ) → Same (drained_of s p c) (waited_of s p c)
unfolding drained_of waited_of
same s p c = drain-same p _ s c

-- a command, as text and by its refusal
record SameDone (k : Done) (rs : List ℕ) : Type 0 where
  text : k.text ≡ refused_lines rs
  calm : is_ended k.session.phase ≡ false → k.text ≡ []

done-same : (s : Session) (p c b : List ℕ) → SameDone (done_of s p c b) (command_refusal s p c b)
unfolding done_of command_refusal
done-same s p c b = go (fits s.phase l) (eqb r.0.refusal 0)
  where
    l : Letter
    l = letter_of (get_or b 0 0)

    r : Called × List ℕ
    r = call_of l s.state p c b

    go : (x y : Bool)
        → SameDone
        (cond x
        (cond y (record { text = []; session = after_call l (with_state s r.0.state); packet = r.1 })
        (record {
          text = refused_line r.0.refusal;
          session = in_phase (with_state s r.0.state) Ended;
          packet = r.1;
        })) (record { text = []; session = in_phase s Ended; packet = p }))
        (cond x (cond y [] (r.0.refusal ∷ [])) [])
    go true true = record { text = refl; calm = λ q. refl }
    go true false = record { text = refl; calm = λ q. absurd (true≢false q) }
    go false y = record { text = refl; calm = λ q. refl }

-- nothing is read any more
text-ended : (f : ℕ) (s : Session) (p c b : List ℕ) → is_ended s.phase ≡ true → text_by f s p c b ≡ last_line s.tally
unfolding text_by
text-ended zero s p c b e = rw (drain-idle s p c (busy-ended s e))
text-ended (suc f) s p c b e = rw (drain-idle s p c (busy-ended s e), e, and-false (whole b))

-- one list of events behind another
lines-append : (a b : List Placed) → lines_of (a ++ b) ≡ lines_of a ++ lines_of b
unfolding lines_of
lines-append [] b = refl
lines-append (e ∷ a) b =
    let l = line_by e.shown e.frame e.slot e.len in
    ap (λ (x : List ℕ). l ++ x) (lines-append a b) ∙ sym (append_assoc l (lines_of a) (lines_of b))

text-first : (es : List Placed) (m : Meaning) → meaning_text (events_first es m) ≡ lines_of es ++ meaning_text m
unfolding meaning_text
text-first es m = rw (lines-append es m.events, append_assoc)

text-ends : (s : Session) (rs : List ℕ) → meaning_text (no_more s rs) ≡ refused_lines rs ++ last_line s.tally
unfolding meaning_text lines_of
text-ends s rs = refl

-- from what next gave on, where a command is not read
stopped-text : (s : Session) (p c : List ℕ)
    → (drained_of s p c).text ++ last_line (drained_of s p c).session.tally
    ≡ meaning_text (events_first (waited_of s p c).events (no_more (drained_of s p c).session (waited_of s p c).refusals))
stopped-text s p c =
    let g = waited_of s p c in
    rw (
      text-first g.events (no_more (drained_of s p c).session g.refusals),
      text-ends (drained_of s p c).session g.refusals,
      (same s p c).text,
      append_assoc,
    )

-- and where one is
module _ (f : ℕ) (s : Session) (p c b : List ℕ)
    (again : (s : Session) (p c b : List ℕ) → text_by f s p c b ≡ meaning_text (meaning_by f s p c b)) where
  d : Drained
  d = drained_of s p c

  g : Waited
  g = waited_of s p c

  k : Done
  k = done_of d.session p d.collecting (take (size_of b) b)

  last : Meaning
  last = no_more k.session (command_refusal d.session p d.collecting (take (size_of b) b))

  rest : List ℕ
  rest = drop (size_of b) b

  went-text : (e : Bool) → is_ended k.session.phase ≡ e
      → k.text ++ text_by f k.session k.packet d.collecting rest
      ≡ meaning_text (cond e last (meaning_by f k.session k.packet d.collecting rest))
  unfolding last d k
  went-text true e =
      let h = done-same d.session p d.collecting (take (size_of b) b) in
      let rs = command_refusal d.session p d.collecting (take (size_of b) b) in
      rw (
        text-ended f k.session k.packet d.collecting rest e,
        text-ends k.session rs,
        h.text,
      )
  went-text false e =
      let h = done-same d.session p d.collecting (take (size_of b) b) in
      rw (h.calm e) (again k.session k.packet d.collecting rest)

  on-text : (r : Bool) → reads d.session b ≡ r
      → d.text
      ++ cond r (k.text ++ text_by f k.session k.packet d.collecting rest) (last_line d.session.tally)
      ≡ meaning_text
      (events_first g.events
      (cond r (cond (is_ended k.session.phase) last (meaning_by f k.session k.packet d.collecting rest))
      (no_more d.session g.refusals)))
  unfolding d g
  on-text false e = stopped-text s p c
  on-text true e =
      let t = same s p c in
      let q : is_ended (drained_of s p c).session.phase ≡ false =
      not-true _ ((and-eq-true_iff (whole b) (not (is_ended (drained_of s p c).session.phase))).0 e).1 in
      rw (
        text-first (waited_of s p c).events
            (cond (is_ended k.session.phase) last (meaning_by f k.session k.packet (drained_of s p c).collecting rest)),
        ← went-text (is_ended k.session.phase) refl,
        t.text,
        t.calm q,
        append_assoc,
      )

text_means : (f : ℕ) (s : Session) (p c b : List ℕ) → text_by f s p c b ≡ meaning_text (meaning_by f s p c b)
unfolding text_by meaning_by d g k last rest
text_means zero s p c b = stopped-text s p c
text_means (suc f) s p c b = on-text f s p c b (text_means f) (reads (drained_of s p c).session b) refl

pub capture_text : TextClaim
unfolding capture_of text_of meaning_of
capture_text p c b = text_means (length b) fresh_session p c b
