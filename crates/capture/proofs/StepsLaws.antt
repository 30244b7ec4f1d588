-- Laws of specs/Steps.antt.
use Rattle.std.specs.Prelude.{◌≡◌, ℕ, suc, ◌<◌, true, false, cond, ◌&&◌, List, length, ◌≢◌, slice_index}
use Rattle.std.proofs.Common.{sym, ◌∙◌, arith}
use Rattle.std.proofs.Math.Bool.{and-eq-true_iff}
use borrow.Author.Tests.{eq-eqb, ne_eqb}
use Rattle.queue.specs.Event.{Nothing}
use Rattle.state.specs.State.{Called}
use Rattle.frames.specs.Slot.{short_by}
use Rattle.receiver.specs.Next.{NextOut, read_all, next_of}
use Rattle.receiver.proofs.NextLaws.{next-short, next-reads}
use Rattle.receiver.proofs.ReadOnLaws.{next-calm}
use Rattle.capture.specs.declared.command.Letter.{Letter}
use Rattle.capture.specs.declared.session.Phase.TheVariants.{Ended}
use Rattle.capture.specs.Session.{Session, is_reading, busy, in_phase, with_state, with_tally}
use Rattle.capture.specs.declared.session.Tally.{Tally}
use Rattle.lines.specs.Text.{wrote}
use Rattle.lines.proofs.TextLaws.{wrote_none}
use Rattle.lines.specs.Line.{is_line, refused_line}
use Rattle.capture.specs.Command.{letter_of}
use Rattle.capture.specs.Waits.{waits}
use Rattle.capture.proofs.WaitsLaws.{next-falls, next-owes}
use Rattle.capture.proofs.Paid.{read-paid}
use Rattle.capture.proofs.Bounded.{same-on, enough}
use Rattle.capture.specs.Capture.{fits, call_of, after_call, done_of, event_line, tallied, closed, last_line}
use Rattle.capture.specs.Steps.{acted_of, roomy, Poured, poured_at, pour_by, Drains, poured_by, poured_of, finished_of}

-- Laws.
-- a command, case by case
module _ (s : Session) (p c b out : List ℕ) (at : ℕ) (l : Letter) (k : letter_of (slice_index b 0) ≡ l) where
  pub acted_unknown : fits s.phase l ≡ false
      → acted_of s p c b out at ≡ (record { session = in_phase s Ended; at = at }, p, out)
  unfolding acted_of done_of
  acted_unknown f = rw (k, f, wrote_none out at)

  module _ (f : fits s.phase l ≡ true) (r : Called) (q : List ℕ) (e : (r, q) ≡ call_of l s.state p c b) where
    pub acted-accepted : r.refusal ≡ 0
        → acted_of s p c b out at ≡ (record { session = after_call l (with_state s r.state); at = at }, q, out)
    unfolding acted_of done_of
    acted-accepted z = rw (k, f, ← e, eq-eqb _ _ z, wrote_none out at)

    pub acted-refused : (r.refusal ≢ 0) → (end : ℕ) (o : List ℕ) → (end, o) ≡ wrote out at (refused_line r.refusal)
        → acted_of s p c b out at ≡ (record { session = in_phase (with_state s r.state) Ended; at = end }, q, o)
    unfolding acted_of done_of
    acted-refused z end o w = rw (k, f, ← e, ne_eqb _ _ z, ← w)

-- one call, and then `on`
abbrev pour_on : Session → List ℕ → List ℕ → List ℕ → ℕ → (Session → List ℕ → List ℕ → ℕ → Poured) → Poured
pour_on s p c out at on =
    let r = next_of s.state p c in
    cond (busy s && roomy (length out) at) (pour_by r.0.event (with_state s r.0.state) r.1 out at on)
    (poured_at s c (at, out))

-- two ways of going on that agree where less waits
pour_same : (s : Session) (p c out : List ℕ) (at : ℕ) (f g : Session → List ℕ → List ℕ → ℕ → Poured)
    → ((t : Session) (d o : List ℕ) (a : ℕ) → waits t.state p < waits s.state p → f t d o a ≡ g t d o a)
    → pour_on s p c out at f ≡ pour_on s p c out at g
pour_same s p c out at f g k =
    let r = next_of s.state p c in
    same-on (busy s && roomy (length out) at) _ _ _
    (λ b. same-on (is_line r.0.event) _ _ _ (λ i. k _ r.1 _ _ (next-falls p s.state c i)))

-- more calls change nothing
pour_enough : (f g : ℕ) (s : Session) (p c out : List ℕ) (at : ℕ) → waits s.state p < f → waits s.state p < g
    → poured_by f s p c out at ≡ poured_by g s p c out at
unfolding poured_by
pour_enough f g s p c out at =
    enough {X = Session × List ℕ × List ℕ × ℕ} (λ x. waits x.0.state p) (λ n x. poured_by n x.0 p x.1 x.2 x.3)
    (λ m n x k. pour_same x.0 p x.1 x.2 x.3 _ _ (λ t d o a l. k (t, d, o, a) l)) f g (s, c, out, at)

module _ (s : Session) (p c out : List ℕ) (at : ℕ) where
  -- one call at a time
  pub pour_step : let r = next_of s.state p c in
      poured_of s p c out at
      ≡ cond (busy s && roomy (length out) at)
      (pour_by r.0.event (with_state s r.0.state) r.1 out at (λ t d o a. poured_of t p d o a)) (poured_at s c (at, out))
  unfolding poured_of poured_by
  pour_step =
      pour_same s p c out at _ _
      (λ t d o a l. pour_enough (waits s.state p) (suc (waits t.state p)) t p d o a l (omega arith))

  pub pour_stops : (busy s && roomy (length out) at) ≡ false → poured_of s p c out at ≡ poured_at s c (at, out)
  pour_stops h = pour_step ∙ rw h

  pub pour_next : (busy s && roomy (length out) at) ≡ true → (o : NextOut) → next_of s.state p c ≡ o
      → poured_of s p c out at ≡ pour_by o.0.event (with_state s o.0.state) o.1 out at (λ t d o a. poured_of t p d o a)
  pour_next h o e = pour_step ∙ rw (h, e)

-- nothing is owed, there is no room, or the memories are too short for next
module _ (s : Session) (p c out : List ℕ) (at : ℕ) where
  pub pour_idle : busy s ≡ false → poured_of s p c out at ≡ poured_at s c (at, out)
  pour_idle h = pour_stops s p c out at (rw h)

  module _ (h : busy s ≡ true) where
    pub pour_full : roomy (length out) at ≡ false → poured_of s p c out at ≡ poured_at s c (at, out)
    pour_full r = pour_stops s p c out at (rw (h, r))

    pub pour_short : roomy (length out) at ≡ true → short_by s.state.config (length p) (length c) ≡ true → (r : ℕ) (o : List ℕ)
        → (r, o) ≡ wrote out at (refused_line 22) → poured_of s p c out at ≡ poured_at (in_phase s Ended) c (r, o)
    unfolding event_line tallied closed
    pour_short r e n o w = pour_next s p c out at (rw (h, r)) _ (next-short s.state p c e) ∙ rw (← w)

-- one event at a time: `o` is what reading on comes to
module _ (s : Session) (p c : List ℕ) (d : Drains s (length p) (length c)) (o : NextOut) (e : o ≡ read_all s.state p c) where
  -- the session after it
  abbrev stepped : Session
  stepped = with_tally (with_state s o.0.state) (tallied s.tally o.0.event)

  next-read : next_of s.state p c ≡ o
  next-read =
      next-reads s.state p c d.long ((and-eq-true_iff (is_reading s.phase) s.state.owed).0 d.owed).1 ∙ sym e

  -- where nothing waits, next is owed no more
  pub drains-paid : o.0.event ≡ Nothing → o.0.state.owed ≡ false
  drains-paid = rw (← e) at (read-paid p s.state c)

  module _ (i : is_line o.0.event ≡ true) where
    pub drains-on : Drains stepped (length p) (length o.1)
    drains-on =
        let n = rw (← next-read) at i in
        let w = rw next-read at (next-owes p s.state c n) in
        let k = rw next-read at (next-calm s.state p c) in
        record { owed = rw w d.owed; long = rw (k.config, k.size) d.long }

    pub drains-falls : waits o.0.state p < waits s.state p
    drains-falls = rw next-read at (next-falls p s.state c (rw (← next-read) at i))

  module _ (out : List ℕ) (at : ℕ) (room : roomy (length out) at ≡ true) (r : ℕ) (w : List ℕ)
      (l : (r, w) ≡ wrote out at (event_line s.tally o.0.event)) where
    pour_event : poured_of s p c out at
        ≡ pour_by o.0.event (with_state s o.0.state) o.1 out at (λ t d o a. poured_of t p d o a)
    pour_event = pour_next s p c out at (rw (d.owed, room)) o next-read

    pub pour_line : is_line o.0.event ≡ true → poured_of s p c out at ≡ poured_of stepped p o.1 w r
    pour_line i = pour_event ∙ rw (i, ← l)

    pub pour_last : is_line o.0.event ≡ false → poured_of s p c out at ≡ poured_at (closed stepped o.0.event) o.1 (r, w)
    pour_last i = pour_event ∙ rw (i, ← l)

module _ (t : Tally) (out : List ℕ) (at : ℕ) where
  pub finish_full : roomy (length out) at ≡ false → finished_of t out at ≡ (at, out)
  unfolding finished_of
  finish_full h = rw h

  pub finish_line : roomy (length out) at ≡ true → finished_of t out at ≡ wrote out at (last_line t)
  unfolding finished_of
  finish_line h = rw h
