-- Why pouring writes the first of the lines that are owed: each call of next writes its line behind the others.
use Rattle.std.proofs.Common.{◌≡◌, ℕ, zero, suc, ◌+◌, ◌≤◌, Bool, true, false, ◌&&◌, List, [], ◌++◌, length, sym, refl, ◌∙◌, true≢false, append_assoc, append-nil, arith, length-append, leb-true}
use mathlib.Core.Bool.{and-false, and-eq-true_iff}
use Rattle.queue.specs.Event.{Event}
use Rattle.queue.specs.Event.{Nothing, Note, Unit, Refused}
use Rattle.wire.proofs.Choice.{by_test}
use Rattle.receiver.specs.Next.{next_of}
use Rattle.capture.specs.Session.{Session, is_reading, busy, with_state, with_tally}
use Rattle.lines.specs.Text.{wrote}
use Rattle.lines.proofs.TextLaws.{wrote_none, wrote-end, length-wrote, wrote-append}
use Rattle.lines.specs.Line.{longest_line, is_line}
use Rattle.capture.specs.Waits.{waits}
use Rattle.capture.specs.Capture.{Drained, behind, event_by, event_line, tallied, closed, drained_of}
use Rattle.capture.specs.Steps.{Poured, poured_at, pour_by, roomy, poured_by, poured_of}
use Rattle.capture.specs.Claims.{Pours, PourClaim}
use Rattle.capture.proofs.Drains.{drain-step, drain-idle}
use Rattle.capture.proofs.Lines.{line_longest}

-- nothing was written
stays : (s : Session) (p c out : List ℕ) (at : ℕ) → at ≤ length out → Pours s p c out at (poured_at s c (at, out))
stays s p c out at h = record { text = []; written = sym (wrote_none out at); within = omega arith; owed = refl }

-- next is not owed any more after an event that is no line
pub closed-idle : (s : Session) (e : Event) → is_line e ≡ false → busy (closed s e) ≡ false
unfolding closed
closed-idle s Nothing i = and-false (is_reading s.phase)
closed-idle s (Note n id) i = absurd (true≢false i)
closed-idle s (Unit g) i = absurd (true≢false i)
closed-idle s (Refused n) i = refl

behind-behind : (s t : List ℕ) (d : Drained) → behind s (behind t d) ≡ behind (s ++ t) d
behind-behind s t d = rw (append_assoc s t d.text)

-- one call of next, and what goes on from there
module _ (s : Session) (p c out : List ℕ) (at : ℕ) (e : Event) (f : Session → List ℕ → List ℕ → ℕ → Poured)
    (b : let r = next_of s.state p c in
    drained_of s p c ≡ event_by e (with_state s r.0.state) r.1 (λ t d. drained_of t p d))
    (room : at + longest_line ≤ length out) where
  abbrev next : Session
  next = with_state s (next_of s.state p c).0.state

  abbrev after : Session
  after = with_tally next (tallied next.tally e)

  abbrev line : List ℕ
  line = event_line next.tally e

  pours-on : is_line e ≡ true
      → Pours after p (next_of s.state p c).1 (wrote out at line).1 (wrote out at line).0
      (f after (next_of s.state p c).1 (wrote out at line).1 (wrote out at line).0)
      → Pours s p c out at (pour_by e next (next_of s.state p c).1 out at f)
  pours-on i w =
      let n = line_longest next.tally e in
      let k = wrote-end out at line in
      let z = length-wrote out at line (omega arith) in
      let l = w.within in
      rw i
      (record {
        text = line ++ w.text;
        written = w.written ∙ wrote-append out at line w.text (omega arith);
        within = rw length-append (omega arith);
        owed = b ∙ rw (i, w.owed) (behind-behind line w.text _);
      })

  pours-last : is_line e ≡ false → Pours s p c out at (pour_by e next (next_of s.state p c).1 out at f)
  pours-last i =
      let n = line_longest next.tally e in
      let q = drain-idle (closed after e) p (next_of s.state p c).1 (closed-idle after e i) in
      rw i
      (record {
        text = line;
        written = refl;
        within = omega arith;
        owed = b ∙ rw (i, q, append-nil line);
      })

  -- either
  call : Pours after p (next_of s.state p c).1 (wrote out at line).1 (wrote out at line).0
      (f after (next_of s.state p c).1 (wrote out at line).1 (wrote out at line).0)
      → Pours s p c out at (pour_by e next (next_of s.state p c).1 out at f)
  call w = go (is_line e) refl
    where
      go : (t : Bool) → is_line e ≡ t → Pours s p c out at (pour_by e next (next_of s.state p c).1 out at f)
      go true i = pours-on i w
      go false i = pours-last i

module _ (s : Session) (p c out : List ℕ) (at : ℕ) (m : (busy s && roomy (length out) at) ≡ true) where
  roomed : at + longest_line ≤ length out
  roomed = leb-true (at + longest_line) (length out) ((and-eq-true_iff (busy s) _).0 m).1

  stepped : let r = next_of s.state p c in
      drained_of s p c ≡ event_by r.0.event (with_state s r.0.state) r.1 (λ t d. drained_of t p d)
  stepped = drain-step s p c ∙ rw ((and-eq-true_iff (busy s) (roomy (length out) at)).0 m).0

  -- the place behind a line lies in the memory
  behind-line : (e : Event) → (wrote out at (event_line s.tally e)).0 ≤ length (wrote out at (event_line s.tally e)).1
  behind-line e =
      let n = line_longest s.tally e in
      let h = roomed in
      rw (wrote-end out at (event_line s.tally e), length-wrote out at (event_line s.tally e) (omega arith)) (omega arith)

pour_by_lem : (f : ℕ) (s : Session) (p c out : List ℕ) (at : ℕ) → at ≤ length out → Pours s p c out at (poured_by f s p c out at)
unfolding poured_by
pour_by_lem zero s p c out at h = stays s p c out at h
pour_by_lem (suc f) s p c out at h =
    by_test (Pours s p c out at) (busy s && roomy (length out) at) _ _
    (λ m. let r = next_of s.state p c in
    let e = r.0.event in
    call s p c out at e (λ t d o a. poured_by f t p d o a) (stepped s p c out at m) (roomed s p c out at m)
    (pour_by_lem f _ p r.1 (wrote out at (event_line s.tally e)).1 (wrote out at (event_line s.tally e)).0
    (behind-line s p c out at m e)))
    (λ m. stays s p c out at h)

pub pour_claim : PourClaim
unfolding poured_of
pour_claim s p c out at h = pour_by_lem (suc (waits s.state p)) s p c out at h
