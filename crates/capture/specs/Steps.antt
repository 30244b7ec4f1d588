-- What the functions of a capture answer and leave: the definition's lines, written to a memory while there is room.
use Rattle.std.specs.Prelude.{◌≡◌, ℕ, zero, suc, ◌+◌, Bool, true, false, cond, ◌&&◌, List, length, nat_le}
use Rattle.queue.specs.Event.{Event}
use Rattle.frames.specs.Slot.{short_by}
use Rattle.receiver.specs.Next.{next_of}
use Rattle.capture.specs.Session.{Progress, Session, busy, with_state, with_tally}
use Rattle.capture.specs.declared.session.Tally.{Tally}
use Rattle.lines.specs.Text.{wrote}
use Rattle.lines.specs.Line.{longest_line, is_line}
use Rattle.capture.specs.Waits.{waits}
use Rattle.capture.specs.Capture.{done_of, event_line, tallied, closed, last_line}

-- a command carried out with its line written to `out`: what the function answers and leaves
unfoldable pub acted_of : Session → List ℕ → List ℕ → List ℕ → List ℕ → ℕ → Progress × List ℕ × List ℕ
acted_of s p c b out at =
    let d = done_of s p c b in
    let w = wrote out at d.text in
    (record { session = d.session; at = w.0 }, d.packet, w.1)

-- there is room for a longest line
abbrev pub roomy : ℕ → ℕ → Bool
roomy size at = nat_le (at + longest_line) size

-- what calling next leaves: the session and the place behind the lines, collecting memory, and the lines in `out`
abbrev pub Poured : Type 0
Poured = Progress × List ℕ × List ℕ

abbrev pub poured_at : Session → List ℕ → ℕ × List ℕ → Poured
poured_at s c w = (record { session = s; at = w.0 }, c, w.1)

-- after an event, `s` having the state that next left; `on` goes on from there
abbrev pub pour_by : Event → Session → List ℕ → List ℕ → ℕ → (Session → List ℕ → List ℕ → ℕ → Poured) → Poured
pour_by e s c out at on =
    let t = with_tally s (tallied s.tally e) in
    let w = wrote out at (event_line s.tally e) in
    cond (is_line e) (on t c w.1 w.0) (poured_at (closed t e) c w)

-- next is owed, and the memories are long enough for it
pub record Drains (s : Session) (packet collecting : ℕ) : Type 0 where
  pub owed : busy s ≡ true
  pub long : short_by s.state.config packet collecting ≡ false

-- next, until nothing waits or there is no room; `f` bounds the calls
unfoldable pub poured_by : ℕ → Session → List ℕ → List ℕ → List ℕ → ℕ → Poured
poured_by zero s p c out at = poured_at s c (at, out)
poured_by (suc f) s p c out at =
    let r = next_of s.state p c in
    cond (busy s && roomy (length out) at)
    (pour_by r.0.event (with_state s r.0.state) r.1 out at (λ t d o a. poured_by f t p d o a))
    (poured_at s c (at, out))

unfoldable pub poured_of : Session → List ℕ → List ℕ → List ℕ → ℕ → Poured
poured_of s p c out at = poured_by (suc (waits s.state p)) s p c out at

-- the last line, where there is room for it
unfoldable pub finished_of : Tally → List ℕ → ℕ → ℕ × List ℕ
finished_of t out at = cond (roomy (length out) at) (wrote out at (last_line t)) (at, out)
