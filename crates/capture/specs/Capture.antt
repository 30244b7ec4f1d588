-- The text of a capture: from its bytes to its lines.
use Rattle.std.specs.Prelude.{ℕ, zero, suc, Bool, true, false, cond, not, ◌&&◌, List, [], ◌++◌, length, take, drop, ◌==◌, slice_index}
use Rattle.queue.specs.Event.{Event}
use Rattle.queue.specs.Event.{Nothing, Note, Unit, Refused}
use Rattle.state.specs.State.{Called, State, with_owed, accepted}
use Rattle.state.specs.Start.{start_from}
use Rattle.frames.specs.Frame.{frame_of, lost_frame_of}
use Rattle.frames.specs.Slot.{slot_of, lost_slot_of}
use Rattle.receiver.specs.Next.{next_of}
use Rattle.capture.specs.declared.command.Letter.{Letter}
use Rattle.capture.specs.declared.command.Letter.TheVariants.{Start, Frame, LostFrame, Slot, LostSlot, Unknown}
use Rattle.capture.specs.declared.session.Phase.{Phase}
use Rattle.capture.specs.declared.session.Phase.TheVariants.{Before, Reading, Ended}
use Rattle.capture.specs.Session.{Session, is_ended, busy, with_state, in_phase, with_tally, in_frame, in_slot, with_unit, with_note, fresh_session}
use Rattle.capture.specs.declared.session.Tally.{Tally}
use Rattle.lines.specs.Line.{is_line, unit_line, note_line, refused_line, end_line}
use Rattle.capture.specs.Command.{letter_of, size_of, whole, config_of}
use Rattle.capture.specs.Waits.{waits}

-- "C comes first and once; another order counts as unknown"
abbrev pub fits : Phase → Letter → Bool
fits Before Start = true
fits Before Frame = false
fits Before LostFrame = false
fits Before Slot = false
fits Before LostSlot = false
fits Before Unknown = false
fits Reading Start = false
fits Reading Frame = true
fits Reading LostFrame = true
fits Reading Slot = true
fits Reading LostSlot = true
fits Reading Unknown = false
fits Ended l = false

-- the call that a command b makes, and packet memory after it
unfoldable pub call_of : Letter → State → List ℕ → List ℕ → List ℕ → Called × List ℕ
call_of Start st p c b = (start_from st (config_of b), p)
call_of Frame st p c b = (frame_of st (drop 1 b), p)
call_of LostFrame st p c b = (lost_frame_of st, p)
call_of Slot st p c b = slot_of st p c (drop 3 b)
call_of LostSlot st p c b = (lost_slot_of st (length p) (length c), p)
call_of Unknown st p c b = (accepted st, p)

-- a session whose call was accepted: a receiver that was started reads; "Frames count from 1, lost ones too; a lost frame's note
-- has slot 0"; a slot has the number of the slot that was due
unfoldable pub after_call : Letter → Session → Session
after_call Start s = in_phase s Reading
after_call Frame s = with_tally s (in_frame s.tally)
after_call LostFrame s = with_tally s (in_frame s.tally)
after_call Slot s = with_tally s (in_slot s.state.frame.at s.tally)
after_call LostSlot s = with_tally s (in_slot s.state.frame.at s.tally)
after_call Unknown s = s

-- a command that was carried out: its line, if it was refused, the session, and packet memory
pub record Done : Type 0 where
  pub text : List ℕ
  pub session : Session
  pub packet : List ℕ

-- accepted, or "a refusal (line `refused N`)"
abbrev pub settled : Letter → Called → Session → List ℕ → Done
settled l r s p =
    cond (r.refusal == 0) (record { text = []; session = after_call l (with_state s r.state); packet = p })
    (record { text = refused_line r.refusal; session = in_phase (with_state s r.state) Ended; packet = p })

-- a whole command b is carried out; an unknown one ends the capture
unfoldable pub done_of : Session → List ℕ → List ℕ → List ℕ → Done
done_of s p c b =
    let l = letter_of (slice_index b 0) in
    let called : Done = (let r = call_of l s.state p c b in settled l r.0 s r.1) in
    cond (fits s.phase l) called (record { text = []; session = in_phase s Ended; packet = p })

-- what calling next until nothing waits gives: its lines, the session, and collecting memory
pub record Drained : Type 0 where
  pub text : List ℕ
  pub session : Session
  pub collecting : List ℕ

abbrev pub behind : List ℕ → Drained → Drained
behind t d = record { text = t ++ d.text; session = d.session; collecting = d.collecting }

-- the line of an event
unfoldable pub event_line : Tally → Event → List ℕ
event_line t Nothing = []
event_line t (Note n id) = note_line t.frames t.slot n id
event_line t (Unit g) = unit_line t.frames t.slot g
event_line t (Refused n) = refused_line n

unfoldable pub tallied : Tally → Event → Tally
tallied t Nothing = t
tallied t (Note n id) = with_note t
tallied t (Unit g) = with_unit t
tallied t (Refused n) = t

-- the session after an event that is no line: nothing waits, or next was refused
unfoldable pub closed : Session → Event → Session
closed s Nothing = with_state s (with_owed s.state false)
closed s (Note n id) = s
closed s (Unit g) = s
closed s (Refused n) = in_phase s Ended

-- after an event, `s` having the state that next left; `on` goes on from there
abbrev pub event_by : Event → Session → List ℕ → (Session → List ℕ → Drained) → Drained
event_by e s c on =
    let t = with_tally s (tallied s.tally e) in
    let more : Drained = behind (event_line s.tally e) (on t c) in
    cond (is_line e) more (record { text = event_line s.tally e; session = closed t e; collecting = c })

-- `f` bounds the calls
unfoldable pub drained_by : ℕ → Session → List ℕ → List ℕ → Drained
drained_by zero s p c = record { text = []; session = s; collecting = c }
drained_by (suc f) s p c =
    let on : Drained =
    (let r = next_of s.state p c in
    event_by r.0.event (with_state s r.0.state) r.1 (λ t d. drained_by f t p d)) in
    cond (busy s) on (record { text = []; session = s; collecting = c })

unfoldable pub drained_of : Session → List ℕ → List ℕ → Drained
drained_of s p c = drained_by (suc (waits s.state p)) s p c

-- "last `end frames units notes`"
abbrev pub last_line : Tally → List ℕ
last_line t = end_line t.frames t.units t.notes

-- "It ends at the end, an unknown or cut command, or a refusal": whether a command is read
abbrev pub reads : Session → List ℕ → Bool
reads s b = whole b && not (is_ended s.phase)

-- the lines from a session on, with the bytes b to come; `f` bounds the commands
unfoldable pub text_by : ℕ → Session → List ℕ → List ℕ → List ℕ → List ℕ
text_by zero s p c b = let d = drained_of s p c in d.text ++ last_line d.session.tally
text_by (suc f) s p c b =
    let d : Drained = drained_of s p c in
    let on : List ℕ =
    (let k = done_of d.session p d.collecting (take (size_of b) b) in
    k.text ++ text_by f k.session k.packet d.collecting (drop (size_of b) b)) in
    d.text ++ cond (reads d.session b) on (last_line d.session.tally)

unfoldable pub text_of : Session → List ℕ → List ℕ → List ℕ → List ℕ
text_of s p c b = text_by (length b) s p c b

-- the capture's lines; what the memories hold first does not matter
unfoldable pub capture_of : List ℕ → List ℕ → List ℕ → List ℕ
capture_of p c b = text_of fresh_session p c b
