-- The meaning of a capture: its notes and units, each with its frame and slot, its refusal, and its totals. Its text is made of that.
use Rattle.std.specs.Prelude.{ℕ, zero, suc, cond, List, [], ◌∷◌, ◌++◌, length, get_or, take, drop, eqb}
use Rattle.queue.specs.Event.{Event}
use Rattle.queue.specs.Event.{Nothing, Note, Unit, Refused}
use Rattle.receiver.specs.Next.{next_of}
use Rattle.lines.specs.Line.{unit_text, note_line, refused_line}
use Rattle.capture.specs.Session.{Session, is_ended, busy, with_state, with_tally, fresh_session}
use Rattle.capture.specs.declared.session.Tally.{Tally}
use Rattle.capture.specs.Command.{letter_of, size_of}
use Rattle.capture.specs.Waits.{waits}
use Rattle.capture.specs.Capture.{fits, call_of, done_of, tallied, drained_of, reads, last_line}
use Rattle.broadcast.specs.Drains.{Shown, note, unit, shown}

-- a note, or a unit with all that it carries and the bytes that show returns, with the frame and slot of its line; `len` is the
-- length that next gave with the unit, 0 for a note
pub record Placed : Type 0 where
  pub frame : ℕ
  pub slot : ℕ
  pub shown : Shown
  pub len : ℕ

-- "It ends at the end, an unknown or cut command, or a refusal": `refusal` holds the number of that refusal, so at most one; `tally`
-- the frames, units and notes that were counted
pub record Meaning : Type 0 where
  pub events : List Placed
  pub refusal : List ℕ
  pub tally : Tally

-- what waited: the events that next gave until nothing waits, and its refusal, so at most one number
pub record Waited : Type 0 where
  pub events : List Placed
  pub refusals : List ℕ

abbrev pub nothing_waited : Waited
nothing_waited = record { events = []; refusals = [] }

abbrev pub placed_as : Tally → Shown → ℕ → Placed
placed_as t s n = record { frame = t.frames; slot = t.slot; shown = s; len = n }

-- one event of next, and what waited behind it
abbrev pub waited_then : Event → Tally → List ℕ → List ℕ → Waited → Waited
waited_then Nothing t p c on = nothing_waited
waited_then (Note n id) t p c on = record { events = placed_as t (note n id) 0 ∷ on.events; refusals = on.refusals }
waited_then (Unit g) t p c on = record { events = placed_as t (shown g p c) g.place.len ∷ on.events; refusals = on.refusals }
waited_then (Refused n) t p c on = record { events = []; refusals = n ∷ [] }

-- the session after an event
abbrev pub after_next : Session → List ℕ → List ℕ → Session
after_next s p c =
    let r = next_of s.state p c in
    with_tally (with_state s r.0.state) (tallied s.tally r.0.event)

-- `f` bounds the calls of next
unfoldable pub waited_by : ℕ → Session → List ℕ → List ℕ → Waited
waited_by zero s p c = nothing_waited
waited_by (suc f) s p c =
    let r = next_of s.state p c in
    let on : Waited = waited_then r.0.event s.tally p r.1 (waited_by f (after_next s p c) p r.1) in
    cond (busy s) on nothing_waited

unfoldable pub waited_of : Session → List ℕ → List ℕ → Waited
waited_of s p c = waited_by (suc (waits s.state p)) s p c

-- the refusal of a whole command b: at most one number, and none where its call is not made
unfoldable pub command_refusal : Session → List ℕ → List ℕ → List ℕ → List ℕ
command_refusal s p c b =
    let l = letter_of (get_or b 0 0) in
    let r = (call_of l s.state p c b).0.refusal in
    cond (fits s.phase l) (cond (eqb r 0) [] (r ∷ [])) []

abbrev pub events_first : List Placed → Meaning → Meaning
events_first es m = record { events = es ++ m.events; refusal = m.refusal; tally = m.tally }

-- no event any more
abbrev pub no_more : Session → List ℕ → Meaning
no_more s rs = record { events = []; refusal = rs; tally = s.tally }

-- from a session on, with the bytes b to come; `f` bounds the commands
unfoldable pub meaning_by : ℕ → Session → List ℕ → List ℕ → List ℕ → Meaning
meaning_by zero s p c b =
    let g = waited_of s p c in
    events_first g.events (no_more (drained_of s p c).session g.refusals)
meaning_by (suc f) s p c b =
    let g = waited_of s p c in
    let d = drained_of s p c in
    let x = take (size_of b) b in
    let k = done_of d.session p d.collecting x in
    let on : Meaning = meaning_by f k.session k.packet d.collecting (drop (size_of b) b) in
    let last : Meaning = no_more k.session (command_refusal d.session p d.collecting x) in
    let went : Meaning = cond (is_ended k.session.phase) last on in
    let none : Meaning = no_more d.session g.refusals in
    events_first g.events (cond (reads d.session b) went none)

-- the meaning of the capture b, read with packet memory p and collecting memory c
unfoldable pub meaning_of : List ℕ → List ℕ → List ℕ → Meaning
meaning_of p c b = meaning_by (length b) fresh_session p c b

-- "Lines: `frame slot unit id kind psn mpu length`, `frame slot note number id`"
abbrev pub line_by : Shown → ℕ → ℕ → ℕ → List ℕ
line_by (note n id) f s l = note_line f s n id
line_by (unit u) f s l = unit_text f s u.info l

unfoldable pub lines_of : List Placed → List ℕ
lines_of [] = []
lines_of (e ∷ es) = line_by e.shown e.frame e.slot e.len ++ lines_of es

-- "line `refused N`", of at most one number
abbrev pub refused_lines : List ℕ → List ℕ
refused_lines [] = []
refused_lines (n ∷ ns) = refused_line n

-- its text: the lines of the events, the refusal's, and "last `end frames units notes`"
unfoldable pub meaning_text : Meaning → List ℕ
meaning_text m = lines_of m.events ++ (refused_lines m.refusal ++ last_line m.tally)

-- the notes and units alone, as a reading of calls shows them
abbrev pub shown_in : List Placed → List Shown
shown_in [] = []
shown_in (e ∷ es) = e.shown ∷ shown_in es

-- how many notes there are
abbrev pub note_count : List Shown → ℕ
note_count [] = 0
note_count (note n id ∷ es) = suc (note_count es)
note_count (unit u ∷ es) = note_count es
