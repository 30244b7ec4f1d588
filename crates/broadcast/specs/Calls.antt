-- Lists of calls, and the reading of a list of frames that they make up.
use Rattle.std.specs.Prelude.{ℕ, ◌≡◌, cond, List, [], ◌∷◌, ◌++◌, length, eqb}
use Rattle.queue.specs.Event.{Event}
use Rattle.queue.specs.Event.{Nothing, Note, Unit, Refused}
use Rattle.queue.specs.declared.event.Given.{Given}
use Rattle.state.specs.State.{State}
use Rattle.frames.specs.Frame.{frame_of, lost_frame_of}
use Rattle.frames.specs.Slot.{slot_of, lost_slot_of}
use Rattle.receiver.specs.Next.{next_of}
use Rattle.broadcast.specs.Drains.{Shown, note, shown}

-- the receiver's state and both memories, as the last call returned or left them
pub record Machine : Type 0 where
  pub state : State
  pub packet : List ℕ
  pub collecting : List ℕ

pub data Call : Type 0 where
  frame : List ℕ → Call
  lost-frame : Call
  slot : List ℕ → Call
  lost-slot : Call
  next : Call

pub data Answer : Type 0 where
  accepted : Answer
  refused : ℕ → Answer
  nothing : Answer
  noted : ℕ → ℕ → Answer
  given : Given → Answer

pub record Did : Type 0 where
  pub answer : Answer
  pub machine : Machine

-- 0 says that a call was accepted
abbrev pub numbered : ℕ → Answer
numbered n = cond (eqb n 0) accepted (refused n)

abbrev pub event_answer : Event → Answer
event_answer Nothing = nothing
event_answer (Note n id) = noted n id
event_answer (Unit g) = given g
event_answer (Refused n) = refused n

abbrev pub with_state : Machine → State → Machine
with_state m st = record { state = st; packet = m.packet; collecting = m.collecting }

-- what a call answers, and what it leaves
unfoldable pub did : Call → Machine → Did
did (frame b) m =
    let r = frame_of m.state b in
    record { answer = numbered r.refusal; machine = with_state m r.state }
did lost-frame m =
    let r = lost_frame_of m.state in
    record { answer = numbered r.refusal; machine = with_state m r.state }
did (slot d) m =
    let r = slot_of m.state m.packet m.collecting d in
    record {
      answer = numbered r.0.refusal;
      machine = record { state = r.0.state; packet = r.1; collecting = m.collecting };
    }
did lost-slot m =
    let r = lost_slot_of m.state (length m.packet) (length m.collecting) in
    record { answer = numbered r.refusal; machine = with_state m r.state }
did next m =
    let r = next_of m.state m.packet m.collecting in
    record {
      answer = event_answer r.0.event;
      machine = record { state = r.0.state; packet = m.packet; collecting = r.1 };
    }

-- a call in a list: the reading's own, its show of the unit just given, or an added one
pub data Made : Type 0 where
  own : Call → Made
  shows : Made
  added : Call → Made

-- what the protocol prescribes next: a call; next until nothing waits; show of a unit
pub data Todo : Type 0 where
  call : Call → Todo
  drain : Todo
  show : Given → Todo

-- after a call of next: a unit is shown, and next is called again until nothing waits
abbrev pub drain_after : Answer → List Todo → List Todo
drain_after accepted ts = ts
drain_after (refused n) ts = ts
drain_after nothing ts = ts
drain_after (noted n id) ts = drain ∷ ts
drain_after (given g) ts = show g ∷ drain ∷ ts

abbrev pub IsRefused : Answer → Type 0
IsRefused accepted = ⊥
IsRefused (refused n) = Prim.Unit {0}
IsRefused nothing = ⊥
IsRefused (noted n id) = ⊥
IsRefused (given g) = ⊥

-- the reading's own call is the one that is prescribed
abbrev pub Prescribed : List Todo → Call → Type 0
Prescribed [] c = ⊥
Prescribed (call d ∷ ts) c = c ≡ d
Prescribed (drain ∷ ts) c = c ≡ next
Prescribed (show g ∷ ts) c = ⊥

abbrev pub ShowDue : List Todo → Type 0
ShowDue [] = ⊥
ShowDue (call d ∷ ts) = ⊥
ShowDue (drain ∷ ts) = ⊥
ShowDue (show g ∷ ts) = Prim.Unit {0}

-- the call may stand here; an added call must be refused
abbrev pub Stands : List Todo → Made → Machine → Type 0
Stands ts (own c) m = Prescribed ts c
Stands ts shows m = ShowDue ts
Stands ts (added c) m = IsRefused (did c m).answer

-- what is prescribed after the reading's own call, which answered a
abbrev pub todo_after : List Todo → Answer → List Todo
todo_after [] a = []
todo_after (call d ∷ ts) a = ts
todo_after (drain ∷ ts) a = drain_after a ts
todo_after (show g ∷ ts) a = ts

abbrev pub rest : List Todo → Made → Machine → List Todo
rest ts (own c) m = todo_after ts (did c m).answer
rest ts shows m = todo_after ts accepted
rest ts (added c) m = ts

abbrev pub machine_after : Made → Machine → Machine
machine_after (own c) m = (did c m).machine
machine_after shows m = m
machine_after (added c) m = (did c m).machine

-- the machine after a list of calls
abbrev pub machine_after_all : Machine → List Made → Machine
machine_after_all m [] = m
machine_after_all m (x ∷ xs) = machine_after_all (machine_after x m) xs

-- the list of calls makes up the prescribed reading, to its end
abbrev pub Follows : List Todo → Machine → List Made → Type 0
Follows ts m [] = ts ≡ []
Follows ts m (x ∷ xs) = Stands ts x m × Follows (rest ts x m) (machine_after x m) xs

-- what a call shows: a note of next, or a unit with the bytes from show
abbrev pub note_shown : Answer → List Shown
note_shown accepted = []
note_shown (refused n) = []
note_shown nothing = []
note_shown (noted n id) = note n id ∷ []
note_shown (given g) = []

abbrev pub unit_shown : List Todo → Machine → List Shown
unit_shown [] m = []
unit_shown (call d ∷ ts) m = []
unit_shown (drain ∷ ts) m = []
unit_shown (show g ∷ ts) m = shown g m.packet m.collecting ∷ []

abbrev pub shows_of : List Todo → Made → Machine → List Shown
shows_of ts (own c) m = note_shown (did c m).answer
shows_of ts shows m = unit_shown ts m
shows_of ts (added c) m = []

-- the notes and units of a reading, in order
abbrev pub all_shown : List Todo → Machine → List Made → List Shown
all_shown ts m [] = []
all_shown ts m (x ∷ xs) = shows_of ts x m ++ all_shown (rest ts x m) (machine_after x m) xs

abbrev pub refusal_in : Answer → List ℕ
refusal_in accepted = []
refusal_in (refused n) = n ∷ []
refusal_in nothing = []
refusal_in (noted n id) = []
refusal_in (given g) = []

abbrev pub call_refusal : Made → Machine → List ℕ
call_refusal (own c) m = refusal_in (did c m).answer
call_refusal shows m = []
call_refusal (added c) m = []

-- the refusals of the reading's own calls
abbrev pub refusals : List Todo → Machine → List Made → List ℕ
refusals ts m [] = []
refusals ts m (x ∷ xs) = call_refusal x m ++ refusals (rest ts x m) (machine_after x m) xs
