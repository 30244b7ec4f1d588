-- What is claimed of a slot in packet memory: what its cursor has yet to give, and what it leaves held, is what the slot
-- comes to over lists; and next takes that from the cursor piece by piece.
use Rattle.std.specs.Prelude.{ℕ, ◌-◌, ◌≤◌, ◌<◌, ◌≡◌, true, false, List, [], ◌∷◌, map, length}
use Rattle.wire.specs.Memory.{part_of}
use Rattle.tmcc.specs.declared.layout.Pointers.{Pointers}
use Rattle.tlv.specs.Run.{Slot, State as Slot-state, searching as slot-searching, held, Stepped, lost, given, step}
use Rattle.reassembly.specs.declared.config.Config.{Config}
use Rattle.reassembly.specs.Run.{Lane}
use Rattle.delivery.specs.Found.{Found}
use Rattle.queue.specs.Event.{Event as AnEvent}
use Rattle.queue.specs.Event.{Nothing, Note, Unit as Given-unit, Refused}
use Rattle.delivery.specs.Found.{Event, Packet, Tail, Done}
use Rattle.intake.specs.declared.held.Cursor.{Cursor}
use Rattle.state.specs.State.{Frame, State}
use Rattle.intake.specs.declared.held.Held.{Held}
use Rattle.intake.specs.Slot.{searching, holding, noted, slot_area}
use Rattle.delivery.specs.Cursor.{advanced_of, left}
use Rattle.frames.specs.Frame.{loss_of}
use Rattle.frames.specs.Slot.{counted, own_of}
use Rattle.broadcast.specs.Drains.{HeldIs, Tracks}
use Rattle.broadcast.specs.Pending.{slot-notes, a-packet, bare, cursor_pending, cursor_leaves}

-- the held bytes have room before the slot in packet memory
abbrev pub Short : {A : Type 0} → Slot-state A → Type 0
Short slot-searching = Unit {0}
Short (held ls b) = length b ≤ slot_area

-- a cursor as slots make it and next moves it: it stands inside the memory, nothing is held while a slot is being read, and
-- it has no place afterwards
pub record CursorGood (c : Cursor) (h : Held) (p : List ℕ) : Type 0 where
  pub packet-inside : c.packet ≤ length p
  pub slot-inside : c.reading ≡ true → (c.at ≤ c.end) × (c.end ≤ length p)
  pub held_none : c.reading ≡ true → h ≡ searching
  pub placeless : c.reading ≡ false → (c.at ≡ 0) × (c.end ≡ 0)

-- what cursor c has yet to give and leaves held, with packet memory p and held bytes h, is what w says
pub record Same {A : Type 0} (c : Cursor) (h : Held) (p : List ℕ) (w : Stepped A) : Type 0 where
  pub gives : cursor_pending c p ≡ map bare w.events
  pub leaves : HeldIs (cursor_leaves c h p) p w.state
  pub short : Short w.state
  pub good : CursorGood c h p

-- a slot, given or lost, was taken, and next is owed: the state and packet memory r that it leaves come to what w says, and
-- the rest of the state is that of st, but for the frame f
pub record Reads {A : Type 0} (st : State) (f : Frame) (p : List ℕ) (r : State × List ℕ) (w : Stepped A) : Type 0 where
  pub slot : Same r.0.cursor r.0.held r.1 w
  pub same_length : length r.1 ≡ length p
  pub config : r.0.config ≡ st.config
  pub frame : r.0.frame ≡ f
  pub owed : r.0.owed ≡ true
  pub queue : r.0.queue ≡ st.queue
  pub channels : r.0.channels ≡ st.channels

abbrev pub slot_from : List ℕ → Pointers → Slot
slot_from d t = record { top = t.0; last = t.1; bytes = d }

-- an own live slot with its data
abbrev pub OwnSlot : Type 1
OwnSlot = (A : Type 0) (a : A) (cfg : Config) (st : State) (p c : List ℕ) (tl : Slot-state A) (f : ℕ → Lane (List A))
    → Tracks cfg st p c tl f → Short tl → (d : List ℕ) → length d ≤ 5049 → (t : Pointers)
    → Reads st (counted st).frame p (own_of (counted st) p d t) (step tl (given a (slot_from d t)))

-- a lost one, and a lost frame: packet memory stays as it is
abbrev pub LostSlot : Type 1
LostSlot = (A : Type 0) (cfg : Config) (st : State) (p c : List ℕ) (tl : Slot-state A) (f : ℕ → Lane (List A))
    → Tracks cfg st p c tl f → Reads st (counted st).frame p (loss_of (counted st), p) (step tl lost)

abbrev pub LostFrame : Type 1
LostFrame = (A : Type 0) (cfg : Config) (st : State) (p c : List ℕ) (tl : Slot-state A) (f : ℕ → Lane (List A))
    → Tracks cfg st p c tl f → Reads st st.frame p (loss_of st, p) (step tl lost)

-- one step of next over the cursor c, with packet memory p and held bytes h, by what it finds; c' is the cursor past that

-- a note of the slot
pub record NoteNext (n : ℕ) (c c' : Cursor) (h : Held) (p : List ℕ) : Type 0 where
  pub gives : cursor_pending c p ≡ slot-notes n ∷ cursor_pending c' p
  pub leaves : cursor_leaves c h p ≡ cursor_leaves c' h p
  pub good : CursorGood c' h p

-- a packet, from s up to e
pub record PacketNext (s e : ℕ) (c c' : Cursor) (h : Held) (p : List ℕ) : Type 0 where
  pub ordered : s ≤ e
  pub inside : e ≤ length p
  pub gives : cursor_pending c p ≡ a-packet (part_of p s (e - s)) ∷ cursor_pending c' p
  pub leaves : cursor_leaves c h p ≡ cursor_leaves c' h p
  pub good : CursorGood c' h p
  pub falls : left c' < left c

-- a tail, l bytes from s, which is held from then on
pub record TailNext (s l : ℕ) (c c' : Cursor) (h : Held) (p : List ℕ) : Type 0 where
  pub gives : cursor_pending c p ≡ []
  pub gives_more : cursor_pending c' p ≡ []
  pub leaves : cursor_leaves c h p ≡ holding s l
  pub leaves-more : cursor_leaves c' (holding s l) p ≡ holding s l
  pub good : CursorGood c' (holding s l) p
  pub falls : left c' < left c

-- nothing more
pub record DoneNext (c c' : Cursor) (h : Held) (p : List ℕ) : Type 0 where
  pub gives : cursor_pending c p ≡ []
  pub leaves : cursor_leaves c h p ≡ h
  pub stays : c' ≡ c
  pub over : c ≡ noted 0

-- of events the cursor gives only notes, which have no packet_id
abbrev pub Gives : AnEvent → Cursor → Cursor → Held → List ℕ → Type 0
Gives Nothing c c' h p = ⊥
Gives (Note n id) c c' h p = (id ≡ 0) × NoteNext n c c' h p
Gives (Given-unit g) c c' h p = ⊥
Gives (Refused n) c c' h p = ⊥

abbrev pub Advances : Found → Cursor → Cursor → Held → List ℕ → Type 0
Advances (Event e) c c' h p = Gives e c c' h p
Advances (Packet s e) c c' h p = PacketNext s e c c' h p
Advances (Tail s l) c c' h p = TailNext s l c c' h p
Advances Done c c' h p = DoneNext c c' h p

abbrev pub Advance : Type 0
Advance = (c : Cursor) (h : Held) (p : List ℕ) → CursorGood c h p
    → Advances (advanced_of c p).found c (advanced_of c p).cursor h p
