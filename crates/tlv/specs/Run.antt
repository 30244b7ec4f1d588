-- Own live slots to TLV packets, over lists of bytes. Each slot has a label of any type; held bytes, and a packet, have the
-- labels of the slots that they came from.
use Rattle.std.specs.Prelude.{ℕ, Bool, true, false, List, [], ◌∷◌, ◌++◌, map, take, drop, eqb}
use Rattle.tlv.specs.declared.held.Continuation.{Continuation}
use Rattle.tlv.specs.declared.note.SlotNote.{SlotNote}
use Rattle.tlv.specs.declared.note.SlotNote.TheVariants.{Lost, Unsound, TooLong}
use Rattle.tlv.specs.declared.held.Continuation.TheVariants.{Dropped, Ends, GoesOn}
use Rattle.tlv.specs.Packet.{cut, too_long}
use Rattle.tlv.specs.Slot.{none, sound}
use Rattle.tlv.specs.Held.{continuation_of}
use Rattle.tlv.specs.Notes.{number_of}

-- an own live slot: its pointers and its data
pub record Slot : Type 0 where
  pub top : ℕ
  pub last : ℕ
  pub bytes : List ℕ

abbrev pub without_top : Slot → Bool
without_top s = eqb s.top none

module _ (A : Type 0) where
  pub record Labelled : Type 0 where
    pub labels : List A
    pub bytes : List ℕ

  pub data Event : Type 0 where
    note : ℕ → Event
    packet : Labelled → Event

  -- "State: searching (fresh), or held bytes of a packet (perhaps none)"
  pub data State : Type 0 where
    searching : State
    held : List A → List ℕ → State

  pub record Stepped : Type 0 where
    pub state : State
    pub events : List Event

  -- what comes: a lost own live slot, or one with its label
  pub data Arrival : Type 0 where
    lost : Arrival
    given : A → Slot → Arrival

module _ {A : Type 0} where
  abbrev pub packet_of : List A → List ℕ → Event A
  packet_of ls b = packet (record { labels = ls; bytes = b })

  abbrev pub noted : SlotNote → List (Event A)
  noted n = note (number_of n) ∷ []

  abbrev pub after : List (Event A) → Stepped A → Stepped A
  after es r = record { state = r.state; events = es ++ r.events }

  abbrev pub stops : List (Event A) → Stepped A
  stops es = record { state = searching; events = es }

  -- "a tail is held, but one whose known total is above 16,384 gives 43"
  unfoldable pub kept : Bool → A → List ℕ → Stepped A
  kept true a b = stops (noted TooLong)
  kept false a b = record { state = held (a ∷ []) b; events = [] }

  -- "Then packets are read from t": by whether there is no top pointer
  unfoldable pub read_from : Bool → A → Slot → Stepped A
  read_from true a s = stops []
  read_from false a s =
      let c = cut (drop s.top s.bytes) in
      after (map (packet_of (a ∷ [])) c.packets) (kept (too_long c.tail) a c.tail)

  -- the held packet, if there is one, with the bytes that complete it
  unfoldable pub finished : List A → List ℕ → A → List ℕ → List (Event A)
  finished ls [] a b = []
  finished ls (x ∷ h) a b = packet_of (ls ++ (a ∷ [])) ((x ∷ h) ++ b) ∷ []

  -- a sound slot comes to held bytes: by what becomes of their packet, and by whether there is no top pointer
  unfoldable pub resumed : Continuation → Bool → List A → List ℕ → A → Slot → Stepped A
  resumed (Dropped x) n ls h a s = after (noted x) (read_from n a s)
  resumed (Ends e) true ls h a s = record { state = held [] []; events = finished ls h a (take e s.bytes) }
  resumed (Ends e) false ls h a s = after (finished ls h a (take e s.bytes)) (read_from false a s)
  resumed GoesOn n ls h a s = record { state = held (ls ++ (a ∷ [])) (h ++ s.bytes); events = [] }

  -- by whether the slot is sound; "an unsound one gives 41, makes it searching, and nothing is read from it"
  unfoldable pub arrived : Bool → State A → A → Slot → Stepped A
  arrived false st a s = stops (noted Unsound)
  arrived true searching a s = read_from (without_top s) a s
  arrived true (held ls h) a s = resumed (continuation_of h s.bytes s.top s.last) (without_top s) ls h a s

  -- "A lost slot makes it searching, with note 40 if it wasn't"
  unfoldable pub step : State A → Arrival A → Stepped A
  step searching lost = stops []
  step (held ls h) lost = stops (noted Lost)
  step searching (given a s) = arrived (sound s.bytes s.top s.last) searching a s
  step (held ls h) (given a s) = arrived (sound s.bytes s.top s.last) (held ls h) a s

  unfoldable pub run : State A → List (Arrival A) → List (Event A)
  run st [] = []
  run st (x ∷ xs) = (step st x).events ++ run (step st x).state xs

  unfoldable pub state_after : State A → List (Arrival A) → State A
  state_after st [] = st
  state_after st (x ∷ xs) = state_after (step st x).state xs

  abbrev pub packets : List (Event A) → List (Labelled A)
  packets [] = []
  packets (note n ∷ es) = packets es
  packets (packet p ∷ es) = p ∷ packets es

  -- no note among events
  abbrev pub Clean : List (Event A) → Type 0
  Clean [] = Unit {0}
  Clean (note n ∷ es) = ⊥
  Clean (packet p ∷ es) = Clean es

  -- every slot given
  abbrev pub intact : List (A × Slot) → List (Arrival A)
  intact [] = []
  intact (x ∷ xs) = given x.0 x.1 ∷ intact xs

  abbrev pub arrival : Bool → A × Slot → Arrival A
  arrival true x = given x.0 x.1
  arrival false x = lost

  -- the slots whose label is not kept are lost
  abbrev pub damaged : (A → Bool) → List (A × Slot) → List (Arrival A)
  damaged keep [] = []
  damaged keep (x ∷ xs) = arrival (keep x.0) x ∷ damaged keep xs
