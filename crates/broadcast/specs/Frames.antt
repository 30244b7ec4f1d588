-- Lists of frames: how they are read, whole or damaged, and their own live slots.
use Rattle.std.specs.Prelude.{ℕ, suc, Bool, true, false, cond, ◌||◌, List, [], ◌∷◌, ◌++◌, ◌≡◌, length, get_or}
use Rattle.tmcc.specs.Layout.{Layout}
use Rattle.tmcc.specs.Block.{decode_of}
use Rattle.tlv.specs.Run.{Slot, Arrival, lost as lost-slot-arrives, given}
use Rattle.broadcast.specs.Calls.{Call, frame, lost-frame, slot, lost-slot, Todo, call, drain}

-- a control block, and the data of the 120 slots
pub record Frame : Type 0 where
  pub block : List ℕ
  pub slots : List (List ℕ)

abbrev pub Whole : List Frame → Type 0
Whole [] = Prim.Unit {0}
Whole (f ∷ fs) = (length f.slots ≡ 120) × Whole fs

-- which frames are reported lost, and which slots are marked lost; frames and slots are counted from 0
pub record Damage : Type 0 where
  pub frames : ℕ → Bool
  pub slots : ℕ → ℕ → Bool

abbrev pub none : Damage
none = record { frames = λ i. false; slots = λ i s. false }

-- a slot of frame i is lost if it is marked lost or its frame is reported lost
abbrev pub lost : Damage → ℕ × ℕ → Bool
lost d x = d.frames x.0 || d.slots x.0 x.1

abbrev pub slot_call : Bool → List ℕ → Call
slot_call true d = lost-slot
slot_call false d = slot d

-- the slots from number s on, each with next until nothing waits
unfoldable pub slots_todo : (ℕ → Bool) → ℕ → List (List ℕ) → List Todo
slots_todo gone s [] = []
slots_todo gone s (d ∷ ds) = call (slot_call (gone s) d) ∷ drain ∷ slots_todo gone (suc s) ds

-- "A frame is read by frame and slot 1 to 120 in order, or by lost frame"
abbrev pub frame_todo : Bool → (ℕ → Bool) → Frame → List Todo
frame_todo true gone f = call lost-frame ∷ drain ∷ []
frame_todo false gone f = call (frame f.block) ∷ slots_todo gone 0 f.slots

-- the reading of the frames from number i on
unfoldable pub reading : Damage → ℕ → List Frame → List Todo
reading d i [] = []
reading d i (f ∷ fs) = frame_todo (d.frames i) (d.slots i) f ++ reading d (suc i) fs

-- slot s of a frame with this layout: its pointers and its data
abbrev pub slot_at : Layout → ℕ → List ℕ → Slot
slot_at l s d = let t = get_or l.pointers s (record { 0 = 0; 1 = 0 }) in record { top = t.0; last = t.1; bytes = d }

-- x, if slot s is an own live one
abbrev pub if_own : {A : Type 0} → Layout → ℕ → A → List A
if_own l s x = cond (get_or l.own s false) (x ∷ []) []

-- the own live slots of a frame from number s on, labelled by frame and slot
unfoldable pub slots_from : Layout → ℕ → ℕ → List (List ℕ) → List ((ℕ × ℕ) × Slot)
slots_from l i s [] = []
slots_from l i s (d ∷ ds) = if_own l s ((i, s), slot_at l s d) ++ slots_from l i (suc s) ds

abbrev pub layout_in : ℕ → Frame → Layout
layout_in stream f = (decode_of f.block stream).layout

-- the own live slots of the frames from number i on, for the stream with this id
unfoldable pub own_slots : ℕ → ℕ → List Frame → List ((ℕ × ℕ) × Slot)
own_slots stream i [] = []
own_slots stream i (f ∷ fs) = slots_from (layout_in stream f) i 0 f.slots ++ own_slots stream (suc i) fs

abbrev pub arriving : Bool → ℕ × ℕ → Slot → Arrival (ℕ × ℕ)
arriving true x s = lost-slot-arrives
arriving false x s = given x s

-- what arrives of a frame's own live slots
unfoldable pub slots_arrive : Layout → (ℕ → Bool) → ℕ → ℕ → List (List ℕ) → List (Arrival (ℕ × ℕ))
slots_arrive l gone i s [] = []
slots_arrive l gone i s (d ∷ ds) = if_own l s (arriving (gone s) (i, s) (slot_at l s d)) ++ slots_arrive l gone i (suc s) ds

-- a lost frame is read as one lost own slot
abbrev pub frame_arrives : Bool → Layout → (ℕ → Bool) → ℕ → List (List ℕ) → List (Arrival (ℕ × ℕ))
frame_arrives true l gone i ds = lost-slot-arrives ∷ []
frame_arrives false l gone i ds = slots_arrive l gone i 0 ds

-- what arrives of the frames from number i on
unfoldable pub arrivals : ℕ → Damage → ℕ → List Frame → List (Arrival (ℕ × ℕ))
arrivals stream d i [] = []
arrivals stream d i (f ∷ fs) = frame_arrives (d.frames i) (layout_in stream f) (d.slots i) i f.slots ++ arrivals stream d (suc i) fs
