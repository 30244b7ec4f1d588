-- A small broadcast that meets all that demand 3 assumes, and what is left of it with one slot or one frame lost: three frames,
-- two own live slots each. (Two notes in one slot: `torn` of Example.)
use Rattle.std.specs.Prelude.{ℕ, zero, suc, ◌/◌, ◌%◌, ◌≡◌, true, false, ◌&&◌, List, [], ◌∷◌, ◌++◌, eqb, length, take, drop, replicate}
use Rattle.tmcc.specs.Layout.{Layout}
use Rattle.tmcc.specs.Block.{decode_of}
use Rattle.reassembly.specs.declared.config.Config.{Config}
use Rattle.reassembly.specs.Run.{Content}
use Rattle.state.specs.Start.{start_of}
use Rattle.broadcast.specs.Carried.{Few}
use Rattle.broadcast.specs.Drains.{Shown, note, unit}
use Rattle.intake.specs.Slot.{held_bytes}
use Rattle.broadcast.specs.Calls.{frame, slot, next, Made, own, machine_after_all}
use Rattle.broadcast.specs.Frames.{Frame, Whole, Damage, none}
use Rattle.broadcast.specs.Demand3.{started, Reads, shown_of, refused_of, NoNote, units_of, slots_of}
use Rattle.broadcast.specs.Example.{packet, first, last, content, joined}

-- stream 0x0102, CID 2, packet_ids 17 and 18, units of up to 100 bytes
unfoldable pub config : Config
config = record { stream = 0x0102; cid = 2; watch = record { ids = 17 ∷ 18 ∷ replicate 14 0; n = 2 }; rules = record { limit = 100 } }

abbrev pub repeated : {A : Type 0} → ℕ → List A → List A
repeated zero xs = []
repeated (suc n) xs = xs ++ repeated n xs

-- BPSK 1/3 over 120 slots, so the first of each five is live and has 1,870 bytes, and seven unused modes
abbrev modes : List ℕ
modes = (0x11 ∷ 120 ∷ 0 ∷ []) ++ repeated 7 (0xff ∷ 0 ∷ 0 ∷ [])

-- slot 0 has top 0 and last 1,869, slot 5 has top 22 and last 1,870
abbrev pointers : List ℕ
pointers = (0 ∷ 0 ∷ 0x07 ∷ 0x4d ∷ replicate 16 0) ++ (0 ∷ 22 ∷ 0x07 ∷ 0x4e ∷ replicate 456 0)

-- slots 0 and 5 are of relative stream 0, all others of relative stream 1
abbrev streams : List ℕ
streams = 0x01 ∷ 0x11 ∷ 0x10 ∷ replicate 57 0x11

-- relative stream 0 is of type TLV and has the id 0x0102, relative stream 1 is of type TLV and has the id 0x0103
unfoldable pub block : List ℕ
block =
    (0 ∷ modes) ++ (2 ∷ 2 ∷ replicate 126 0) ++ pointers ++ streams ++ (1 ∷ 2 ∷ 1 ∷ 3 ∷ replicate 481 0)

-- the layout that it gives
abbrev pub layout : Layout
layout =
    record {
      pointers =
          (record { 0 = 0; 1 = 1869 } ∷ replicate 4 (record { 0 = 0; 1 = 0 }))
          ++ (record { 0 = 22; 1 = 1870 } ∷ replicate 114 (record { 0 = 0; 1 = 0 }));
      lengths = repeated 24 (1870 ∷ replicate 4 0);
      own = (true ∷ replicate 4 false) ++ (true ∷ replicate 114 false);
    }

-- a null packet with n bytes behind its header
abbrev null_of : ℕ → List ℕ
null_of n = 0x7f ∷ 0xff ∷ n / 256 ∷ n % 256 ∷ replicate n 0xff

-- packet x, a null packet, and the first header byte of packet y; the rest of y, and a null packet
unfoldable pub opening : List ℕ → List ℕ → List ℕ
opening x y = x ++ null_of 1842 ++ take 1 y

unfoldable pub closing : List ℕ → List ℕ
closing y = drop 1 y ++ null_of 1844

-- a live slot and four dummies
abbrev five : List ℕ → List (List ℕ)
five d = d ∷ replicate 4 []

-- slots 0 and 5, and the other stream's 22 live slots
unfoldable pub slots_over : List ℕ → List ℕ → List (List ℕ)
slots_over a b = five a ++ five b ++ repeated 22 (five (replicate 1870 0))

abbrev pub frame_over : List ℕ → List ℕ → Frame
frame_over x y = record { block = block; slots = slots_over (opening x y) (closing y) }

-- a packet of packet_id 17 with a whole unit of two bytes
abbrev pub alone : ℕ → List ℕ
alone psn = packet 17 psn 0 0 (psn ∷ psn ∷ [])

-- packet_id 18 opens a unit in frame 0 and ends it in frame 2; packet_id 17 has a whole unit in each other packet
unfoldable pub frames : List Frame
frames = frame_over first (alone 9) ∷ frame_over (alone 10) (alone 11) ∷ frame_over (last 6) (alone 12) ∷ []

-- memories of the least lengths that suffice, whatever they hold
abbrev pub Memories : List ℕ → List ℕ → Type 0
Memories p c = (length p ≡ 21433) × (length c ≡ 200)

-- what demand 3 assumes of a broadcast and of an undamaged reading of it
pub record Assumed (cfg : Config) (fs : List Frame) (p c : List ℕ) (xs : List Made) : Type 0 where
  pub accepted : (start_of cfg).refusal ≡ 0
  pub whole-frames : Whole fs
  pub reads : Reads cfg fs none p c xs
  pub none-refused : refused_of cfg fs none p c xs ≡ []
  pub no_note : NoNote (shown_of cfg fs none p c xs)
  pub few : Few cfg (slots_of cfg fs)

-- there is such a reading of this one
abbrev pub Met : Type 0
Met = (p c : List ℕ) → Memories p c → (xs : List Made) × Assumed config frames p c xs

-- the units
abbrev pub whole : ℕ → Content
whole psn = content 17 psn (psn ∷ psn ∷ [])

-- each reading with this damage shows es, and there is one
abbrev pub Shows : Damage → List Shown → Type 0
Shows d es =
    (p c : List ℕ) → Memories p c
    → ((ys : List Made) → Reads config frames d p c ys
    → (shown_of config frames d p c ys ≡ es) × (refused_of config frames d p c ys ≡ []))
    × ((ys : List Made) × Reads config frames d p c ys)

-- slot 5 of frame 0 is marked lost; frame 1 is reported lost
abbrev pub slot_lost : Damage
slot_lost = record { frames = λ i. false; slots = λ i s. eqb i 0 && eqb s 5 }

abbrev pub frame_lost : Damage
frame_lost = record { frames = λ i. eqb i 1; slots = λ i s. false }

abbrev pub Undamaged : Type 0
Undamaged = Shows none (unit (whole 9) ∷ unit (whole 10) ∷ unit (whole 11) ∷ unit joined ∷ unit (whole 12) ∷ [])

-- the unit whose packet the slot ended is gone, though its first byte came; the open unit of packet_id 18 is kept
abbrev pub SlotLost : Type 0
SlotLost = Shows slot_lost (note 40 0 ∷ unit (whole 10) ∷ unit (whole 11) ∷ unit joined ∷ unit (whole 12) ∷ [])

-- both units of the frame are gone; the open unit of packet_id 18 is kept over it
abbrev pub FrameLost : Type 0
FrameLost = Shows frame_lost (unit (whole 9) ∷ note 40 0 ∷ unit joined ∷ note 60 17 ∷ unit (whole 12) ∷ [])

-- and demand 3 says the same of the units
abbrev pub Remain : Damage → List Content → Type 0
Remain d us =
    (p c : List ℕ) → Memories p c → (ys : List Made) → Reads config frames d p c ys
    → units_of (shown_of config frames d p c ys) ≡ us

-- HeldHeaders is not empty: read up to its slot 0, frame 0 leaves the first header byte of a packet held
abbrev pub ByteHeld : Type 0
ByteHeld =
    (p c : List ℕ) → Memories p c
    → let m = machine_after_all (started config p c) (own (frame block) ∷ own (slot (opening first (alone 9))) ∷ own next ∷ []) in
    (m.state.held.on ≡ true) × (held_bytes m.state.held m.packet ≡ 0x7f ∷ [])

abbrev pub BroadcastClaims : Type 0
BroadcastClaims =
    -- the block's layout
    (decode_of block 0x0102 ≡ record { refusal = 0; layout = layout })
    -- the assumptions are met, and there are such memories
    × Met
    × Memories (replicate 21433 0) (replicate 200 0)
    -- the conclusions
    × Undamaged
    × SlotLost
    × FrameLost
    × Remain slot_lost (whole 10 ∷ whole 11 ∷ joined ∷ whole 12 ∷ [])
    × Remain frame_lost (whole 9 ∷ joined ∷ whole 12 ∷ [])
    × ByteHeld
