-- The example's run comes back: its 13 slots are the own live slots of one frame, and a reading of the frame shows the six units.
use Rattle.std.specs.Prelude.{ℕ, ◌≤◌, ◌≡◌, List, [], ◌∷◌, ◌++◌, map, length, replicate}
use Rattle.wire.specs.Field.{bytes_of}
use Rattle.tlv.specs.Run.{Slot}
use Rattle.cutter.specs.Claims.{slots_from}
use Rattle.intake.specs.Slot.{packet_memory}
use Rattle.broadcast.specs.Drains.{unit}
use Rattle.broadcast.specs.Calls.{Made}
use Rattle.broadcast.specs.Frames.{Frame, none, own_slots}
use Rattle.broadcast.specs.Demand3.{Reads, shown_of, refused_of}
use Rattle.broadcast.specs.Accepts.{GoodFrame}
use Rattle.broadcast.specs.Broadcast.{repeated}
use Rattle.roundtrip.specs.Sending.{Parcel, content_of}
use Rattle.roundtrip.specs.RoundTrip.{run_of}
use Rattle.roundtrip.specs.Example.{config, units, gaps}

-- the run's slots, as the cutter cuts them
abbrev pub slots : List Slot
slots = slots_from (run_of config units gaps) 1870 0 13

-- their top and last pointers; slots 1 to 7, counted from 0, lie within the null packet of 16,384 bytes
abbrev pub pointers : List (ℕ × ℕ)
pointers =
    (0, 26) ∷ repeated 7 ((0xFFFF, 0xFFFF) ∷ [])
    ++ ((1450, 1850) ∷ (2, 1850) ∷ (2, 1850) ∷ (2, 1850) ∷ (2, 1870) ∷ [])

-- four bytes for each live slot, and 0 for the four dummies behind it
abbrev pointer_bytes : List (ℕ × ℕ) → List ℕ
pointer_bytes [] = []
pointer_bytes (x ∷ xs) = bytes_of 2 x.0 ++ (bytes_of 2 x.1 ++ (replicate 16 0 ++ pointer_bytes xs))

unfoldable pub block : List ℕ
block =
    -- BPSK 1/3 over 120 slots, so the first of each five is live and has 1,870 bytes, and seven unused modes
    (0 ∷ 0x11 ∷ 120 ∷ 0 ∷ []) ++ repeated 7 (0xFF ∷ 0 ∷ 0 ∷ [])
    -- relative streams 0 and 1 are of type TLV
    ++ (2 ∷ 2 ∷ replicate 126 0)
    ++ (pointer_bytes pointers ++ replicate 220 0)
    -- slots 0 to 64, counted from 0, are of relative stream 0, and 13 of them are live; the others are of relative stream 1
    ++ (replicate 32 0 ++ (0x01 ∷ replicate 27 0x11))
    -- the stream ids are 1 and 2
    ++ (0 ∷ 1 ∷ 0 ∷ 2 ∷ replicate 481 0)

-- live slots, each with four dummies behind it
abbrev pub fives : List (List ℕ) → List (List ℕ)
fives [] = []
fives (d ∷ ds) = d ∷ [] ∷ [] ∷ [] ∷ [] ∷ fives ds

-- the run's slots, and 11 of the other stream
unfoldable pub frame : Frame
frame = record { block = block; slots = fives (map (λ (x : Slot). x.bytes) slots ++ replicate 11 (replicate 1870 0)) }

abbrev pub frames : List Frame
frames = frame ∷ []

pub record ComesBack : Type 0 where
  -- the control block is accepted, and the 120 slots have their lengths
  pub good : GoodFrame config.stream frame
  -- the own live slots are the run's, with the cutter's pointers
  pub own : map (λ (x : (ℕ × ℕ) × Slot). x.1) (own_slots config.stream 0 frames) ≡ slots
  -- with memories of at least 21,433 and n × R bytes there is a reading, and any reading has no call refused and shows the units
  pub readable : (p c : List ℕ) → packet_memory ≤ length p → 1200 ≤ length c → (xs : List Made) × Reads config frames none p c xs
  pub shows : (p c : List ℕ) → packet_memory ≤ length p → 1200 ≤ length c → (xs : List Made) → Reads config frames none p c xs
      → (refused_of config frames none p c xs ≡ [])
      × (shown_of config frames none p c xs ≡ map (λ (u : Parcel). unit (content_of u)) units)
