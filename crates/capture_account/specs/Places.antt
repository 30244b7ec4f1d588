-- The account of a capture's calls with the frame and the slot of each note and unit, as the lines count them.
use Rattle.std.specs.Prelude.{ℕ, ◌+◌, ◌%◌, ◌^◌, cond, List, [], ◌∷◌, ◌++◌, map, eqb, length}
use Rattle.tmcc.specs.Layout.{Layout}
use Rattle.tlv.specs.Run.{State as Slot-state, run, state_after}
use Rattle.reassembly.specs.declared.config.Config.{Config}
use Rattle.reassembly.specs.Run.{Lane}
use Rattle.broadcast.specs.Account.{events, lanes_after}
use Rattle.broadcast.specs.Drains.{Shown, note, unit, strip}
use Rattle.broadcast.specs.Calls.{Call, frame, lost-frame, slot, lost-slot, next}
use Rattle.capture_account.specs.Events.{Placed}
use Rattle.capture_account.specs.Calls.{refusal_at, layout_after, slot_after, frames_after, arrival_by}

-- the length of a unit's line is that of its bytes
abbrev pub length_of : Shown → ℕ
length_of (note n id) = 0
length_of (unit u) = length u.bytes

-- notes and units of slot s of frame f
abbrev pub placed_at : ℕ → ℕ → List Shown → List Placed
placed_at f s [] = []
placed_at f s (x ∷ xs) = record { frame = f; slot = s; shown = x; len = length_of x } ∷ placed_at f s xs

-- the slot of a call's events, counted from 1; "a lost frame's note has slot 0"
abbrev pub slot_number : ℕ → Call → ℕ
slot_number s (frame b) = 0
slot_number s lost-frame = 0
slot_number s (slot d) = s + 1
slot_number s lost-slot = s + 1
slot_number s next = 0

-- call by call up to the first that is refused: g is the lane, which is the joining state, of each watched packet_id; tl the state of
-- the slots, which is what they leave held; l the frame's layout; s the slot that is due, from 0, and 120 where a frame is; n how many
-- frames have begun. Counts have 64 bits
unfoldable pub placed_by : Config → (ℕ → Lane (List (ℕ × ℕ))) → Slot-state (ℕ × ℕ) → Layout → ℕ → ℕ → List Call → List Placed
placed_by cfg g tl l s n [] = []
placed_by cfg g tl l s n (k ∷ ks) =
    let xs = run tl (arrival_by l s n k) in
    let on : List Placed =
    placed_at (frames_after n k % 2 ^ 64) (slot_number s k) (map strip (events cfg g xs))
    ++ placed_by cfg (lanes_after cfg g xs) (state_after tl (arrival_by l s n k)) (layout_after cfg.stream l k) (slot_after s k)
    (frames_after n k) ks in
    cond (eqb (refusal_at cfg.stream l s k) 0) on []
