-- The calls that a capture's commands make behind C, and which of them are carried out: by the control blocks and the order of the
-- commands alone, without a receiver's state and without its memories.
use Rattle.std.specs.Prelude.{ℕ, zero, suc, ◌-◌, cond, List, [], ◌∷◌, ◌++◌, length, get_or, take, drop, eqb, ltb, leb}
use Rattle.tmcc.specs.Layout.{Layout}
use Rattle.tmcc.specs.Block.{decode_of}
use Rattle.tlv.specs.Run.{Arrival, lost, given}
use Rattle.frames.specs.Slot.{wrong_length}
use Rattle.capture.specs.declared.command.Letter.{Letter}
use Rattle.capture.specs.declared.command.Letter.TheVariants.{Start, Frame, LostFrame, Slot, LostSlot, Unknown}
use Rattle.capture.specs.Command.{letter_of, size_of, whole}
use Rattle.broadcast.specs.Calls.{Call, frame, lost-frame, slot, lost-slot, next}
use Rattle.broadcast.specs.Frames.{slot_at, if_own}

-- the call of a whole command b, F, X, S or L with its operands, before the calls ks behind it; C and an unknown command make no call,
-- and nothing behind them is read: "C comes first and once; another order counts as unknown"
abbrev pub call_then : Letter → List ℕ → List Call → List Call
call_then Start b ks = []
call_then Frame b ks = frame (drop 1 b) ∷ ks
call_then LostFrame b ks = lost-frame ∷ ks
call_then Slot b ks = slot (drop 3 b) ∷ ks
call_then LostSlot b ks = lost-slot ∷ ks
call_then Unknown b ks = []

-- the commands of b, as far as they are whole and known; `f` bounds them
unfoldable pub command_calls_by : ℕ → List ℕ → List Call
command_calls_by zero b = []
command_calls_by (suc f) b =
    let ks : List Call = call_then (letter_of (get_or b 0 0)) (take (size_of b) b) (command_calls_by f (drop (size_of b) b)) in
    cond (whole b) ks []

-- the calls that the commands behind C make
unfoldable pub command_calls : List ℕ → List Call
command_calls b = command_calls_by (length b - 1) (drop (size_of b) b)

-- slot s being due, or at 120 a frame: the number with which a frame is refused, 0 for none; "10 block not 1,178 bytes; 11 slots
-- due ..", then 12, 13, 14 of the block
abbrev pub frame_refusal : ℕ → ℕ → List ℕ → ℕ
frame_refusal stream s b = cond (eqb (length b) 1178) (cond (ltb s 120) 11 (decode_of b stream).refusal) 10

-- the same of any call, in a frame with layout l; "20 none due; .. 23 wrong length"
unfoldable pub refusal_at : ℕ → Layout → ℕ → Call → ℕ
refusal_at stream l s (frame b) = frame_refusal stream s b
refusal_at stream l s lost-frame = cond (ltb s 120) 11 0
refusal_at stream l s (slot d) = cond (leb 120 s) 20 (cond (wrong_length (get_or l.lengths s 0) (length d)) 23 0)
refusal_at stream l s lost-slot = cond (leb 120 s) 20 0
refusal_at stream l s next = 0

-- the layout, and the slot that is due, counted from 0, after a call
abbrev pub layout_after : ℕ → Layout → Call → Layout
layout_after stream l (frame b) = (decode_of b stream).layout
layout_after stream l lost-frame = l
layout_after stream l (slot d) = l
layout_after stream l lost-slot = l
layout_after stream l next = l

abbrev pub slot_after : ℕ → Call → ℕ
slot_after s (frame b) = 0
slot_after s lost-frame = s
slot_after s (slot d) = suc s
slot_after s lost-slot = suc s
slot_after s next = s

-- how many frames have begun, "lost ones too"
abbrev pub frames_after : ℕ → Call → ℕ
frames_after n (frame b) = suc n
frames_after n lost-frame = suc n
frames_after n (slot d) = n
frames_after n lost-slot = n
frames_after n next = n

-- what arrives by a call, at most one: an own live slot, labelled by its frame and slot from 0, or its loss; "lost frame (its 120 slots
-- all lost, together read as one lost own slot)"
abbrev pub arrival_by : Layout → ℕ → ℕ → Call → List (Arrival (ℕ × ℕ))
arrival_by l s n (frame b) = []
arrival_by l s n lost-frame = lost ∷ []
arrival_by l s n (slot d) = if_own l s (given (n - 1, s) (slot_at l s d))
arrival_by l s n lost-slot = if_own l s lost
arrival_by l s n next = []

-- what arrives by the calls up to the first that is refused, n frames having begun
unfoldable pub arrivals_by : ℕ → Layout → ℕ → ℕ → List Call → List (Arrival (ℕ × ℕ))
arrivals_by stream l s n [] = []
arrivals_by stream l s n (k ∷ ks) =
    let on : List (Arrival (ℕ × ℕ)) =
    arrival_by l s n k ++ arrivals_by stream (layout_after stream l k) (slot_after s k) (frames_after n k) ks in
    cond (eqb (refusal_at stream l s k) 0) on []

-- the number of that refusal: at most one
unfoldable pub refusals_by : ℕ → Layout → ℕ → List Call → List ℕ
refusals_by stream l s [] = []
refusals_by stream l s (k ∷ ks) =
    let on : List ℕ = refusals_by stream (layout_after stream l k) (slot_after s k) ks in
    cond (eqb (refusal_at stream l s k) 0) on (refusal_at stream l s k ∷ [])

-- how many frames have begun up to there
unfoldable pub frames_by : ℕ → Layout → ℕ → ℕ → List Call → ℕ
frames_by stream l s n [] = n
frames_by stream l s n (k ∷ ks) =
    let on : ℕ = frames_by stream (layout_after stream l k) (slot_after s k) (frames_after n k) ks in
    cond (eqb (refusal_at stream l s k) 0) on n

-- where memories do not suffice, "22 packet memory under 21,433 bytes or collecting memory under n × R" refuses each slot that is due,
-- and next after X: the number with which a call, or next after it, is refused
unfoldable pub short_at : ℕ → ℕ → Call → ℕ
short_at stream s (frame b) = frame_refusal stream s b
short_at stream s lost-frame = cond (ltb s 120) 11 22
short_at stream s (slot d) = cond (leb 120 s) 20 22
short_at stream s lost-slot = cond (leb 120 s) 20 22
short_at stream s next = 0

-- the number of the first refusal then: at most one
unfoldable pub short_refusals_by : ℕ → ℕ → List Call → List ℕ
short_refusals_by stream s [] = []
short_refusals_by stream s (k ∷ ks) =
    cond (eqb (short_at stream s k) 0) (short_refusals_by stream (slot_after s k) ks) (short_at stream s k ∷ [])

-- and how many frames have begun then
unfoldable pub short_frames_by : ℕ → ℕ → ℕ → List Call → ℕ
short_frames_by stream s n [] = n
short_frames_by stream s n (frame b ∷ ks) = cond (eqb (short_at stream s (frame b)) 0) (short_frames_by stream 0 (suc n) ks) n
short_frames_by stream s n (lost-frame ∷ ks) = cond (ltb s 120) n (suc n)
short_frames_by stream s n (slot d ∷ ks) = n
short_frames_by stream s n (lost-slot ∷ ks) = n
short_frames_by stream s n (next ∷ ks) = n
