-- Examples of frame, lost frame, slot and lost slot, computed over the definitions: refusals in the table's order, and lost frames.
use Rattle.std.specs.Prelude.{◌≡◌, refl, true, false, [], ◌∷◌, replicate}
use Rattle.tmcc.specs.Layout.{blank_layout}
use Rattle.intake.specs.Slot.{holding, lost_of}
use Rattle.state.specs.State.{with_owed, with_slot, refused}
use Rattle.state.specs.Start.{fresh_state}
use Rattle.state.specs.Examples.{due}
use Rattle.frames.specs.Frame.{frame_busy, frame_of, loss_of, lost_frame_of}
use Rattle.frames.specs.Slot.{short_by, slot_refusal, wrong_length, slot_of, lost_slot_of}

abbrev Frames : Type 0
Frames =
    -- 10 before 11, and 11 before 12: no mode of the block is good
    (frame_of (due 0) [] ≡ refused 10 (due 0)) × (frame_of (due 119) (replicate 1178 0) ≡ refused 11 (due 119))
    × (frame_of (with_owed (due 120) true) (replicate 1178 0) ≡ refused 11 (with_owed (due 120) true))
    -- a lost frame: 11, or next is owed, with note 40 where bytes were held
    × (lost_frame_of (due 119) ≡ refused 11 (due 119)) × ((lost_frame_of (due 120)).state.owed ≡ true)
    × ((lost_frame_of (due 120)).state.cursor.note ≡ 0)
    × ((lost_frame_of (with_slot (due 120) (holding 0 0) (due 120).cursor)).state.cursor.note ≡ 40)

frames : Frames
unfolding frame_busy frame_of loss_of lost_frame_of lost_of fresh_state
frames = (refl, refl, refl, refl, refl, refl, refl)

abbrev Slots : Type 0
Slots =
    -- 20 before 21, 21 before 22, 22 for either memory, 22 before 23
    (slot_refusal (with_owed (due 120) true) 0 0 ≡ 20) × (slot_refusal (with_owed (due 119) true) 0 0 ≡ 21)
    × (slot_refusal (due 119) 21432 4 ≡ 22) × (slot_refusal (due 119) 21433 3 ≡ 22) × (slot_refusal (due 119) 21433 4 ≡ 0)
    × (slot_of (due 119) [] [] (1 ∷ []) ≡ (refused 22 (due 119), [])) × (lost_slot_of (due 120) 0 0 ≡ refused 20 (due 120))
    × (wrong_length 1870 1869 ≡ true) × (wrong_length 1870 1870 ≡ false)
    -- 23: a byte for a dummy slot
    × ((slot_of (due 119) (replicate 21433 0) (replicate 4 0) (1 ∷ [])).0 ≡ refused 23 (due 119))

slots : Slots
unfolding slot_refusal short_by slot_of lost_slot_of wrong_length fresh_state blank_layout
slots = (refl, refl, refl, refl, refl, refl, refl, refl, refl, refl)

pub examples : Frames × Slots
examples = (frames, slots)
