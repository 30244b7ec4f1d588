-- Frame and lost frame.
use Rattle.std.specs.Prelude.{ℕ, Bool, true, cond, ◌||◌, List, length, eqb, ltb}
use Rattle.tmcc.specs.Block.{decode_of}
use Rattle.state.specs.State.{State, Called, with_frame, with_owed, with_intake, refused, accepted}
use Rattle.intake.specs.Slot.{lost_of}

-- slots are due, or next is owed
unfoldable pub frame_busy : State → Bool
frame_busy st = ltb st.frame.at 120 || st.owed

-- "10 block not 1,178 bytes; 11 slots due or next owed"; 12 to 14 by the control block
unfoldable pub frame_of : State → List ℕ → Called
frame_of st b =
    cond (eqb (length b) 1178)
    (cond (frame_busy st) (refused 11 st)
    (let d = decode_of b st.config.stream in
    cond (eqb d.refusal 0) (accepted (with_frame st (record { layout = d.layout; at = 0 }))) (refused d.refusal st)))
    (refused 10 st)

-- an own live slot is lost, and next is owed
unfoldable pub loss_of : State → State
loss_of st = with_owed (with_intake st (lost_of st.held)) true

-- "its 120 slots all lost, together read as one lost own slot"
unfoldable pub lost_frame_of : State → Called
lost_frame_of st = cond (frame_busy st) (refused 11 st) (accepted (loss_of st))
