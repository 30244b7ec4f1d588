-- Slot, with its data or lost: refusals 20 to 23, packet memory, and what next then has to read.
use Rattle.std.specs.Prelude.{ℕ, ◌+◌, ◌*◌, ◌<◌, ◌≤◌, ◌≡◌, Bool, cond, ◌||◌, not, List, length, get_or, eqb, leb}
use Rattle.std.proofs.Math.Bool.{true, false}
use Rattle.std.proofs.Math.Dec.{ltb}
use Rattle.tmcc.specs.declared.layout.Pointers.{Pointers}
use Rattle.words.specs.Config.{KeptConfig}
use Rattle.state.specs.State.{State, Called, with_frame, with_owed, with_intake, refused, accepted}
use Rattle.intake.specs.Slot.{packet_memory, intake_of}
use Rattle.frames.specs.Frame.{loss_of}

-- "packet memory under 21,433 bytes or collecting memory under n × R", by their lengths
unfoldable pub short_by : KeptConfig → ℕ → ℕ → Bool
short_by c packet collecting = ltb packet packet_memory || ltb collecting (c.watch.n * c.rules.limit)

-- "20 none due; 21 next owed; 22"; 0 for none
unfoldable pub slot_refusal : State → ℕ → ℕ → ℕ
slot_refusal st packet collecting =
    cond (leb 120 st.frame.at) 20 (cond st.owed 21 (cond (short_by st.config packet collecting) 22 0))

-- the slot is counted, and next is owed
unfoldable pub counted : State → State
counted st = with_owed (with_frame st (record { layout = st.frame.layout; at = st.frame.at + 1 })) true

-- an own live slot: the state, and packet memory
abbrev pub Taken : Type 0
Taken = State × List ℕ

abbrev pub own_of : State → List ℕ → List ℕ → Pointers → Taken
own_of st p d t = let r = intake_of st.held p d t in (with_intake st r.0, r.1)

-- the slot that is due: its data length, pointers, and whether it is an own live one
abbrev pub due_length : State → ℕ
due_length st = get_or st.frame.layout.lengths st.frame.at 0

abbrev pub due_pointers : State → Pointers
due_pointers st = get_or st.frame.layout.pointers st.frame.at (record { 0 = 0; 1 = 0 })

abbrev pub due_own : State → Bool
due_own st = get_or st.frame.layout.own st.frame.at false

-- "23 wrong length"; no live slot is longer than 5,049 bytes
unfoldable pub wrong_length : ℕ → ℕ → Bool
wrong_length due l = ltb 5049 l || not (eqb l due)

abbrev pub SlotOut : Type 0
SlotOut = Called × List ℕ

-- "A dummy slot ..; it, or another stream's slot, given or lost, is only counted"
abbrev pub slot_taken : Bool → State → List ℕ → List ℕ → Pointers → SlotOut
slot_taken false st p d t = (accepted (counted st), p)
slot_taken true st p d t = let r = own_of (counted st) p d t in (accepted r.0, r.1)

unfoldable pub slot_of : State → List ℕ → List ℕ → List ℕ → SlotOut
slot_of st p c d =
    let r = slot_refusal st (length p) (length c) in
    cond (eqb r 0)
    (cond (wrong_length (due_length st) (length d)) (refused 23 st, p) (slot_taken (due_own st) st p d (due_pointers st)))
    (refused r st, p)

abbrev pub loss_taken : Bool → State → State
loss_taken false st = counted st
loss_taken true st = loss_of (counted st)

unfoldable pub lost_slot_of : State → ℕ → ℕ → Called
lost_slot_of st packet collecting =
    let r = slot_refusal st packet collecting in
    cond (eqb r 0) (accepted (loss_taken (due_own st) st)) (refused r st)

-- what a state and memories that take the slot have
pub record Ready (st : State) (packet collecting : ℕ) : Type 0 where
  pub due : st.frame.at < 120
  pub free : st.owed ≡ false
  pub packets : packet_memory ≤ packet
  pub collects : st.config.watch.n * st.config.rules.limit ≤ collecting
