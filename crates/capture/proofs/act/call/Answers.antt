-- Why `call` meets its contract: by the letter.
use Rattle.std.proofs.Common.{ℕ, ◌≤◌, List, [], length, refl, ap}
use Rattle.wire.proofs.MemoryLaws.{slice-rest}
use Rattle.state.specs.State.{Called}
use Rattle.state.specs.Words.{state_words, Leaves}
use Rattle.capture.proofs.CommandLaws.{slot-size-long}
use Rattle.capture.specs.Capture.{call_of}
use Rattle.capture.specs.Words.{Calls}
use Rattle.state.proofs.Clean.{exact_none}
use Rattle.capture.proofs.act.call.Goals as goal

-- a call that leaves packet memory
calls : (before after p : List ℕ) (r : ℕ) (x : Called) → state_words ≤ length before → Leaves before [] r after [] (x, [])
    → Calls before r after p (x, p)
calls before after p r x h l =
    record { answer = ap (λ (y : Called × List ℕ). (y.0, p)) (l.long h); exact = l.exact }

pub config-requires : goal.config-requires
config-requires c = rw c.in-Start.is at c.requires.2

pub slice_bounds-slot-count : goal.slice_bounds-slot-count
slice_bounds-slot-count c =
    slot-size-long _ (rw c.in-Slot.is at c.requires.2)

pub slice_bounds-slot-start : goal.slice_bounds-slot-start
slice_bounds-slot-start c =
    slot-size-long _ (rw c.in-Slot.is at c.requires.2)

pub returns-in-Start : goal.returns-in-Start
unfolding call_of
returns-in-Start c =
    rw (c.in-Start.is, ← c.config.ensures)
    (calls _ _ _ _ _ c.requires.0 c.start.ensures.leaves)

pub returns-in-Frame : goal.returns-in-Frame
unfolding call_of
returns-in-Frame c =
    rw (c.in-Frame.is, ← slice-rest c.args.b.now 1)
    (calls _ _ _ _ _ c.requires.0 c.frame.ensures)

pub returns-in-LostFrame : goal.returns-in-LostFrame
unfolding call_of
returns-in-LostFrame c =
    rw c.in-LostFrame.is
    (calls _ _ _ _ _ c.requires.0 c.lost_frame.ensures)

pub returns-in-Slot : goal.returns-in-Slot
unfolding call_of
returns-in-Slot c =
    rw (c.in-Slot.is, ← slice-rest c.args.b.now 3)
    (record { answer = c.slot.ensures.long c.requires.0; exact = c.slot.ensures.exact })

pub returns-in-LostSlot : goal.returns-in-LostSlot
unfolding call_of
returns-in-LostSlot c =
    rw c.in-LostSlot.is
    (calls _ _ _ _ _ c.requires.0 c.lost_slot.ensures)

pub returns-in-Unknown : goal.returns-in-Unknown
unfolding call_of
returns-in-Unknown c = rw c.in-Unknown.is (record { answer = refl; exact = exact_none _ })
