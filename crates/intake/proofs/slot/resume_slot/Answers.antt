-- Why resume_slot meets its contract: each way that the held packet can take is one case of the definition.
use Prim.Native.Nat.{◌+◌, ◌≤◌}
use mathlib.Core.Path.{sym, ◌∙◌}
use native.Mathlib.Omega.{arith}
use lib.ListN.{length}
use Rattle.intake.specs.Slot.{held_len, resumed_as, resumed_mem}
use Rattle.intake.proofs.SlotFacts.{resumed}
use Rattle.intake.proofs.SlotLaws.{held_fits, ends-room, goes-on-room}
use Rattle.intake.proofs.slot.resume_slot.Goals as goal
use Rattle.intake.proofs.slot.resume_slot.Goals.{In-Ends, In-GoesOn}

-- what continues the held packet is in the slot, and fits behind the held bytes
ends : (c : In-Ends)
    → let a = c.args in
    let k = c.in-Ends.end in
    (k ≤ length a.bytes.now) × (held_len a.held a.packet.now + k ≤ length a.packet.now)
ends c =
    let a = c.args in
    let r = ends-room _ _ _ _ _ c.requires.2 (sym c.resume.ensures ∙ c.in-Ends.is) in
    (r.within, held_fits a.held a.packet.now a.bytes.now _ (omega (arith, c.requires.0)) r)

goes_on : (c : In-GoesOn)
    → let a = c.args in
    let k = length a.bytes.now in
    (k ≤ length a.bytes.now) × (held_len a.held a.packet.now + k ≤ length a.packet.now)
goes_on c =
    let a = c.args in
    let r = goes-on-room _ _ _ _ (sym c.resume.ensures ∙ c.in-GoesOn.is) in
    (r.within, held_fits a.held a.packet.now a.bytes.now _ (omega (arith, c.requires.0)) r)

pub continue_packet-requires : goal.continue_packet-requires
continue_packet-requires c = ends (goal.at.continue_packet-requires c).In-Ends

pub end_packet-requires : goal.end_packet-requires
end_packet-requires c =
    (omega (arith, c.held_len-n.ensures, (ends (goal.at.end_packet-requires c).In-Ends).1), c.requires.1)

pub continue_packet-requires-in-GoesOn : goal.continue_packet-requires-in-GoesOn
continue_packet-requires-in-GoesOn c = goes_on (goal.at.continue_packet-requires-in-GoesOn c).In-GoesOn

pub extend_packet-requires : goal.extend_packet-requires
extend_packet-requires c =
    omega (arith, c.held_len-n.ensures, (goes_on (goal.at.extend_packet-requires c).In-GoesOn).1)

pub returns-in-Dropped : goal.returns-in-Dropped
unfolding resumed_as resumed_mem
returns-in-Dropped c =
    let e = sym c.resume.ensures ∙ c.in-Dropped.is in
    rw (c.read_from.ensures, c.from.ensures) (sym (resumed _ _ _ _ _ e))

pub returns-in-Ends : goal.returns-in-Ends
unfolding resumed_mem
returns-in-Ends c =
    let n = c.held_len-n.ensures in
    let e = sym c.resume.ensures ∙ c.in-Ends.is in
    rw (c.end_packet.ensures, n, c.continue_packet.ensures) (sym (resumed _ _ _ _ _ e))

pub returns-in-GoesOn : goal.returns-in-GoesOn
unfolding resumed_as resumed_mem
returns-in-GoesOn c =
    let n = c.held_len-n.ensures in
    let e = sym c.resume.ensures ∙ c.in-GoesOn.is in
    rw (c.extend_packet.ensures, n, c.continue_packet-in-GoesOn.ensures) (sym (resumed _ _ _ _ _ e))
