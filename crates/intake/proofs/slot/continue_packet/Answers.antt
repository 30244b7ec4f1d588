-- Why continue_packet meets its contract: the held bytes, then the first k bytes of the slot.
use mathlib.Core.Path.{◌∙◌}
use Rattle.wire.proofs.MemoryLaws.{pasted-take}
use Rattle.intake.specs.Slot.{continued_mem}
use Rattle.intake.proofs.slot.continue_packet.Goals as goal

pub returns : goal.returns
unfolding continued_mem
returns c =
    let m = c.move_held-n.ensures in
    let p = c.requires in
    c.copy_at.ensures ∙ pasted-take _ _ _ _ p.0 ∙ rw (m.0, m.1)
