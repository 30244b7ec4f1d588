-- Laws of specs/Examples.antt.
use Rattle.std.specs.Prelude.{refl}
use Rattle.wire.specs.Memory.{part_of, pasted}
use Rattle.wire.specs.Field.{be}
use Rattle.tlv.specs.Packet.{good_first, total, complete, marked, cut_by, cut}
use Rattle.tlv.specs.Slot.{end_from, last_pointer, sound}
use Rattle.tlv.specs.Held.{end_within, end_beyond, held_total, held_end, continuation_of}
use Rattle.intake.specs.Slot.{cursor_from, resumed_as, moved_mem, continued_mem, resumed_mem, copied, resumed_of, intake_of}
use Rattle.intake.specs.Examples.{Examples}

pub examples : Examples
unfolding be good_first total complete marked cut_by cut end_from last_pointer sound end_within end_beyond held_total held_end continuation_of
    part_of pasted cursor_from resumed_as moved_mem continued_mem resumed_mem copied resumed_of intake_of
examples = (refl, refl, refl, refl, refl, refl)
