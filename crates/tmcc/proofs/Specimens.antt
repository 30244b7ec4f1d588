-- Why the specimens and the examples hold: each is computed.
use mathlib.Core.Path.{refl}
use Rattle.wire.specs.Field.{be}
use Rattle.wire.specs.Tab.{tab}
use Rattle.tmcc.specs.Count.{all_below, count_below, last_below}
use Rattle.tmcc.specs.Mode.{data_bytes, within, used, unused, mode_good, slots_of, modes_good, mode_from, mode_of, slot_length}
use Rattle.tmcc.specs.Stream.{chosen, relative_stream, own_slot}
use Rattle.tmcc.specs.Block.{decode_of}
use Rattle.tmcc.specs.Specimens.{Specimens, Examples}

pub specimens : Specimens
unfolding be tab all_below count_below last_below data_bytes within used unused mode_good slots_of modes_good mode_from mode_of slot_length chosen
    relative_stream own_slot decode_of
specimens = (refl, refl, refl)

pub examples : Examples
unfolding be tab all_below count_below last_below data_bytes within used unused mode_good slots_of modes_good mode_from mode_of slot_length chosen
    relative_stream own_slot decode_of
examples = (refl, refl, refl, refl)
