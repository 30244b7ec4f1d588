-- Laws of specs/Fades.antt.
use Rattle.std.proofs.Math.Path.{refl}
use Rattle.wire.specs.Field.{be}
use Rattle.tlv.specs.Packet.{good_first, total, complete, too_long, marked, cut_by, cut}
use Rattle.tlv.specs.Slot.{end_from, last_pointer, sound}
use Rattle.tlv.specs.Held.{end_within, end_beyond, held_total, held_end, continuation_of}
use Rattle.tlv.specs.Run.{kept, read_from, finished, resumed, arrived, step, run, state_after}
use Rattle.tlv.specs.Row.{all_bytes, row, packets_by, row_packets}
use Rattle.tlv.specs.Fades.{Fades}

pub fades : Fades
fades =
    unfold be good_first total complete too_long marked cut_by cut in
    unfold end_from last_pointer sound end_within end_beyond held_total held_end continuation_of in
    unfold kept read_from finished resumed arrived step run state_after all_bytes row packets_by row_packets in
    (refl, refl, refl, refl, refl, refl, refl, refl, refl, refl, refl, refl, refl, refl, refl)
