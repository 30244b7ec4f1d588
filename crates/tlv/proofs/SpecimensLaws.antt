-- Laws of specs/Specimens.antt.
use Rattle.std.proofs.Math.Path.{refl}
use Rattle.wire.specs.Field.{be}
use Rattle.tlv.specs.Packet.{good_first, total, complete, too_long, marked, cut_by, cut}
use Rattle.tlv.specs.Slot.{end_from, last_pointer, sound, slot_note}
use Rattle.tlv.specs.Held.{end_within, end_beyond, held_total, held_end, continuation_of}
use Rattle.tlv.specs.Specimens.{Specimens, FirstBytes, Examples}

pub specimens : Specimens
specimens =
    unfold be good_first total complete too_long marked cut_by cut in
    unfold end_from last_pointer sound slot_note end_within end_beyond held_total held_end continuation_of in
    (refl, refl, refl, refl, refl, refl, refl, refl)

pub first-bytes : FirstBytes
first-bytes =
    unfold be good_first total complete marked cut_by cut end_from last_pointer sound in
    (refl, refl, refl, refl, refl, refl, refl, refl, refl, refl)

pub examples : Examples
examples =
    unfold be good_first total complete marked cut_by cut in
    unfold end_from last_pointer sound end_within end_beyond held_total held_end continuation_of in
    (refl, refl, refl, refl, refl, refl, refl, refl, refl, refl, refl, refl, refl, refl, refl, refl)
