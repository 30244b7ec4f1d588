-- Laws of specs/Examples.antt.
use Rattle.std.proofs.Math.Path.{refl}
use Rattle.std.proofs.Common.{arith}
use Rattle.wire.specs.Field.{be}
use Rattle.tmcc.specs.Count.{all_below}
use Rattle.tmcc.specs.Mode.{data_bytes}
use Rattle.tlv.specs.Packet.{good_first, total, complete, marked, cut_by, cut}
use Rattle.cutter.specs.Pointers.{starts, ends, in_slot, top_of, last_of}
use Rattle.cutter.specs.Slot.{whole, unlisted, cut_refusal, slot_at, slot_cut}
use Rattle.cutter.specs.Claims.{Fills, AllShort}
use Rattle.cutter.specs.Examples.{shared, Examples, Refusals}

pub examples : Examples
examples =
    unfold be all_below data_bytes good_first total complete marked cut_by cut in
    unfold starts ends in_slot top_of last_of whole unlisted cut_refusal slot_at slot_cut in
    (refl, refl, refl, refl, refl, refl, refl, refl)

pub refusals : Refusals
refusals =
    unfold be all_below data_bytes good_first total complete marked cut_by cut in
    unfold whole unlisted cut_refusal slot_cut in
    (refl, refl, refl, refl, refl, refl, refl, refl, refl, refl, refl, refl)

-- a run that the claims speak of
pub shared_fills : Fills shared 1870 2 × AllShort (cut shared).packets
unfolding be all_below data_bytes good_first total complete marked cut_by cut whole unlisted
shared_fills = (record { packets = refl; listed = refl; multiple = refl }, (omega arith, (omega arith, tt)))
