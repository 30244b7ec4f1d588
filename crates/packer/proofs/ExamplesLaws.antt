-- Laws of specs/Examples.antt.
use Rattle.std.specs.Prelude.{refl}
use Rattle.wire.specs.Field.{bytes_of}
use Rattle.wire.specs.Memory.{pasted}
use Rattle.packer.specs.Pieces.{pieces_by, pieces, count_by, indicator_at, counter_at, with_psn, piece_at}
use Rattle.packer.specs.Packet.{outer_head, payload_type_of, mmtp_head, indicator_bits, fragment_bits, mpu_head}
use Rattle.packer.specs.Packet.{signalling_head, payload_head, timed_fields, fields_written, data_unit, mmtp_of, packet_of}
use Rattle.packer.specs.Packer.{packet_at, packets_from, packets, joined, run, pack_refusal, packed, pack_of}
use Rattle.packer.specs.Examples.{Examples, Refusals}

pub examples : Examples
unfolding bytes_of pasted pieces_by pieces indicator_at counter_at with_psn piece_at outer_head payload_type_of mmtp_head indicator_bits
    fragment_bits mpu_head signalling_head payload_head timed_fields fields_written data_unit mmtp_of packet_of packet_at packets_from
    packets joined run pack_refusal packed pack_of count_by
examples = (refl, refl, refl, refl, refl, refl, refl, refl, refl, refl, refl, refl, refl, refl, refl, refl)

pub refusals : Refusals
unfolding bytes_of pasted pieces_by pieces indicator_at counter_at with_psn piece_at outer_head payload_type_of mmtp_head indicator_bits
    fragment_bits mpu_head signalling_head payload_head timed_fields fields_written data_unit mmtp_of packet_of packet_at packets_from
    packets joined run pack_refusal packed pack_of
refusals = (refl, refl, refl, refl, refl, refl, refl, refl)
