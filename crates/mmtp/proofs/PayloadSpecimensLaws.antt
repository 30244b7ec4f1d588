-- Laws of specs/PayloadSpecimens.antt.
use Rattle.std.specs.Prelude.{refl}
use Rattle.wire.specs.Field.{be}
use Rattle.mmtp.specs.Unit.{field_bytes, fields_of, piece_of, length_bytes, unit_fits, single_fits}
use Rattle.mmtp.specs.Unit.{unit_then, aggregate_by, aggregate, aggregate_fits}
use Rattle.mmtp.specs.Payload.{indicator_of, fragment_type_of, mpu_of, signalling_of, parsed_of, counter_fits}
use Rattle.mmtp.specs.Payload.{aggregation_fits, units_fit, tested, payload_of, pieces_of}
use Rattle.mmtp.specs.Header.{header_of, plain, payload_start, fixed_bytes, extension_bytes, extension_length}
use Rattle.watch.specs.Given.{lookup_of, first_from}
use Rattle.mmtp.specs.Packet.{body_read, looked_up, head_read, reading_of}
use Rattle.mmtp.specs.PayloadSpecimens.{PayloadSpecimens, Examples}

pub payload_specimens : PayloadSpecimens
unfolding payload_of tested parsed_of mpu_of be fragment_type_of counter_fits indicator_of aggregation_fits units_fit single_fits field_bytes
    header_of plain payload_start fixed_bytes extension_bytes extension_length lookup_of first_from body_read looked_up head_read reading_of
payload_specimens = (refl, refl)

pub examples : Examples
unfolding payload_of pieces_of tested parsed_of mpu_of signalling_of be fragment_type_of counter_fits indicator_of aggregation_fits units_fit
    single_fits field_bytes fields_of piece_of length_bytes unit_fits unit_then aggregate_by aggregate aggregate_fits
    header_of plain payload_start fixed_bytes extension_bytes extension_length lookup_of first_from body_read looked_up head_read reading_of
examples =
    (refl, refl, refl, refl, refl, refl, refl, refl, refl, refl, refl, refl, refl, refl, refl, refl, refl, refl, refl, refl, refl)
