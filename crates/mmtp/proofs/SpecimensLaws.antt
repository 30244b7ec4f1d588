-- Laws of specs/Specimens.antt.
use Rattle.std.specs.Prelude.{refl}
use Rattle.wire.specs.Field.{be}
use Rattle.mmtp.specs.Flow.{flow_of, compressed_of, behind, compressed_header}
use Rattle.mmtp.specs.Header.{header_of, plain, payload_start, fixed_bytes, extension_bytes, extension_length}
use Rattle.watch.specs.Given.{lookup_of, first_from}
use Rattle.mmtp.specs.Unit.{aggregate_fits, aggregate_by, aggregate}
use Rattle.mmtp.specs.Payload.{payload_of, tested, parsed_of, signalling_of, counter_fits, indicator_of, aggregation_fits, units_fit}
use Rattle.mmtp.specs.Packet.{reading_of, head_read, looked_up, body_read}
use Rattle.mmtp.specs.Specimens.{HeaderSpecimens, Examples}

pub header-specimens : HeaderSpecimens
unfolding header_of plain payload_start fixed_bytes extension_bytes extension_length be reading_of head_read looked_up lookup_of first_from
header-specimens = (refl, refl)

pub examples : Examples
unfolding flow_of compressed_of behind compressed_header be header_of plain payload_start fixed_bytes extension_bytes extension_length
    reading_of head_read looked_up lookup_of first_from body_read payload_of tested parsed_of signalling_of counter_fits indicator_of
    aggregation_fits units_fit aggregate_fits aggregate_by aggregate
examples = (refl, refl, refl, refl, refl, refl, refl, refl, refl, refl, refl, refl, refl, refl)
