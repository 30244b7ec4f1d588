-- Laws of specs/Example.antt.
use Rattle.std.specs.Prelude.{refl}
use Rattle.wire.specs.Field.{be}
use Rattle.tlv.specs.Packet.{good_first, total, complete, too_long, marked, cut_by, cut}
use Rattle.tlv.specs.Slot.{end_from, last_pointer, sound}
use Rattle.tlv.specs.Held.{end_within, end_beyond, held_total, held_end, continuation_of}
use Rattle.tlv.specs.Run.{kept, read_from, finished, resumed, arrived, step as slot_step, run as slot-run}
use Rattle.tlv.specs.Row.{all_bytes, row, packets_by, row_packets}
use Rattle.mmtp.specs.Flow.{flow_of, compressed_of, behind, compressed_header}
use Rattle.mmtp.specs.Header.{header_of, plain, payload_start, fixed_bytes, extension_bytes, extension_length}
use Rattle.watch.specs.Given.{lookup_of, first_from}
use Rattle.mmtp.specs.Packet.{reading_of, head_read, looked_up, body_read}
use Rattle.mmtp.specs.Payload.{indicator_of, fragment_type_of, mpu_of, signalling_of, parsed_of, counter_fits, aggregation_fits, units_fit, tested, payload_of, pieces_of}
use Rattle.mmtp.specs.Unit.{field_bytes, fields_of, piece_of, single_fits}
use Rattle.reassembly.specs.Unit.{agrees}
use Rattle.reassembly.specs.Channel.{next_psn, heard, gap, unheard}
use Rattle.reassembly.specs.Join.{interrupted, begun, counter_follows, grown, extended, followed, acted, join_of, notes_of}
use Rattle.reassembly.specs.Run.{step}
use Rattle.reassembly.specs.Sent.{open_unit, sent_after, sent}
use Rattle.broadcast.specs.Account.{read_of, events, account}
use Rattle.broadcast.specs.Carried.{inputs, row_inputs, carried_units}
use Rattle.broadcast.specs.Example.{Examples}

pub examples : Examples
unfolding be good_first total complete too_long marked cut_by cut end_from last_pointer sound end_within end_beyond held_total held_end
    continuation_of kept read_from finished resumed arrived slot_step slot-run all_bytes row packets_by row_packets flow_of compressed_of
    behind compressed_header header_of plain payload_start fixed_bytes extension_bytes extension_length lookup_of first_from reading_of
    head_read looked_up body_read indicator_of fragment_type_of mpu_of signalling_of parsed_of counter_fits aggregation_fits units_fit tested
    payload_of pieces_of field_bytes fields_of piece_of single_fits agrees next_psn heard gap unheard interrupted begun counter_follows
    grown extended followed acted join_of notes_of step open_unit sent_after sent read_of events account inputs row_inputs carried_units
examples = (refl, refl, refl, refl, refl, refl, refl, refl, refl, refl, refl)
