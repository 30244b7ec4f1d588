-- Laws of specs/Worked.antt.
use Rattle.std.specs.Prelude.{refl}
use Rattle.wire.specs.Field.{be}
use Rattle.wire.specs.Memory.{pasted, part_of}
use Rattle.wire.specs.Tab.{tab}
use Rattle.tmcc.specs.Count.{all_below, count_below, last_below}
use Rattle.tmcc.specs.Mode.{data_bytes, within, used, unused, mode_good, slots_of, modes_good, mode_from, mode_of, slot_length}
use Rattle.tmcc.specs.Stream.{chosen, relative_stream, own_slot}
use Rattle.tmcc.specs.Layout.{pointers_at, layout_of, blank_layout}
use Rattle.tmcc.specs.Block.{decode_of}
use Rattle.tlv.specs.Packet.{good_first, total, complete, too_long, marked, cut_by, cut, packet_at}
use Rattle.tlv.specs.Slot.{end_from, last_pointer, sound}
use Rattle.tlv.specs.Held.{end_within, end_beyond, held_total, held_end, continuation_of}
use Rattle.mmtp.specs.Flow.{flow_of, compressed_of, behind, compressed_header}
use Rattle.mmtp.specs.Header.{header_of, plain, payload_start, fixed_bytes, extension_bytes, extension_length, start_of as payloadAt}
use Rattle.watch.specs.Given.{lookup_of, first_from}
use Rattle.watch.specs.Rising.{inserted, rising_of, searched, search_of}
use Rattle.mmtp.specs.Packet.{reading_of, head_read, looked_up, body_read}
use Rattle.mmtp.specs.Payload.{indicator_of, fragment_type_of, mpu_of, signalling_of, parsed_of, counter_fits, aggregation_fits, units_fit, tested, payload_of}
use Rattle.mmtp.specs.Unit.{field_bytes, fields_of, single_fits, single_unit, single_at}
use Rattle.reassembly.specs.Channel.{next_psn, heard, gap, unheard}
use Rattle.reassembly.specs.Join.{interrupted, begun, acted, join_of}
use Rattle.intake.specs.Slot.{cursor_from, resumed_as, moved_mem, continued_mem, resumed_mem, copied, resumed_of, intake_of, lost_of}
use Rattle.delivery.specs.Packet.{comes_to, first_unit, collected, give_of, joined_of}
use Rattle.queue.specs.Queue.{event_taken}
use Rattle.delivery.specs.Cursor.{turn_of, advanced_of, slot_advanced, tail_advanced, left}
use Rattle.state.specs.Start.{before, twice_below, twice, fresh_state, start_refusal, start_from}
use Rattle.frames.specs.Frame.{frame_busy, frame_of, loss_of, lost_frame_of}
use Rattle.frames.specs.Slot.{short_by, slot_refusal, counted, wrong_length, slot_of, lost_slot_of}
use Rattle.receiver.specs.Next.{packet_of, read_on, read_all, next_of}
use Rattle.lines.specs.Decimal.{digits, decimal}
use Rattle.lines.specs.Line.{field, place_text, carried_text, unit_line, id_text, note_line, refused_line, end_line}
use Rattle.capture.specs.Command.{letter_of, slot_size, size_of, whole, ids_of, config_of}
use Rattle.capture.specs.Session.{fresh_session}
use Rattle.capture.specs.Waits.{queue_waits, cursor_waits, waits_by}
use Rattle.capture.specs.Capture.{call_of, after_call, done_of, event_line, tallied, closed, drained_by, drained_of, text_by, text_of, capture_of}
use Rattle.capture.specs.Worked.{Worked}

pub worked : Worked 119
unfolding be pasted part_of tab all_below count_below last_below data_bytes within used unused mode_good slots_of modes_good mode_from
    mode_of slot_length chosen relative_stream own_slot pointers_at layout_of blank_layout decode_of good_first total complete too_long
    marked cut_by cut packet_at end_from last_pointer sound end_within end_beyond held_total held_end continuation_of flow_of
    compressed_of behind compressed_header header_of plain payload_start fixed_bytes extension_bytes extension_length payloadAt
    lookup_of first_from reading_of head_read looked_up body_read indicator_of fragment_type_of mpu_of signalling_of parsed_of counter_fits
    aggregation_fits units_fit tested payload_of field_bytes fields_of single_fits single_unit single_at next_psn heard gap unheard
    interrupted begun acted join_of cursor_from resumed_as moved_mem continued_mem resumed_mem copied resumed_of intake_of lost_of
    comes_to searched search_of inserted rising_of first_unit collected give_of joined_of event_taken turn_of advanced_of slot_advanced tail_advanced left before twice_below
    twice fresh_state start_refusal start_from frame_busy frame_of loss_of lost_frame_of short_by slot_refusal counted wrong_length slot_of
    lost_slot_of packet_of read_on read_all next_of digits decimal field place_text carried_text unit_line id_text note_line refused_line
    end_line letter_of slot_size size_of whole ids_of config_of fresh_session queue_waits cursor_waits waits_by call_of after_call done_of
    event_line tallied closed drained_by drained_of text_by text_of capture_of
worked = refl
