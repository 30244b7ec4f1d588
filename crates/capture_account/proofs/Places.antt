-- The notes and units of the capture with frame 1 lost, with their frames and slots: computed from its calls.
use mathlib.Core.Path.{◌≡◌, refl}
use Rattle.wire.specs.Field.{be}
use Rattle.wire.specs.Tab.{tab}
use Rattle.tmcc.specs.Count.{all_below, count_below, last_below}
use Rattle.tmcc.specs.Mode.{data_bytes, within, used, unused, mode_good, slots_of, modes_good, mode_from, mode_of, slot_length}
use Rattle.tmcc.specs.Stream.{chosen, relative_stream, own_slot}
use Rattle.tmcc.specs.Layout.{pointers_at, layout_of, blank_layout}
use Rattle.tmcc.specs.Block.{decode_of}
use Rattle.tlv.specs.Packet.{good_first, total, complete, too_long, marked, cut_by, cut}
use Rattle.tlv.specs.Slot.{end_from, last_pointer, sound}
use Rattle.tlv.specs.Held.{end_within, end_beyond, held_total, held_end, continuation_of}
use Rattle.tlv.specs.Run.{searching, kept, read_from, finished, resumed, arrived, step as slot_step, run, state_after}
use Rattle.mmtp.specs.Flow.{flow_of, compressed_of, behind, compressed_header}
use Rattle.mmtp.specs.Header.{header_of, plain, payload_start, fixed_bytes, extension_bytes, extension_length}
use Rattle.watch.specs.Given.{lookup_of, first_from}
use Rattle.mmtp.specs.Packet.{reading_of, head_read, looked_up, body_read}
use Rattle.mmtp.specs.Payload.{indicator_of, fragment_type_of, mpu_of, signalling_of, parsed_of, counter_fits, aggregation_fits, units_fit, tested, payload_of, pieces_of}
use Rattle.mmtp.specs.Unit.{field_bytes, fields_of, piece_of, single_fits}
use Rattle.reassembly.specs.Unit.{agrees}
use Rattle.reassembly.specs.Channel.{next_psn, heard, gap, unheard}
use Rattle.reassembly.specs.Join.{interrupted, begun, counter_follows, grown, extended, followed, acted, join_of, notes_of}
use Rattle.reassembly.specs.Run.{step, fresh}
use Rattle.frames.specs.Slot.{wrong_length}
use Rattle.broadcast.specs.Account.{read_of, events, lanes_after}
use Rattle.broadcast.specs.Frames.{slots_todo, reading}
use Rattle.broadcast.specs.Broadcast.{config, block, opening, closing, slots_over, frames, frame_lost}
use Rattle.capture_account.specs.Calls.{refusal_at}
use Rattle.capture_account.specs.Places.{placed_by}
use Rattle.capture_account.specs.Written.{calls_in, frames_calls}
use Rattle.capture_account.specs.Examples.{frame_lost_places}

pub frame-lost-placed : placed_by config (λ k. fresh) searching blank_layout 120 0 (frames_calls frame_lost 0 frames) ≡ frame_lost_places
unfolding be tab all_below count_below last_below data_bytes within used unused mode_good slots_of modes_good mode_from mode_of slot_length
    chosen relative_stream own_slot pointers_at layout_of decode_of block good_first total complete too_long marked cut_by cut end_from last_pointer
    sound end_within end_beyond held_total held_end continuation_of kept read_from finished resumed arrived slot_step run state_after flow_of
    compressed_of behind compressed_header header_of plain payload_start fixed_bytes extension_bytes extension_length lookup_of first_from
    reading_of head_read looked_up body_read indicator_of fragment_type_of mpu_of signalling_of parsed_of counter_fits aggregation_fits units_fit
    tested payload_of pieces_of field_bytes fields_of piece_of single_fits agrees next_psn heard gap unheard interrupted begun
    counter_follows grown extended followed acted join_of notes_of step read_of events lanes_after config opening closing slots_over frames
    refusal_at wrong_length placed_by slots_todo reading calls_in
frame-lost-placed = refl
