-- Examples of calls over plain words, computed over the definitions: bounds of settings, records, refusals in order, many events.
use Rattle.std.specs.Prelude.{ℕ, ◌≡◌, refl, true, false, List, [], ◌∷◌, ◌++◌, replicate}
use Rattle.wire.specs.Memory.{part_of, pasted}
use Rattle.wire.specs.Tab.{tab}
use Rattle.wire.specs.Words.{put_from}
use Rattle.tmcc.specs.Layout.{blank_layout}
use Rattle.watch.specs.Given.{first_from, lookup_of}
use Rattle.reassembly.specs.Channel.{unheard}
use Rattle.words.specs.Channel.{read_fields, read_unit, field_words, unit_words}
use Rattle.intake.specs.Slot.{noted}
use Rattle.queue.specs.declared.event.Memory.{Memory}
use Rattle.queue.specs.declared.event.Memory.TheVariants.{Packet, Collecting}
use Rattle.queue.specs.declared.event.Given.{Given}
use Rattle.queue.specs.Event.{Nothing, Note, Unit}
use Rattle.queue.specs.Waiting.{One}
use Rattle.queue.specs.Queue.{empty, giving, event_taken}
use Rattle.delivery.specs.Cursor.{turn_of, advanced_of, left}
use Rattle.state.specs.State.{State, with_owed, with_slot, with_queue, refused}
use Rattle.state.specs.Start.{before, twice_below, twice, fresh_state, start_refusal, start_from}
use Rattle.frames.specs.Slot.{short_by}
use Rattle.receiver.specs.Next.{read_on, read_all, next_of}
use Rattle.receiver.specs.Show.{show_of}
use Rattle.queue.specs.Words.{memory_at, memory_word}
use Rattle.calls.specs.Bounds.{are_within}
use Rattle.calls.specs.Settings.{most16, most64, settings_most, start_by, ids_in, config_in}
use Rattle.calls.specs.Record.{note_record, unit_record, event_record, read_place, unit_most, is_unit_record}
use Rattle.calls.proofs.RecordLaws.{read_event}
use Rattle.calls.specs.Events.{next_left, next_call, events_of, put_events, events_call}
use Rattle.calls.specs.Show.{copied, show_call}

-- settings: stream id, CID, n, R, an id first and an id last, and the last word
abbrev settings : ℕ → ℕ → ℕ → ℕ → ℕ → ℕ → ℕ → List ℕ
settings stream cid n limit first last more =
    stream ∷ cid ∷ n ∷ limit ∷ first ∷ (replicate 14 0 ++ last ∷ (replicate 11 0 ++ more ∷ []))

-- the receiver that one packet_id and R = 4 make
abbrev fresh : State
fresh = fresh_state (record { stream = 1; cid = 2; watch = record { ids = 7 ∷ replicate 15 0; n = 1 }; rules = record { limit = 4 } })

abbrev Starts : Type 0
Starts =
    -- each word at its bound, and one above it; n and R have start's own bounds
    (are_within (settings most16 most16 most64 most64 most16 most16 0) settings_most ≡ true)
    × (are_within (settings 65536 0 0 0 0 0 0) settings_most ≡ false) × (are_within (settings 0 65536 0 0 0 0 0) settings_most ≡ false)
    × (are_within (settings 0 0 0 0 65536 0 0) settings_most ≡ false) × (are_within (settings 0 0 0 0 0 65536 0) settings_most ≡ false)
    × (are_within (settings 0 0 0 0 0 0 1) settings_most ≡ false)
    -- 31 words are too few, 33 are not too many
    × (are_within (replicate 31 0) settings_most ≡ false) × (are_within (replicate 33 9) settings_most ≡ false)
    × (are_within (replicate 32 0 ++ 9 ∷ []) settings_most ≡ true)
    -- 91 before 1, and then start's own
    × (start_by fresh (settings 65536 4096 0 0 0 0 0) ≡ refused 91 fresh) × (start_by fresh (settings 1 4096 1 0 7 0 0) ≡ refused 3 fresh)
    × ((start_by (with_owed fresh true) (settings 1 2 1 4 7 0 0)).state ≡ fresh)

starts : Starts
unfolding are_within settings_most start_by start_from start_refusal twice twice_below before lookup_of first_from ids_in config_in tab fresh_state
starts = (refl, refl, refl, refl, refl, refl, refl, refl, refl, refl, refl, refl)

-- a unit of three bytes from byte 5 of a memory
abbrev given : Memory → Given
given m =
    record {
      unit = record {
        packet_id = 7;
        kind = 2;
        psn = record { 0 = 11 };
        mpu = 12;
        fields = record { movie_fragment = 13; sample = 14; offset = 15; priority = 16; dependency = 17; item = 18 };
      };
      place = record { memory = m; start = 5; len = 3 };
    }

abbrev unit_written : List ℕ
unit_written = 2 ∷ 0 ∷ 1 ∷ 5 ∷ 3 ∷ 7 ∷ 2 ∷ 11 ∷ 12 ∷ 13 ∷ 14 ∷ 15 ∷ 16 ∷ 17 ∷ 18 ∷ replicate 9 0

abbrev Records : Type 0
Records =
    (event_record Nothing ≡ replicate 24 0)
    × (event_record (Note 52 7) ≡ 1 ∷ 52 ∷ 0 ∷ 0 ∷ 0 ∷ 7 ∷ replicate 18 0)
    × (event_record (Unit (given Collecting)) ≡ unit_written)
    × (read_event (9 ∷ unit_written) 1 ≡ Unit (given Collecting))
    -- a record that the packer takes: that of a unit, its words within their fields, the words behind them 0
    × (is_unit_record unit_written ≡ true) × (is_unit_record (replicate 24 0) ≡ false)
    × (is_unit_record (2 ∷ 9 ∷ 9 ∷ 9 ∷ 9 ∷ 65535 ∷ 255 ∷ replicate 17 0) ≡ true)
    × (is_unit_record (2 ∷ 0 ∷ 0 ∷ 0 ∷ 0 ∷ 65536 ∷ replicate 18 0) ≡ false)
    × (is_unit_record (2 ∷ 0 ∷ 0 ∷ 0 ∷ 0 ∷ 0 ∷ 256 ∷ replicate 17 0) ≡ false)
    × (is_unit_record (2 ∷ (replicate 22 0 ++ 1 ∷ [])) ≡ false) × (is_unit_record (2 ∷ replicate 22 0) ≡ false)

records : Records
unfolding event_record note_record unit_record unit_words field_words memory_word memory_at read_event read_place read_unit read_fields is_unit_record are_within unit_most
records = (refl, refl, refl, refl, refl, refl, refl, refl, refl, refl, refl)

-- next is owed: a unit of a packet waits, and then note 41 of the slot
abbrev waiting : Memory → State
waiting m = with_queue (with_slot (with_owed fresh true) fresh.held (noted 41)) (giving empty (One (given m)))

abbrev packet : List ℕ
packet = replicate 21433 0

abbrev collecting : List ℕ
collecting = replicate 4 0

abbrev Events : Type 0
Events =
    -- 92 before 22; a refused call writes nothing
    (next_call fresh [] [] (replicate 23 9) ≡ (92, fresh, [], replicate 23 9))
    × (next_call fresh [] [] (replicate 24 9) ≡ (22, fresh, [], replicate 24 9))
    × (events_call fresh [] [] (replicate 23 9) 5 ≡ (92, 5, fresh, [], replicate 23 9))
    × (events_call fresh [] [] (replicate 24 9) 5 ≡ (22, 5, fresh, [], replicate 24 9))
    -- nothing waits: a record of zeros, and no event
    × ((next_call fresh packet collecting (replicate 25 9)).3 ≡ replicate 24 0 ++ 9 ∷ [])
    × (events_call fresh packet collecting (replicate 25 9) 5 ≡ (0, 0, fresh, collecting, replicate 25 9))
    -- a whole unit and the note behind it; nothing is owed then
    × ((events_of 5 (waiting Packet) packet collecting).events ≡ Unit (given Packet) ∷ Note 41 0 ∷ [])
    × ((events_of 5 (waiting Packet) packet collecting).state.owed ≡ false)
    -- no more than there is room for
    × ((events_of 1 (waiting Packet) packet collecting).events ≡ Unit (given Packet) ∷ [])
    × ((events_of 1 (waiting Packet) packet collecting).state.owed ≡ true)
    -- a joined unit is the last one
    × ((events_of 5 (waiting Collecting) packet collecting).events ≡ Unit (given Collecting) ∷ [])
    × ((events_of 5 (waiting Collecting) packet collecting).state.owed ≡ true)
    × ((events_call (waiting Collecting) packet collecting (replicate 49 9) 5).1 ≡ 1)
    × ((events_call (waiting Collecting) packet collecting (replicate 49 9) 5).4 ≡ unit_written ++ replicate 25 9)

events : Events
unfolding next_call next_left events_call events_of put_events put_from event_record note_record unit_record unit_words field_words memory_word next_of read_all read_on turn_of
    advanced_of event_taken left short_by fresh_state blank_layout unheard tab
events = (refl, refl, refl, refl, refl, refl, refl, refl, refl, refl, refl, refl, refl, refl)

abbrev Shows : Type 0
Shows =
    -- a copy of one byte, of collecting memory; an output and a record that are too short; a place outside
    (show_call [] (4 ∷ 5 ∷ []) (2 ∷ 0 ∷ 1 ∷ 1 ∷ 1 ∷ replicate 19 0) (8 ∷ 9 ∷ []) 7 ≡ (0, 1, 5 ∷ 9 ∷ []))
    × (show_call (4 ∷ 5 ∷ []) [] (2 ∷ 0 ∷ 0 ∷ 0 ∷ 2 ∷ replicate 19 0) (9 ∷ []) 7 ≡ (93, 7, 9 ∷ []))
    × (show_call (4 ∷ 5 ∷ []) [] (2 ∷ 0 ∷ 0 ∷ 0 ∷ 2 ∷ replicate 18 0) (9 ∷ []) 7 ≡ (92, 7, 9 ∷ []))
    × (show_call (4 ∷ 5 ∷ []) [] (2 ∷ 0 ∷ 0 ∷ 1 ∷ 2 ∷ replicate 19 0) (9 ∷ []) 7 ≡ (0, 0, 9 ∷ []))

shows : Shows
unfolding show_call copied show_of part_of pasted read_place memory_at
shows = (refl, refl, refl, refl)

pub examples : Starts × Records × Events × Shows
examples = (starts, records, events, shows)
