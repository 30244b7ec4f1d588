-- Captures and their lines, computed over the definition.
use Rattle.std.specs.Prelude.{◌≡◌, ℕ, List, [], ◌∷◌, ◌++◌, replicate, refl}
use Rattle.wire.specs.Field.{be}
use Rattle.wire.specs.Tab.{tab}
use Rattle.tmcc.specs.Count.{all_below, count_below, last_below}
use Rattle.tmcc.specs.Mode.{data_bytes, within, used, unused, mode_good, slots_of, modes_good}
use Rattle.tmcc.specs.Block.{decode_of}
use Rattle.watch.specs.Given.{first_from, lookup_of}
use Rattle.reassembly.specs.Channel.{unheard}
use Rattle.intake.specs.Slot.{lost_of}
use Rattle.delivery.specs.Cursor.{left}
use Rattle.state.specs.Start.{before, twice_below, twice, fresh_state, start_refusal, start_from}
use Rattle.frames.specs.Frame.{frame_busy, frame_of, loss_of, lost_frame_of}
use Rattle.frames.specs.Slot.{short_by, slot_refusal, slot_of, lost_slot_of}
use Rattle.receiver.specs.Next.{next_of}
use Rattle.lines.specs.Decimal.{digits, decimal}
use Rattle.lines.specs.Line.{field, refused_line, end_line}
use Rattle.capture.specs.Command.{letter_of, slot_size, size_of, whole, ids_of, config_of}
use Rattle.capture.specs.Session.{fresh_session}
use Rattle.capture.specs.Waits.{queue_waits, cursor_waits, waits_by}
use Rattle.capture.specs.Capture.{call_of, after_call, done_of, event_line, tallied, closed, drained_by, drained_of, text_by, text_of, capture_of}

-- C with stream 0x0102, CID 2, n ids, the first of them 17, and R = 16
abbrev start : ℕ → List ℕ
start n = 67 ∷ 1 ∷ 2 ∷ 0 ∷ 2 ∷ n ∷ 0 ∷ 17 ∷ (replicate 30 0 ++ (0 ∷ 0 ∷ 0 ∷ 16 ∷ []))

-- X, S with two bytes, L
abbrev lost_frame : List ℕ
lost_frame = 88 ∷ []

abbrev slot : List ℕ
slot = 83 ∷ 0 ∷ 2 ∷ 1 ∷ 2 ∷ []

-- `end f 0 0`, and `refused 20`
abbrev ends : ℕ → List ℕ
ends f = 101 ∷ 110 ∷ 100 ∷ 32 ∷ f ∷ 32 ∷ 48 ∷ 32 ∷ 48 ∷ 10 ∷ []

abbrev refuses : List ℕ → List ℕ
refuses n = (114 ∷ 101 ∷ 102 ∷ 117 ∷ 115 ∷ 101 ∷ 100 ∷ 32 ∷ n) ++ (10 ∷ [])

-- without packet memory, and with 16 bytes of collecting memory
abbrev lines : List ℕ → List ℕ
lines b = capture_of [] (replicate 16 0) b

-- C's fields, each of several bytes: stream 0x0102, CID 0x0abc, sixteen ids from 0x1234 on, R = 0x010203
abbrev wide : List ℕ
wide =
    67 ∷ 1 ∷ 2 ∷ 0x0a ∷ 0xbc ∷ 16 ∷ 0x12 ∷ 0x34 ∷ (replicate 28 0xff ++ (0x43 ∷ 0x21 ∷ 0 ∷ 1 ∷ 2 ∷ 3 ∷ []))

abbrev Fields : Type 0
Fields =
    ((config_of wide).stream ≡ 0x0102) × ((config_of wide).cid ≡ 0x0abc) × ((config_of wide).rules.limit ≡ 0x010203)
    × ((config_of wide).watch.n ≡ 16)
    × ((config_of wide).watch.ids ≡ 0x1234 ∷ (replicate 14 0xffff ++ (0x4321 ∷ [])))

fields : Fields
unfolding be tab ids_of config_of
fields = (refl, refl, refl, refl, refl)

abbrev Captures : Type 0
Captures =
    -- at the end, an unknown or cut command
    (lines [] ≡ ends 48) × (lines (0 ∷ start 1) ≡ ends 48) × (lines (67 ∷ 1 ∷ []) ≡ ends 48)
    -- "C comes first and once"
    × (lines lost_frame ≡ ends 48) × (lines (start 1 ++ start 1 ++ lost_frame) ≡ ends 48)
    -- a refusal; what follows it is not read
    × (lines (start 0 ++ slot) ≡ refuses (49 ∷ []) ++ ends 48)
    × (lines (start 1 ++ slot ++ slot) ≡ refuses (50 ∷ 48 ∷ []) ++ ends 48)
    -- a cut slot is not carried out, even if it would be refused
    × (lines (start 1 ++ (83 ∷ 0 ∷ 2 ∷ 1 ∷ [])) ≡ ends 48)
    -- packet memory is short: 22 by the next that a lost frame owes; the frame counts
    × (lines (start 1 ++ lost_frame) ≡ refuses (50 ∷ 50 ∷ []) ++ ends 49)
    -- no mode is good
    × (lines (start 1 ++ (70 ∷ replicate 1178 0)) ≡ refuses (49 ∷ 50 ∷ []) ++ ends 48)

captures : Captures
unfolding be tab all_below count_below last_below data_bytes within used unused mode_good slots_of modes_good decode_of first_from lookup_of
    unheard lost_of before twice_below twice fresh_state start_refusal start_from frame_busy frame_of loss_of lost_frame_of short_by slot_refusal
    slot_of lost_slot_of next_of digits decimal field refused_line end_line letter_of slot_size size_of whole ids_of config_of fresh_session
    queue_waits cursor_waits waits_by left call_of after_call done_of event_line tallied closed drained_by drained_of text_by text_of
    capture_of
captures = (refl, refl, refl, refl, refl, refl, refl, refl, refl, refl)
