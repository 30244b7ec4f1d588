-- Why the small broadcast meets what demand 3 assumes, and shows what is claimed: its own slots and their account are computed.
use Prim.Native.Nat.{ℕ, suc, ◌≤◌}
use mathlib.Core.Path.{◌≡◌, refl, sym, ap, ◌∙◌, subst}
use mathlib.Core.Bool.{Bool, true, false, cond, ◌&&◌, not, true≢false}
use mathlib.Core.List.{List, [], ◌∷◌, ◌++◌, map}
use native.Mathlib.Omega.{arith}
use lib.Dec.{eqb}
use lib.ListN.{length, get_or, length-replicate}
use Rattle.wire.specs.Field.{be}
use Rattle.tmcc.specs.Layout.{Layout}
use Rattle.tmcc.specs.Decoded.{Decoded}
use Rattle.wire.specs.Tab.{tab}
use Rattle.tmcc.specs.Count.{all_below, count_below, last_below}
use Rattle.tmcc.specs.Mode.{
  data_bytes,
  within,
  used,
  unused,
  mode_good,
  slots_of as modeSlots,
  modes_good,
  mode_from,
  mode_of,
  slot_length,
}
use Rattle.tmcc.specs.Stream.{chosen, relative_stream, own_slot}
use Rattle.tmcc.specs.Layout.{pointers_at, layout_of, blank_layout}
use Rattle.tmcc.specs.Block.{decode_of}
use Rattle.tlv.specs.Packet.{good_first, total, complete, too_long, marked, cut_by, cut}
use Rattle.tlv.specs.Slot.{end_from, last_pointer, sound}
use Rattle.tlv.specs.Held.{end_within, end_beyond, held_total, held_end, continuation_of}
use Rattle.tlv.specs.Run.{
  Slot,
  searching,
  held,
  given,
  kept as kept-tail,
  read_from,
  finished,
  resumed,
  arrived,
  step as slot_step,
  run as slot-run,
  damaged,
}
use Rattle.tlv.specs.Row.{all_bytes, row, packets_by, row_packets}
use Rattle.mmtp.specs.Flow.{flow_of, compressed_of, behind, compressed_header}
use Rattle.mmtp.specs.Header.{header_of, plain, payload_start, fixed_bytes, extension_bytes, extension_length}
use Rattle.watch.specs.Given.{lookup_of, first_from}
use Rattle.mmtp.specs.Packet.{reading_of, head_read, looked_up, body_read}
use Rattle.mmtp.specs.Payload.{
  indicator_of,
  fragment_type_of,
  mpu_of,
  signalling_of,
  parsed_of,
  counter_fits,
  aggregation_fits,
  units_fit,
  tested,
  payload_of,
  pieces_of,
}
use Rattle.mmtp.specs.Unit.{field_bytes, fields_of, piece_of, single_fits}
use Rattle.reassembly.specs.Unit.{agrees}
use Rattle.reassembly.specs.Channel.{next_psn, heard, gap, unheard}
use Rattle.reassembly.specs.Join.{interrupted, begun, counter_follows, grown, extended, followed, acted, join_of, notes_of}
use Rattle.reassembly.specs.Run.{Content, Input, step, fresh, count}
use Rattle.reassembly.specs.Sent.{open_unit, sent_after, sent}
use Rattle.state.specs.Start.{start_refusal, start_of, twice_below, twice, before, start_from}
use Rattle.frames.specs.Slot.{wrong_length}
use Rattle.broadcast.specs.Account.{read_of, events, account}
use Rattle.broadcast.specs.Carried.{inputs, row_inputs, carried_units, intact_units, contents, Few}
use Rattle.intake.specs.Slot.{packet_memory, held_bytes}
use Rattle.queue.specs.Event.{Nothing}
use Rattle.state.specs.State.{State}
use Rattle.receiver.specs.Next.{next_of}
use Rattle.broadcast.specs.Drains.{Shown, note, unit, strip, Drains, stops, notes, units, HeldIs}
use Rattle.broadcast.specs.Calls.{Machine, frame, slot as slot-call, next, Did, did, Made}
use Rattle.broadcast.specs.Frames.{Whole, Damage, none, slot_at, slots_from, own_slots, layout_in}
use Rattle.broadcast.specs.Demand3.{started, Reads, shown_of, refused_of, NoNote, units_of, slots_of, kept}
use Rattle.broadcast.specs.Example.{slot, first, last, joined}
use Rattle.broadcast.specs.Broadcast.{
  config,
  block,
  layout,
  opening,
  closing,
  slots_over,
  frame_over,
  alone,
  frames,
  Memories,
  Assumed,
  Met,
  whole,
  Shows,
  slot_lost,
  frame_lost,
  ByteHeld,
  BroadcastClaims,
}
use Rattle.broadcast.specs.Machines.{At}
use Rattle.broadcast.proofs.SlotCalls.{SlotsFit}
use Rattle.broadcast.proofs.Script.{did-next}
use Rattle.broadcast.proofs.Items.{own-item}
use Rattle.broadcast.proofs.Reading.{FramesFit, framed, frame-did, frame_at}
use Rattle.broadcast.proofs.Arrivals.{damage_account}
use Rattle.broadcast.proofs.Demand3.{start-at, shows-account, made, demand_3}

config-accepted : (start_of config).refusal ≡ 0
unfolding config start_from start_refusal twice twice_below lookup_of first_from before
config-accepted = refl

block-layout : decode_of block 0x0102 ≡ record { refusal = 0; layout = layout }
unfolding be tab all_below count_below last_below data_bytes within used unused mode_good modeSlots modes_good mode_from mode_of slot_length
    chosen relative_stream own_slot pointers_at layout_of decode_of block
block-layout = refl

-- the two own live slots of a frame
abbrev pair : ℕ → List ℕ → List ℕ → List ((ℕ × ℕ) × Slot)
pair i a b = ((i, 0), slot 0 1869 a) ∷ ((i, 5), slot 22 1870 b) ∷ []

pair-slots : (i : ℕ) (a b : List ℕ) → slots_from layout i 0 (slots_over a b) ≡ pair i a b
unfolding slots_from slots_over
pair-slots i a b = refl

frame-slots : (i : ℕ) (a b : List ℕ) → slots_from (decode_of block 0x0102).layout i 0 (slots_over a b) ≡ pair i a b
frame-slots i a b = ap (λ (d : Decoded). slots_from d.layout i 0 (slots_over a b)) block-layout ∙ pair-slots i a b

-- all own live slots
unfoldable slots : List ((ℕ × ℕ) × Slot)
slots =
    pair 0 (opening first (alone 9)) (closing (alone 9))
    ++ (pair 1 (opening (alone 10) (alone 11)) (closing (alone 11)) ++ pair 2 (opening (last 6) (alone 12)) (closing (alone 12)))

own-slots : slots_of config frames ≡ slots
unfolding config frames own_slots slots
own-slots =
    rw (
      frame-slots 0 (opening first (alone 9)) (closing (alone 9)),
      frame-slots 1 (opening (alone 10) (alone 11)) (closing (alone 11)),
      frame-slots 2 (opening (last 6) (alone 12)) (closing (alone 12)),
    )

-- the slots have their lengths
fits : Layout → ℕ → List (List ℕ) → Bool
fits l s [] = true
fits l s (d ∷ ds) = not (wrong_length (get_or l.lengths s 0) (length d)) && fits l (suc s) ds

fits-slots : (l : Layout) (s : ℕ) (ds : List (List ℕ)) → fits l s ds ≡ true → SlotsFit l s ds
unfolding fits
fits-slots l s [] e = tt
fits-slots l s (d ∷ ds) e = go (wrong_length (get_or l.lengths s 0) (length d)) refl (fits-slots l (suc s) ds) e
  where
    go : (b : Bool) → wrong_length (get_or l.lengths s 0) (length d) ≡ b → (fits l (suc s) ds ≡ true → SlotsFit l (suc s) ds)
        → (not b && fits l (suc s) ds) ≡ true → SlotsFit l s (d ∷ ds)
    go true q k h = absurd (true≢false (sym h))
    go false q k h = (q, k h)

frame-fits : (x y : List ℕ) → fits layout 0 (slots_over (opening x y) (closing y)) ≡ true
    → SlotsFit (layout_in 0x0102 (frame_over x y)) 0 (slots_over (opening x y) (closing y))
frame-fits x y e =
    subst (λ (d : Decoded). SlotsFit d.layout 0 (slots_over (opening x y) (closing y))) (sym block-layout)
    (fits-slots layout 0 (slots_over (opening x y) (closing y)) e)

frames_fitting : (fits layout 0 (slots_over (opening first (alone 9)) (closing (alone 9))) ≡ true)
    × (fits layout 0 (slots_over (opening (alone 10) (alone 11)) (closing (alone 11))) ≡ true)
    × (fits layout 0 (slots_over (opening (last 6) (alone 12)) (closing (alone 12))) ≡ true)
unfolding fits wrong_length slots_over opening closing
frames_fitting = (refl, refl, refl)

whole-frame : (a b : List ℕ) → length (slots_over a b) ≡ 120
unfolding slots_over
whole-frame a b = refl

frames-fit : FramesFit config.stream frames
unfolding config frames
frames-fit =
    let e : (decode_of block 0x0102).refusal ≡ 0 = ap (λ (d : Decoded). d.refusal) block-layout in
    let f0 = frame-fits first (alone 9) frames_fitting.0 in
    let f1 = frame-fits (alone 10) (alone 11) frames_fitting.1 in
    let f2 = frame-fits (last 6) (alone 12) frames_fitting.2 in
    (e, whole-frame _ _, f0, (e, whole-frame _ _, f1, (e, whole-frame _ _, f2, tt)))

frames-whole : Whole frames
unfolding frames
frames-whole = (whole-frame _ _, (whole-frame _ _, (whole-frame _ _, tt)))

abbrev account_with : Damage → List Shown
account_with d = map strip (account config (damaged (kept d) slots))

accounts : (account_with none ≡ unit (whole 9) ∷ unit (whole 10) ∷ unit (whole 11) ∷ unit joined ∷ unit (whole 12) ∷ [])
    × (account_with slot_lost ≡ note 40 0 ∷ unit (whole 10) ∷ unit (whole 11) ∷ unit joined ∷ unit (whole 12) ∷ [])
    × (account_with frame_lost ≡ unit (whole 9) ∷ note 40 0 ∷ unit joined ∷ note 60 17 ∷ unit (whole 12) ∷ [])
unfolding be good_first total complete too_long marked cut_by cut end_from last_pointer sound end_within end_beyond held_total held_end
    continuation_of kept-tail read_from finished resumed arrived slot_step slot-run flow_of compressed_of
    behind compressed_header header_of plain payload_start fixed_bytes extension_bytes extension_length lookup_of first_from reading_of
    head_read looked_up body_read indicator_of fragment_type_of mpu_of signalling_of parsed_of counter_fits aggregation_fits units_fit tested
    payload_of pieces_of field_bytes fields_of piece_of single_fits agrees next_psn heard gap unheard interrupted begun counter_follows
    grown extended followed acted join_of notes_of step read_of events account config opening closing slots
accounts = (refl, refl, refl)

abbrev units_with : Damage → List Content
units_with d = contents (intact_units (kept d) (carried_units config slots))

carried : (length (row_inputs config slots) ≡ 6)
    × (units_with slot_lost ≡ whole 10 ∷ whole 11 ∷ joined ∷ whole 12 ∷ [])
    × (units_with frame_lost ≡ whole 9 ∷ joined ∷ whole 12 ∷ [])
unfolding be total complete all_bytes row packets_by row_packets flow_of compressed_of behind compressed_header header_of plain
    payload_start fixed_bytes extension_bytes extension_length lookup_of first_from reading_of head_read looked_up body_read indicator_of
    fragment_type_of mpu_of signalling_of parsed_of counter_fits aggregation_fits units_fit tested payload_of pieces_of field_bytes
    fields_of piece_of single_fits open_unit sent_after sent read_of inputs row_inputs carried_units config opening closing slots
carried = (refl, refl, refl)

-- no packet_id has more packets than there are
count_most : {B : Type 0} (k : ℕ) (xs : List (B × Input)) → count k xs ≤ length xs
count_most k [] = omega arith
count_most k (x ∷ xs) = go (eqb k x.1.place) (count_most k xs)
  where
    go : (b : Bool) → count k xs ≤ length xs → cond b (suc (count k xs)) (count k xs) ≤ suc (length xs)
    go true h = omega arith
    go false h = omega arith

few-packets : Few config (slots_of config frames)
few-packets k = rw own-slots (omega (arith, count_most k (row_inputs config slots), carried.0))

module _ (p c : List ℕ) (m : Memories p c) where
  begins : At {A = ℕ × ℕ} config (started config p c) searching (λ k. fresh) blank_layout 120
  unfolding config
  begins = start-at config p c config-accepted (omega (arith, m.0)) (omega (arith, m.1))

  reading-shows : (d : Damage) (ys : List Made) → Reads config frames d p c ys
      → (shown_of config frames d p c ys ≡ account_with d) × (refused_of config frames d p c ys ≡ [])
  reading-shows d ys h =
      let s = shows-account config config-accepted frames frames-fit d p c begins ys h in (
        s.0
            ∙ ap (map strip)
            (damage_account config config.stream d 0 frames frames-fit
            ∙ ap (λ xs. account config (damaged (kept d) xs)) own-slots),
        s.1,
      )

  readable : (d : Damage) → (ys : List Made) × Reads config frames d p c ys
  readable d = made config config-accepted frames frames-fit d p c begins

  -- the assumptions
  assumed : (xs : List Made) → Reads config frames none p c xs → Assumed config frames p c xs
  assumed xs h =
      let s = reading-shows none xs h in
      record {
        accepted = config-accepted;
        whole-frames = frames-whole;
        reads = h;
        none-refused = s.1;
        no_note = subst NoNote (sym (s.0 ∙ accounts.0)) tt;
        few = few-packets;
      }

  -- the conclusion
  leaves : (d : Damage) (ys : List Made) → Reads config frames d p c ys → units_of (shown_of config frames d p c ys) ≡ units_with d
  leaves d ys h =
      let x = readable none in
      let a = assumed x.0 x.1 in
      let r =
      demand_3 config a.accepted frames a.whole-frames d p c p c refl refl x.0 a.reads a.none-refused
      a.no_note a.few in
      (r.damaged ys h).units-left ∙ ap (λ xs. contents (intact_units (kept d) (carried_units config xs))) own-slots

-- slot 0 of frame 0 over lists: its first packet opens a unit, its last byte is held
byte_step : let w = slot_step {A = ℕ × ℕ} searching (given (0, 0) (slot_at layout 0 (opening first (alone 9)))) in
    (w.state ≡ held ((0, 0) ∷ []) (0x7f ∷ [])) × (map strip (events config (λ k. fresh) w.events) ≡ [])
unfolding be good_first total complete too_long marked cut_by cut end_from last_pointer sound kept-tail read_from arrived slot_step flow_of
    compressed_of behind compressed_header header_of plain payload_start fixed_bytes extension_bytes extension_length lookup_of first_from reading_of
    head_read looked_up body_read indicator_of fragment_type_of mpu_of signalling_of parsed_of counter_fits aggregation_fits units_fit tested
    payload_of pieces_of field_bytes fields_of piece_of single_fits agrees next_psn heard gap unheard interrupted begun counter_follows
    grown extended followed acted join_of notes_of step read_of events config opening
byte_step = (refl, refl)

-- where calls of next show nothing, the first says so
none-shown : {p : List ℕ} {st st' : State} {c c' : List ℕ} {es : List Shown} → Drains p st c es st' c' → es ≡ []
    → next_of st p c ≡ (record { event = Nothing; state = st' }, c')
none-shown (stops q) e = q
none-shown (notes q d) e = let z : ◌≡◌ {A = ℕ} 0 1 = cc in absurd (omega arith)
none-shown (units q d) e = let z : ◌≡◌ {A = ℕ} 0 1 = cc in absurd (omega arith)

abbrev OneByte : Machine → Type 0
OneByte m = (m.state.held.on ≡ true) × (held_bytes m.state.held m.packet ≡ 0x7f ∷ [])

byte-held : ByteHeld
unfolding config wrong_length
byte-held p c m =
    let d = opening first (alone 9) in
    let a = begins p c m in
    let s = started config p c in
    let e : (decode_of block 0x0102).refusal ≡ 0 = ap (λ (x : Decoded). x.refusal) block-layout in
    let f : (did (frame block) s).machine ≡ framed config s layout =
    ap (λ (x : Did). x.machine) (frame-did config s searching (λ k. fresh) blank_layout block a e)
    ∙ ap (λ (x : Decoded). framed config s x.layout) block-layout in
    let i =
    own-item config (framed config s layout) searching (λ k. fresh) layout (0, 0) 0 d
    (frame_at config s searching (λ k. fresh) blank_layout layout a) (omega arith) refl (unfold opening in refl) in
    let h = subst (HeldIs i.state.held _) byte_step.0 i.at.tracks.held in
    let r = (did (slot-call d) (framed config s layout)).machine in
    let n = did-next r.state r.packet r.collecting _ _ (none-shown i.drains byte_step.1) in
    subst (λ (x : Machine). OneByte (did next (did (slot-call d) x).machine).machine) (sym f)
    (subst (λ (x : Did). OneByte x.machine) (sym n) (h.0, h.2))

met : Met
met p c m = let x = readable p c m none in (x.0, assumed p c m x.0 x.1)

shows-all : (d : Damage) (es : List Shown) → account_with d ≡ es → Shows d es
shows-all d es e p c m =
    (λ ys h. let s = reading-shows p c m d ys h in (s.0 ∙ e, s.1), readable p c m d)

pub broadcast_claims : BroadcastClaims
broadcast_claims = (
  block-layout,
  met,
  (length-replicate {A = ℕ} packet_memory 0, length-replicate {A = ℕ} 200 0),
  shows-all none _ accounts.0,
  shows-all slot_lost _ accounts.1,
  shows-all frame_lost _ accounts.2,
  λ p c m ys h. leaves p c m slot_lost ys h ∙ carried.1,
  λ p c m ys h. leaves p c m frame_lost ys h ∙ carried.2,
  byte-held,
)
