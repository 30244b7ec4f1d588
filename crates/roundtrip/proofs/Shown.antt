-- Why the example comes back: the frame's own live slots are the run's, by their pointers, which are computed; what is good is
-- accepted, and the round trip says what is shown.
use Prim.Native.Nat.{ℕ, zero, suc, ◌+◌, ◌*◌, ◌≤◌}
use mathlib.Core.Path.{◌≡◌, refl, sym, ap, ◌∙◌}
use mathlib.Core.Bool.{true, false}
use mathlib.Core.List.{List, [], ◌∷◌, ◌++◌, map, map-append}
use native.Mathlib.Nat.{suc-mul}
use native.Mathlib.Numerals.{add-one}
use native.Mathlib.Omega.{arith}
use lib.ListN.{length, drop, replicate, length-drop}
use lib.Seq.{length-take-le}
use Rattle.wire.specs.Field.{be, bytes_of}
use Rattle.wire.specs.Lists.{sift}
use Rattle.tmcc.specs.Layout.{Layout}
use Rattle.tmcc.specs.declared.layout.Pointers.{Pointers}
use Rattle.tmcc.specs.Decoded.{Decoded}
use Rattle.wire.specs.Tab.{tab}
use Rattle.tmcc.specs.Count.{all_below, count_below, last_below}
use Rattle.tmcc.specs.Mode.{data_bytes, within, used, unused, mode_good, slots_of as modeSlots, modes_good, mode_from, mode_of, slot_length}
use Rattle.tmcc.specs.Stream.{chosen, relative_stream, own_slot}
use Rattle.tmcc.specs.Layout.{pointers_at, layout_of}
use Rattle.tmcc.specs.Block.{decode_of}
use Rattle.tlv.specs.Run.{Slot}
use Rattle.tlv.specs.Slot.{none as nowhere}
use Rattle.packer.specs.Pieces.{pieces_by, pieces, indicator_at, counter_at, with_psn, piece_at}
use Rattle.packer.specs.Packet.{
  outer_head,
  payload_type_of,
  mmtp_head,
  indicator_bits,
  fragment_bits,
  mpu_head,
  signalling_head,
  payload_head,
  timed_fields,
  fields_written,
  data_unit,
  mmtp_of,
  packet_of,
}
use Rattle.packer.specs.Packer.{packet_at, packets_from, packets, joined}
use Rattle.cutter.specs.Pointers.{starts, ends, in_slot, ends_in, first_offset, last_offset, top_of, last_of}
use Rattle.cutter.specs.Slot.{slot_at}
use Rattle.cutter.specs.Claims.{slots_from}
use Rattle.broadcast.specs.Frames.{none, own_slots, slots_from as frameSlots}
use Rattle.broadcast.specs.Accepts.{GoodFrame}
use Rattle.broadcast.proofs.Accepts.{accepts}
use Rattle.watch.specs.Given.{lookup_of, first_from}
use Rattle.state.specs.Start.{before, twice_below, twice, start_refusal, Starts}
use Rattle.state.proofs.StartLaws.{starts as start-keeps}
use Rattle.roundtrip.specs.Sending.{all_packets, padded}
use Rattle.roundtrip.specs.RoundTrip.{run_of}
use Rattle.roundtrip.specs.Example.{config, units, gaps}
use Rattle.roundtrip.specs.Shown.{slots, pointers, block, fives, frame, frames, ComesBack}
use Rattle.roundtrip.proofs.Runs.{Good, padded-good, run-cut}
use Rattle.roundtrip.proofs.RoundTrip.{all-sent, round_trip}
use Rattle.roundtrip.proofs.Example.{example}

abbrev placed : Slot → ℕ × ℕ
placed x = (x.top, x.last)

-- the pointers of n slots from slot s on, by where packets start and end
pointers_from : List ℕ → List ℕ → ℕ → ℕ → ℕ → List (ℕ × ℕ)
pointers_from starting ending l s zero = []
pointers_from starting ending l s (suc n) = (
  first_offset (s * l) nowhere (sift (in_slot (s * l) l) starting),
  last_offset (s * l) nowhere (sift (ends_in (s * l) l) ending),
)
    ∷ pointers_from starting ending l (s + 1) n

-- a run is cut into the packets that it was put together from
cut-pointers : (ps : List (List ℕ)) → Good ps → (l s n : ℕ)
    → map placed (slots_from (joined ps) l s n) ≡ pointers_from (starts 0 ps) (ends 0 ps) l s n
unfolding slot_at top_of last_of pointers_from
cut-pointers ps g l s zero = refl
cut-pointers ps g l s (suc n) = rw (run-cut ps g, cut-pointers ps g l (s + 1) n)

-- of the example
abbrev packed : List (List ℕ)
packed = padded gaps (all_packets config.cid units)

packed-good : Good packed
packed-good =
    padded-good gaps (all_packets config.cid units) example.padding (all-sent config (omega arith) units example.sendable).good

computed : pointers_from (starts 0 packed) (ends 0 packed) 1870 0 13 ≡ pointers
unfolding bytes_of pieces_by pieces indicator_at counter_at with_psn piece_at outer_head payload_type_of mmtp_head indicator_bits fragment_bits mpu_head
    signalling_head payload_head timed_fields fields_written data_unit mmtp_of packet_of packet_at packets_from packets starts ends in_slot
    all_packets padded pointers_from
computed = refl

slot-pointers : map placed slots ≡ pointers
slot-pointers = cut-pointers packed packed-good 1870 0 13 ∙ computed

-- slots of l bytes
sizes : (run : List ℕ) (l s n : ℕ) → s * l + n * l ≤ length run
    → map length (map (λ (x : Slot). x.bytes) (slots_from run l s n)) ≡ replicate n l
unfolding slot_at
sizes run l s zero h = refl
sizes run l s (suc n) h =
    let m : suc n * l ≡ n * l + l = suc-mul n l in
    let k : (s + 1) * l ≡ s * l + l = rw (add-one, suc-mul) in
    rw (length-take-le l (drop (s * l) run) (omega (arith, length-drop (s * l) run)), sizes run l (s + 1) n (omega arith))

-- the layout of the block
abbrev fives_of : {A : Type 0} → A → List A → List A
fives_of z [] = []
fives_of z (x ∷ xs) = x ∷ z ∷ z ∷ z ∷ z ∷ fives_of z xs

abbrev pointer : ℕ × ℕ → Pointers
pointer x = record { 0 = x.0; 1 = x.1 }

abbrev layout : Layout
layout =
    record {
      pointers = fives_of (pointer (0, 0)) (map pointer (pointers ++ replicate 11 (0, 0)));
      lengths = fives_of 0 (replicate 13 1870 ++ replicate 11 1870);
      own = fives_of false (replicate 13 true ++ replicate 11 false);
    }

block-layout : decode_of block 1 ≡ record { refusal = 0; layout = layout }
unfolding be bytes_of tab all_below count_below last_below data_bytes within used unused mode_good modeSlots modes_good mode_from mode_of slot_length
    chosen relative_stream own_slot pointers_at layout_of decode_of block
block-layout = refl

-- lengths of live slots and dummies
fives-lengths : (ds : List (List ℕ)) → map length (fives ds) ≡ fives_of 0 (map length ds)
fives-lengths [] = refl
fives-lengths (d ∷ ds) = ap (λ (ls : List ℕ). length d ∷ 0 ∷ 0 ∷ 0 ∷ 0 ∷ ls) (fives-lengths ds)

good : GoodFrame config.stream frame
unfolding frame
good =
    let bs = map (λ (x : Slot). x.bytes) slots in
    let z : List (List ℕ) = replicate 11 (replicate 1870 0) in
    let run = run_of config units gaps in
    let n = sizes run 1870 0 13 (omega (arith, example.multiple)) in
    record {
      block = ap (λ (d : Decoded). d.refusal) block-layout;
      lengths =
          fives-lengths (bs ++ z) ∙ ap (fives_of 0) (map-append length bs z ∙ ap (λ (ls : List ℕ). ls ++ replicate 11 1870) n)
          ∙ sym (ap (λ (d : Decoded). d.layout.lengths) block-layout);
    }

-- slots from their pointers and bytes
abbrev rejoined : List (ℕ × ℕ) → List Slot → List Slot
rejoined [] xs = []
rejoined (p ∷ ps) [] = []
rejoined (p ∷ ps) (x ∷ xs) = record { top = p.0; last = p.1; bytes = x.bytes } ∷ rejoined ps xs

rejoin : (xs : List Slot) → rejoined (map placed xs) xs ≡ xs
rejoin [] = refl
rejoin (x ∷ xs) = ap (λ (ys : List Slot). x ∷ ys) (rejoin xs)

abbrev own_in : Layout → List Slot
own_in l = map (λ (x : (ℕ × ℕ) × Slot). x.1) (frameSlots l 0 0 frame.slots ++ [])

layout-slots : own_in layout ≡ rejoined pointers slots
unfolding frame frameSlots
layout-slots = refl

own : map (λ (x : (ℕ × ℕ) × Slot). x.1) (own_slots config.stream 0 frames) ≡ slots
unfolding own_slots frame
own =
    ap (λ (d : Decoded). own_in d.layout) block-layout ∙ layout-slots
    ∙ ap (λ (ps : List (ℕ × ℕ)). rejoined ps slots) (sym slot-pointers) ∙ rejoin slots

whole-frame : length frame.slots ≡ 120
unfolding frame
whole-frame = refl

keeps : Starts config
unfolding start_refusal twice twice_below before lookup_of first_from
keeps = start-keeps config refl

pub comes_back : ComesBack
comes_back =
    let e = example.starts in
    let back = (round_trip config e units example.sendable example.consecutive gaps example.padding 1870 13 example.listed
    example.multiple).comes_back frames (omega (arith, whole-frame)) own in
    record {
      good = good;
      own = own;
      readable = λ p c hp hc. (accepts config keeps frames (good, tt) none p c hp hc).readable;
      shows = λ p c hp hc xs h.
          let r = (accepts config keeps frames (good, tt) none p c hp hc).none-refused xs h in
          (r, back p c xs h r);
    }
