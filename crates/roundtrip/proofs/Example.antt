-- That the run meets the conditions, computed.
use Rattle.std.specs.Prelude.{Some}
use Prim.Native.Nat.{ℕ, zero, suc, ◌<◌, ◌≤◌}
use mathlib.Core.Path.{◌≡◌, refl}
use mathlib.Core.Bool.{Bool, true, false, ◌&&◌}
use native.Mathlib.Omega.{arith}
use mathlib.Core.List.{List, [], ◌∷◌, ◌++◌}
use lib.ListN.{length, replicate}
use lib.Dec.{eqb, ltb, leb}
use borrow.Author.Tests.{leb-true, ltb-true, eqb-true, eqb-false}
use Rattle.wire.specs.Field.{be, bytes_of}
use Rattle.tmcc.specs.Count.{all_below}
use Rattle.tmcc.specs.Mode.{data_bytes}
use Rattle.tlv.specs.Packet.{good_first, total, complete, marked}
use Rattle.watch.specs.Given.{lookup_of, first_from}
use Rattle.reassembly.specs.declared.unit.Unit.{Unit}
use Rattle.state.specs.Start.{before, twice_below, twice, start_refusal, start_from}
use Rattle.packer.specs.Pieces.{pieces_by, pieces, indicator_at, counter_at, with_psn, piece_at}
use Rattle.packer.specs.Packet.{
  outer_head,
  payload_type_of,
  mmtp_head,
  indicator_bits,
  fragment_bits,
  mpu_head,
  signalling_head,
  payload_head,
  timed_fields,
  fields_written,
  data_unit,
  mmtp_of,
  packet_of,
}
use Rattle.packer.specs.Packer.{packet_at, packets_from, packets, joined}
use Rattle.packer.specs.Reads.{own_fields, Packable}
use Rattle.cutter.specs.Slot.{unlisted}
use Rattle.roundtrip.specs.Sending.{
  Parcel,
  piece_count,
  Sendable,
  AllSendable,
  Consecutive,
  Null,
  AllGaps,
  all_packets,
  padded,
}
use Rattle.roundtrip.specs.Example.{config, in_pieces, timed, nothing, item, above_limit, metadata, units, null, gaps, Meets}

no_gaps : (n : ℕ) (gs : List (List (List ℕ))) → AllGaps gs → AllGaps (replicate n [] ++ gs)
no_gaps zero gs h = h
no_gaps (suc n) gs h = (tt, no_gaps n gs h)

-- by its length field
null_so : (a b : ℕ) → marked (null a b) ≡ true → complete (null a b) ≡ true → eqb (total (null a b)) (length (null a b)) ≡ true
    → leb (length (null a b)) 16384 ≡ true → Null (null a b)
null_so a b m c e l = record { type = refl; whole = (m, c, eqb-true _ _ e); short = leb-true _ _ l }

padding : AllGaps gaps
unfolding be good_first total complete marked
padding = (
  (null_so 0 0 refl refl refl refl, tt),
  (
    (null_so 0x3F 0xFC refl refl refl refl, (null_so 0 0 refl refl refl refl, tt)),
    no_gaps 304 ((null 3 15 ∷ []) ∷ []) ((null_so 3 15 refl refl refl refl, tt), tt),
  ),
)

-- the numbers of a unit fit their fields
abbrev in_range : Unit → Bool
in_range u =
    leb u.kind 4
    && (ltb u.packet_id 65536
    && (ltb u.psn.0 4294967296
    && (ltb u.mpu 4294967296
    && (ltb u.fields.movie_fragment 4294967296
    && (ltb u.fields.sample 4294967296
    && (ltb u.fields.offset 4294967296 && ltb u.fields.item 4294967296))))))

and_both : (a b : Bool) → a && b ≡ true → (a ≡ true) × (b ≡ true)
and_both true b e = (refl, e)
and_both false b e = (cc, cc)

packable : (u : Unit) → in_range u ≡ true → own_fields u.kind u.fields ≡ u.fields → (u.kind ≡ 4 → u.mpu ≡ 0) → Packable u
packable u r f m =
    let a = and_both _ _ r in
    let b = and_both _ _ a.1 in
    let c = and_both _ _ b.1 in
    let d = and_both _ _ c.1 in
    let g = and_both _ _ d.1 in
    let h = and_both _ _ g.1 in
    let i = and_both _ _ h.1 in
    record {
      kinds = leb-true _ _ a.0;
      ids = ltb-true _ _ b.0;
      psns = ltb-true _ _ c.0;
      mpus = ltb-true _ _ d.0;
      movie_fragments = ltb-true _ _ g.0;
      samples = ltb-true _ _ h.0;
      offsets = ltb-true _ _ i.0;
      items = ltb-true _ _ i.1;
      own-fields = f;
      own-mpu = m;
    }

sendable : (x : Parcel) (k : ℕ) → ltb 0 x.m && leb x.m 1400 ≡ true → leb (piece_count x) 300 ≡ true → in_range x.unit ≡ true
    → own_fields x.unit.kind x.unit.fields ≡ x.unit.fields → (x.unit.kind ≡ 4 → x.unit.mpu ≡ 0)
    → lookup_of config.watch x.unit.packet_id ≡ Some k → (1 < piece_count x → length x.bytes ≤ 300) → Sendable config x
sendable x k m n r f z w l =
    let s = and_both _ _ m in
    record {
      positive = ltb-true _ _ s.0;
      small = leb-true _ _ s.1;
      few = omega (arith, leb-true (piece_count x) 300 n);
      packable = packable x.unit r f z;
      place = k;
      watched = w;
      joins = l;
    }

not_signalling : {A : Type 0} (k : ℕ) → eqb k 4 ≡ false → k ≡ 4 → A
not_signalling k e q = absurd (eqb-false _ _ e q)

-- one piece is joined to none
alone : {A : Type 0} (n : ℕ) → eqb n 1 ≡ true → 1 < n → A
alone n e h = absurd (omega (arith, eqb-true n 1 e))

all-sendable : AllSendable config units
unfolding lookup_of first_from own_fields pieces_by pieces
all-sendable = (
  sendable in_pieces 0 refl refl refl refl (λ e. refl) refl (λ h. leb-true _ _ refl),
  (
    sendable timed 1 refl refl refl refl (not_signalling 2 refl) refl (alone _ refl),
    (
      sendable nothing 0 refl refl refl refl (λ e. refl) refl (alone _ refl),
      (
        sendable item 2 refl refl refl refl (not_signalling 3 refl) refl (λ h. leb-true _ _ refl),
        (
          sendable above_limit 1 refl refl refl refl (not_signalling 0 refl) refl (alone _ refl),
          (sendable metadata 2 refl refl refl refl (not_signalling 1 refl) refl (alone _ refl), tt),
        ),
      ),
    ),
  ),
)

follow : Consecutive [] units
unfolding pieces_by pieces with_psn
follow = (tt, (tt, (refl, (tt, (refl, (refl, tt))))))

pub example : Meets
unfolding be bytes_of before twice_below twice start_refusal start_from lookup_of first_from all_below data_bytes unlisted pieces_by pieces indicator_at
    counter_at with_psn piece_at outer_head payload_type_of mmtp_head indicator_bits fragment_bits mpu_head signalling_head payload_head timed_fields
    fields_written data_unit mmtp_of packet_of packet_at packets_from packets joined all_packets padded
example =
    record {
      starts = refl;
      sendable = all-sendable;
      consecutive = follow;
      padding = padding;
      listed = refl;
      multiple = refl;
    }
