-- A packet is read as it was meant: its flow, its MMTP header, its payload and its data unit.
use Rattle.std.specs.Prelude.{Some, None}
use Rattle.std.proofs.Common.{◌≡◌, ℕ, zero, suc, ◌+◌, ◌-◌, ◌*◌, ◌%◌, ◌^◌, ◌<◌, ◌≤◌, Bool, true, false, cond, eqb, List, [], ◌∷◌, ◌++◌, length, get_or, drop, sym, refl, ◌∙◌, mod-lt, arith, get_or-drop, drop-drop, drop_at, eq-eqb, ne_eqb, eqb-true, le-leb}
use borrow.Author.Tests.{eqb-false}
use Rattle.wire.specs.Bits.{bits_at}
use Rattle.wire.specs.Field.{be, bytes_of}
use Rattle.wire.proofs.FieldLaws.{be-drop}
use Rattle.mmtp.specs.Flow.{Mmtp, flow_of, compressed_header}
use Rattle.mmtp.specs.declared.header.Header.{Header}
use Rattle.mmtp.specs.declared.payload.Indicator.{Indicator}
use Rattle.mmtp.specs.declared.payload.Indicator.TheVariants.{Whole, First, Middle, Last}
use Rattle.mmtp.specs.declared.unit.Fields.{Fields}
use Rattle.mmtp.proofs.FlowLaws.{type-3, own-cid, behind-whole}
use Rattle.mmtp.specs.Header.{first, plain, fixed_bytes, extension_bytes, payload_start, header_of}
use Rattle.mmtp.proofs.HeaderLaws.{header-good, plain-good}
use Rattle.mmtp.specs.Payload.{indicator_of, fragment_type_of, flag, counter_fits, aggregation_fits}
use Rattle.mmtp.specs.Payload.{signalling_of, mpu_of, parsed_of, payload_of}
use Rattle.mmtp.proofs.PayloadLaws.{signalling_by, mpu-by, payload_good}
use Rattle.mmtp.specs.Payload.{pieces_of}
use Rattle.mmtp.proofs.PayloadLaws.{units_single, pieces_single}
use Rattle.mmtp.specs.Packet.{body_read}
use Rattle.mmtp.proofs.PacketLaws.{watched}
use Rattle.watch.specs.declared.given.Watch.{Watch}
use Rattle.watch.specs.Given.{lookup_of}
use Rattle.mmtp.specs.Unit.{field_bytes, no_fields, timed_fields as timedRead, item_fields, fields_of, piece_of, single_fits}
use Rattle.reassembly.specs.declared.unit.Unit.{Unit}
use Rattle.reassembly.specs.declared.join.Piece.{Piece}
use Rattle.packer.specs.Packet.{outer_head, payload_type_of, mmtp_head, indicator_bits, fragment_bits, mpu_head, signalling_head}
use Rattle.packer.specs.Packet.{payload_head, timed_fields, fields_written, data_unit, mmtp_of, packet_of}
use Rattle.packer.specs.Pieces.{pieces, indicator_at, counter_at, with_psn, piece_at}
use Rattle.packer.specs.Packer.{packet_at, packets_from, packets}
use Rattle.packer.specs.Reads.{own_fields, Packable, meant, WholePacket, AllWhole, AllShort, ReadAs, AllRead}
use Rattle.packer.specs.Reads.{PacketRead, PacketsRead}
use Rattle.packer.specs.Writing.{payload_head_bytes}
use Rattle.packer.proofs.Pieces.{AllMost, all_most, pieces-most}
use Rattle.packer.proofs.Lengths.{head-4, head-not-4, sizes, length_payload_head, length_fields, length-unit}
use Rattle.packer.proofs.Lengths.{length_mmtp, length-packet}
use Rattle.packer.proofs.Runs.{length-packet-at}
use Rattle.packer.proofs.Wholes.{be-behind, packet-whole}

-- CID and SN share 16 bits
cid_bits : (cid sn : ℕ) → cid < 4096 → sn < 16 → bits_at 4 12 (cid * 16 + sn) ≡ cid
cid_bits cid sn c n = omega arith

module _ (cid sn : ℕ) (p : Piece) (s : List ℕ) where
  -- what stands behind the header of the flow
  pub behind-7 : drop 7 (packet_of cid sn p s) ≡ mmtp_of p s
  unfolding packet_of outer_head bytes_of
  behind-7 = refl

  cid-field : cid < 4096 → sn < 16 → be 2 (packet_of cid sn p s) 4 ≡ cid * 16 + sn
  unfolding packet_of outer_head bytes_of
  cid-field c n =
      let len = bytes_of 2 (3 + length (mmtp_of p s)) in
      be-behind 2 (cid * 16 + sn) (0x7F ∷ 3 ∷ len) (0x61 ∷ mmtp_of p s) 4 refl (omega arith)

  type-field : get_or (packet_of cid sn p s) 1 0 ≡ 3
  unfolding packet_of outer_head
  type-field = refl

  header-field : compressed_header (get_or (packet_of cid sn p s) 6 0) ≡ Some 3
  unfolding packet_of outer_head bytes_of compressed_header
  header-field = refl

  pub flow-read : cid < 4096 → sn < 16 → flow_of (packet_of cid sn p s) cid ≡ Mmtp 7
  flow-read c n =
      let b = packet_of cid sn p s in
      let l : 7 ≤ length b = omega (arith, length-packet cid sn p s, sizes p.unit.kind) in
      let e : bits_at 4 12 (be 2 b 4) ≡ cid = rw (cid-field c n) (cid_bits cid sn c n) in
      type-3 b cid type-field ∙ own-cid b cid l e ∙ rw header-field (behind-whole b 3 l)

-- FI as two bits, and back
fi_bits : (i : Indicator) → (indicator_bits i < 4) × (indicator_of (indicator_bits i) ≡ i)
unfolding indicator_bits indicator_of
fi_bits Whole = (omega arith, refl)
fi_bits First = (omega arith, refl)
fi_bits Middle = (omega arith, refl)
fi_bits Last = (omega arith, refl)

-- fragment type and timed as five bits, and back
kind_bits : (k : ℕ) → k < 4
    → (fragment_bits k % 8 ≡ 0) × (fragment_type_of (bits_at 4 4 (fragment_bits k)) (flag 3 (fragment_bits k)) ≡ Some k)
unfolding fragment_bits fragment_type_of
kind_bits zero h = (refl, refl)
kind_bits (suc zero) h = (refl, refl)
kind_bits (suc (suc zero)) h = (refl, refl)
kind_bits (suc (suc (suc zero))) h = (refl, refl)
kind_bits (suc (suc (suc (suc n)))) h = absurd (omega arith)

-- the byte with FT, timed and FI: each is read from it, and no A
pub record ThirdByte (k : ℕ) (i : Indicator) (b : ℕ) : Type 0 where
  pub type : fragment_type_of (bits_at 4 4 b) (flag 3 b) ≡ Some k
  pub fi : indicator_of (bits_at 1 2 b) ≡ i
  pub alone : flag 0 b ≡ false

third-byte : (k : ℕ) (i : Indicator) → k < 4 → ThirdByte k i (fragment_bits k + indicator_bits i * 2)
third-byte k i h =
    let b = fragment_bits k + indicator_bits i * 2 in
    let f = fi_bits i in
    let t = kind_bits k h in
    let x : bits_at 4 4 b ≡ bits_at 4 4 (fragment_bits k) = omega arith in
    let y : bits_at 3 1 b ≡ bits_at 3 1 (fragment_bits k) = omega arith in
    let v : bits_at 1 2 b ≡ indicator_bits i = omega arith in
    let z : bits_at 0 1 b ≡ 0 = omega arith in
    record { type = rw (x, y) t.1; fi = rw v f.1; alone = rw z }

-- the byte with FI, and neither A nor H
pub record FirstByte (i : Indicator) (b : ℕ) : Type 0 where
  pub fi : indicator_of (bits_at 6 2 b) ≡ i
  pub alone : flag 0 b ≡ false
  pub narrow : flag 1 b ≡ false

first_byte : (i : Indicator) → FirstByte i (indicator_bits i * 64)
first_byte i =
    let f = fi_bits i in
    let v : bits_at 6 2 (indicator_bits i * 64) ≡ indicator_bits i = omega arith in
    let y : bits_at 0 1 (indicator_bits i * 64) ≡ 0 = omega arith in
    let z : bits_at 1 1 (indicator_bits i * 64) ≡ 0 = omega arith in
    record { fi = rw v f.1; alone = rw y; narrow = rw z }

-- the MMTP header
abbrev header_meant : Piece → Header
header_meant p =
    record {
      payload_type = payload_type_of p.unit.kind;
      packet_id = p.unit.packet_id;
      psn = p.unit.psn;
      start = 12;
    }

type_bits : (kind : ℕ) → bits_at 0 6 (payload_type_of kind) ≡ payload_type_of kind
unfolding payload_type_of
type_bits kind = go (eqb kind 4)
  where
    go : (t : Bool) → bits_at 0 6 (cond t 2 0) ≡ cond t 2 0
    go true = refl
    go false = refl

module _ (p : Piece) (s : List ℕ) where
  first-0 : first (mmtp_of p s) ≡ 0
  unfolding mmtp_of mmtp_head
  first-0 = refl

  start-12 : payload_start (mmtp_of p s) ≡ 12
  unfolding mmtp_of mmtp_head payload_start extension_bytes fixed_bytes
  start-12 = refl

  type-byte : get_or (mmtp_of p s) 1 0 ≡ payload_type_of p.unit.kind
  unfolding mmtp_of mmtp_head
  type-byte = refl

  pub behind-12 : drop 12 (mmtp_of p s) ≡ payload_head p (length (data_unit p s)) ++ data_unit p s
  unfolding mmtp_of mmtp_head bytes_of
  behind-12 = refl

  id-field : p.unit.packet_id < 2 ^ 16 → be 2 (mmtp_of p s) 2 ≡ p.unit.packet_id
  unfolding mmtp_of mmtp_head bytes_of
  id-field h = be-behind 2 p.unit.packet_id (0 ∷ payload_type_of p.unit.kind ∷ []) _ 2 refl h

  psn-field : p.unit.psn.0 < 2 ^ 32 → be 4 (mmtp_of p s) 8 ≡ p.unit.psn.0
  unfolding mmtp_of mmtp_head bytes_of
  psn-field h =
      let u = p.unit in
      be-behind 4 u.psn.0 (0 ∷ payload_type_of u.kind ∷ bytes_of 2 u.packet_id ++ bytes_of 4 0)
      (payload_head p (length (data_unit p s)) ++ data_unit p s) 8 refl h

  pub header_read : Packable p.unit → header_of (mmtp_of p s) ≡ Some (header_meant p)
  header_read w =
      let m = mmtp_of p s in
      let l : payload_start m ≤ length m = rw start-12 (omega (arith, length_mmtp p s)) in
      let e : plain (first m) ≡ true = rw first-0 (plain-good 0 refl refl) in
      header-good m l e
      ∙ rw (type-byte, type_bits p.unit.kind, id-field w.ids, psn-field w.psns, start-12)

  -- the payload header, by the kind
  behind_signalling : p.unit.kind ≡ 4
      → drop 12 (mmtp_of p s) ≡ (indicator_bits p.indicator * 64) ∷ p.counter ∷ data_unit p s
  unfolding payload_head signalling_head
  behind_signalling k = behind-12 ∙ rw (eq-eqb _ _ k)

  abbrev mpu_payload : List ℕ
  mpu_payload =
      mpu_head (6 + length (data_unit p s)) p.unit.kind p.indicator p.counter p.unit.mpu ++ data_unit p s

  behind-mpu : (p.unit.kind ≡ 4 → ⊥) → drop 12 (mmtp_of p s) ≡ mpu_payload
  unfolding payload_head
  behind-mpu k = behind-12 ∙ rw (ne_eqb _ _ k)

  mpu-length : length s ≤ 1400 → be 2 mpu_payload 0 ≡ 6 + length (data_unit p s)
  unfolding mpu_head bytes_of
  mpu-length h =
      let l = length-unit p s in
      let z = sizes p.unit.kind in
      be-behind 2 (6 + length (data_unit p s)) [] _ 0 refl (omega arith)

  mpu-bytes : (get_or mpu_payload 2 0 ≡ fragment_bits p.unit.kind + indicator_bits p.indicator * 2)
      × (get_or mpu_payload 3 0 ≡ p.counter)
  unfolding mpu_head bytes_of
  mpu-bytes = (refl, refl)

  mpu-number : p.unit.mpu < 2 ^ 32 → be 4 mpu_payload 4 ≡ p.unit.mpu
  unfolding mpu_head bytes_of
  mpu-number h =
      let t = fragment_bits p.unit.kind + indicator_bits p.indicator * 2 in
      be-behind 4 p.unit.mpu (bytes_of 2 (6 + length (data_unit p s)) ++ (t ∷ p.counter ∷ [])) (data_unit p s) 4 refl h

  module _ (w : Packable p.unit) where
    signalling_read : p.unit.kind ≡ 4 → signalling_of (mmtp_of p s) 12 ≡ Some (meant 0 p).payload
    signalling_read k =
        let f = first_byte p.indicator in
        let e = head-4 p.unit.kind k in
        let l : 2 ≤ length (mmtp_of p s) - 12 = omega (arith, length_mmtp p s) in
        signalling_by (mmtp_of p s) 12 l ∙ rw (behind_signalling k, f.fi, f.alone, f.narrow, e, k, w.own-mpu k)

    mpu-read : (p.unit.kind ≡ 4 → ⊥) → length s ≤ 1400 → mpu_of (mmtp_of p s) 12 ≡ Some (meant 0 p).payload
    mpu-read k h =
        let m = mmtp_of p s in
        let e = head-not-4 p.unit.kind k in
        let n = length_mmtp p s in
        let u = length-unit p s in
        let b = mpu-bytes in
        let t = third-byte p.unit.kind p.indicator (omega (arith, w.kinds)) in
        let q : be 2 m 12 ≡ 6 + length (data_unit p s) = sym (be-drop 2 12 m 0) ∙ rw (behind-mpu k) (mpu-length h) in
        let v : get_or m 14 0 ≡ fragment_bits p.unit.kind + indicator_bits p.indicator * 2 =
        sym (get_or-drop 12 m 2 0) ∙ rw (behind-mpu k) b.0 in
        mpu-by m 12 (omega arith) (omega arith) (Some p.unit.kind) (rw v t.type)
        ∙ rw (behind-mpu k, b.0, b.1, t.fi, t.alone, mpu-number w.mpus, e)

    parsed-read : length s ≤ 1400 → parsed_of (mmtp_of p s) 12 (payload_type_of p.unit.kind) ≡ Some (meant 0 p).payload
    unfolding parsed_of payload_type_of
    parsed-read h = go (eqb p.unit.kind 4) refl
      where
        go : (t : Bool) → eqb p.unit.kind 4 ≡ t
            → cond (eqb (cond t 2 0) 0) (mpu_of (mmtp_of p s) 12) (cond (eqb (cond t 2 0) 2) (signalling_of (mmtp_of p s) 12) None)
            ≡ Some (meant 0 p).payload
        go true e = signalling_read (eqb-true _ _ e)
        go false e = mpu-read (eqb-false _ _ e) h

    -- the one data unit is there
    single_fits_lem : single_fits (mmtp_of p s) (12 + payload_head_bytes p.unit.kind) p.unit.kind ≡ true
    unfolding single_fits
    single_fits_lem =
        let h : 12 + payload_head_bytes p.unit.kind + field_bytes p.unit.kind ≤ length (mmtp_of p s) =
        omega (arith, length_mmtp p s) in
        le-leb _ _ h

    pub payload_read : counter_fits p.indicator p.counter ≡ true → length s ≤ 1400
        → payload_of (mmtp_of p s) 12 (payload_type_of p.unit.kind) ≡ Some (meant 0 p).payload
    unfolding aggregation_fits
    payload_read c h =
        let y = (meant 0 p).payload in
        payload_good (mmtp_of p s) 12 (payload_type_of p.unit.kind) y (parsed-read h) c refl
        (units_single (mmtp_of p s) y refl ∙ single_fits_lem)

  -- the data unit, and its fields
  behind-head : drop (12 + payload_head_bytes p.unit.kind) (mmtp_of p s) ≡ data_unit p s
  behind-head =
      let l = length_payload_head p (length (data_unit p s)) in
      sym (drop-drop (payload_head_bytes p.unit.kind) 12 (mmtp_of p s))
      ∙ rw behind-12 (drop_at (payload_head p (length (data_unit p s))) (data_unit p s) _ l)

module _ (f : Fields) (s : List ℕ) where
  timed-back : f.movie_fragment < 2 ^ 32 → f.sample < 2 ^ 32 → f.offset < 2 ^ 32
      → timedRead (timed_fields f ++ s) ≡ own_fields 2 f
  unfolding timed_fields own_fields bytes_of
  timed-back m n o =
      let u = timed_fields f ++ s in
      let tail = f.priority ∷ f.dependency ∷ s in
      let third = bytes_of 4 f.offset ++ tail in
      let a : be 4 u 0 ≡ f.movie_fragment = be-behind 4 f.movie_fragment [] (bytes_of 4 f.sample ++ third) 0 refl m in
      let b : be 4 u 4 ≡ f.sample = be-behind 4 f.sample (bytes_of 4 f.movie_fragment) third 4 refl n in
      let c : be 4 u 8 ≡ f.offset =
      be-behind 4 f.offset (bytes_of 4 f.movie_fragment ++ bytes_of 4 f.sample) tail 8 refl o in
      rw (a, b, c)

  item_back : f.item < 2 ^ 32 → item_fields (bytes_of 4 f.item ++ s) ≡ own_fields 3 f
  unfolding own_fields
  item_back h = let a : be 4 (bytes_of 4 f.item ++ s) 0 ≡ f.item = be-behind 4 f.item [] s 0 refl h in rw a

  -- the fields that were written are read, 0 where the kind has none
  fields_back : (k : ℕ) → f.movie_fragment < 2 ^ 32 → f.sample < 2 ^ 32 → f.offset < 2 ^ 32 → f.item < 2 ^ 32
      → fields_of k (fields_written k f ++ s) ≡ own_fields k f
  unfolding fields_of fields_written own_fields
  fields_back k m n o h = go (eqb k 2) (eqb k 3)
    where
      go : (a b : Bool)
          → (let u = cond a (timed_fields f) (cond b (bytes_of 4 f.item) []) ++ s in
          cond a (timedRead u) (cond b (item_fields u) no_fields))
          ≡ cond a (own_fields 2 f) (cond b (own_fields 3 f) no_fields)
      go true b = timed-back m n o
      go false true = item_back h
      go false false = refl

module _ (p : Piece) (s : List ℕ) where
  unit-read : Packable p.unit
      → pieces_of (mmtp_of p s) (meant 0 p).payload ≡ record { fields = p.unit.fields; bytes = s } ∷ []
  unfolding piece_of data_unit
  unit-read w =
      let k = p.unit.kind in
      let f = p.unit.fields in
      let x = fields_back f s k w.movie_fragments w.samples w.offsets w.items ∙ w.own-fields in
      let b : drop (field_bytes k) (fields_written k f ++ s) ≡ s = drop_at (fields_written k f) s _ (length_fields k f) in
      pieces_single (mmtp_of p s) (meant 0 p).payload refl ∙ rw (behind-head p s, x, b)

pub packet-read : PacketRead
unfolding body_read
packet-read cid sn place w p s c n o e h l =
    let b = payload_read p s o e h in
    record {
      flow = flow-read cid sn p s c n;
      reading = rw behind-7 (watched (mmtp_of p s) (lookup_of w) (header_meant p) (header_read p s o) place l ∙ rw b);
      unit = rw behind-7 (unit-read p s o);
    }

-- "only the last must be 0", and it is
counter-fits : (n i : ℕ) → i < n → counter_fits (indicator_at n i) (counter_at n i) ≡ true
unfolding indicator_at counter_at counter_fits
counter-fits n i h = go (eqb n 1) (eqb i 0) (eqb (i + 1) n) refl refl refl
  where
    go : (a b c : Bool) → eqb n 1 ≡ a → eqb i 0 ≡ b → eqb (i + 1) n ≡ c
        → counter_fits (cond a Whole (cond b First (cond c Last Middle))) ((n - 1 - i) % 256) ≡ true
    go true b c p q r = refl
    go false true c p q r = refl
    go false false true p q r = let y = eqb-true (i + 1) n r in eq-eqb ((n - 1 - i) % 256) 0 (omega arith)
    go false false false p q r = refl

pub with-packable : (u : Unit) (i : ℕ) → Packable u → Packable (with_psn u i)
unfolding with_psn
with-packable u i w =
    record {
      kinds = w.kinds;
      ids = w.ids;
      psns = mod-lt _ (omega arith);
      mpus = w.mpus;
      movie_fragments = w.movie_fragments;
      samples = w.samples;
      offsets = w.offsets;
      items = w.items;
      own-fields = w.own-fields;
      own-mpu = w.own-mpu;
    }

module _ (u : Unit) (cid sn place : ℕ) (w : Watch) (o : Packable u) (c : cid < 4096)
    (l : lookup_of w u.packet_id ≡ Some place) where
  pub packet-at-read : (n i : ℕ) (s : List ℕ) → i < n → length s ≤ 1400
      → WholePacket (packet_at u cid sn n i s) × ReadAs cid place w (piece_at u n i (length s)) s (packet_at u cid sn n i s)
  unfolding packet_at piece_at with_psn
  packet-at-read n i s k h =
      let p = piece_at u n i (length s) in
      let v : (sn + i) % 16 < 16 = mod-lt (sn + i) (omega arith) in (
        packet-whole cid ((sn + i) % 16) p s h,
        packet-read cid ((sn + i) % 16) place w p s c v (with-packable u i o) (counter-fits n i k) h l,
      )

  reads-from : (n i : ℕ) (ps : List (List ℕ)) → i + length ps ≡ n → AllMost 1400 ps
      → AllWhole (packets_from u cid sn n i ps) × AllShort (packets_from u cid sn n i ps)
      × AllRead cid place w u n i ps (packets_from u cid sn n i ps)
  unfolding packets_from
  reads-from n i [] e h = (tt, tt, tt)
  reads-from n i (s ∷ ps) e h =
      let a = packet-at-read n i s (omega arith) h.0 in
      let b = reads-from n (i + 1) ps (omega arith) h.1 in
      let z = sizes u.kind in
      let k = length-packet-at u cid sn n i s in
      ((a.0, b.0), (omega (arith, h.0), b.1), (a.1, b.2))

pub packets-read : PacketsRead
unfolding packets
packets-read u cid sn m place w s o c p h l =
    let ps = pieces m s in
    reads-from u cid sn place w o c l (length ps) 0 ps (omega arith) (all_most m 1400 h ps (pieces-most m s p))
