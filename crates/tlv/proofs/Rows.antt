-- Why the packets are those of the row, with the labels of the slots that their bytes came in: the held bytes are always the
-- tail of the row so far, and their labels those of its bytes.
use Prim.Native.Nat.{ℕ, ◌≤◌, ◌<◌}
use mathlib.Core.Path.{◌≡◌, refl, sym, ap, ◌∙◌}
use mathlib.Core.Bool.{Bool, true, false, cond, and-true, and_self}
use mathlib.Core.List.{List, [], ◌∷◌, ◌++◌, map, map-append, map-map, append_assoc, append-nil}
use native.Mathlib.Omega.{arith}
use lib.ListN.{length, take, drop, take-append-drop, drop_of_length-le}
use lib.Seq.{length-take-le, drop-append-le}
use Rattle.tlv.specs.declared.held.Continuation.{Continuation}
use Rattle.tlv.specs.declared.held.Continuation.TheVariants.{Dropped, Ends, GoesOn}
use Rattle.tlv.specs.Packet.{complete, too_long, cut}
use Rattle.tlv.specs.Cuts.{AllSized}
use Rattle.tlv.proofs.CutsLaws.{short-header, cut-tail_open, cut-sized}
use Rattle.tlv.specs.Slot.{sound}
use Rattle.tlv.specs.Held.{held_end}
use Rattle.tlv.specs.Run.{Slot, without_top, Labelled, Event, State, searching, held, Stepped, given}
use Rattle.tlv.specs.Run.{packet_of, after, kept, read_from, finished, resumed, arrived, step, run, packets, Clean, intact}
use Rattle.tlv.specs.Row.{tagged, bytes_of, labels_of, all_bytes, row, packets_by, row_packets}
use Rattle.wire.specs.Lists.{sift, all}
use Rattle.wire.proofs.ListsLaws.{all_append, sift-map}
use Rattle.tlv.specs.Claims.{Seen, Filled, seen, seen_in_row, RunRow, RowLoss}
use Rattle.tlv.proofs.Answers.{end_of, Says, says, top-inside, ends-past, ends-sized, goes-open}
use Rattle.tlv.proofs.Runs.{step_given, clean-left, clean-right, packets-append}
use Rattle.tlv.proofs.Loss.{run_loss}
use Rattle.tlv.proofs.RowCuts.{bytes-tagged, tagged-append, tagged-drop, tagged-length, bytes-append}
use Rattle.tlv.proofs.RowCuts.{packets_in, packets_open, packets-front, packets-cut}

module _ {A : Type 0} (keep : A → Bool) where
  -- bytes of one slot, at least one
  tagged-labels : (a : A) (b : List ℕ) → 0 < length b → all keep (labels_of (tagged a b)) ≡ keep a
  tagged-labels a [] p = absurd (omega arith)
  tagged-labels a (x ∷ []) p = and-true (keep a)
  tagged-labels a (x ∷ y ∷ b) p = rw (tagged-labels a (y ∷ b) (omega arith)) (and_self (keep a))

  -- ls are the labels of the bytes t, if there are any, as far as `keep` tells
  abbrev Labels : List A → List (A × ℕ) → Type 0
  Labels ls [] = Unit {0}
  Labels ls (x ∷ t) = all keep ls ≡ all keep (labels_of (x ∷ t))

  labels-more : (ls : List A) (t : List (A × ℕ)) (a : A) (b : List ℕ) → all keep ls ≡ all keep (labels_of t) → 0 < length b
      → all keep (ls ++ (a ∷ [])) ≡ all keep (labels_of (t ++ tagged a b))
  labels-more ls t a b e p =
      rw (
        all_append keep ls (a ∷ []),
        and-true (keep a),
        map-append (λ (x : A × ℕ). x.0) t (tagged a b),
        all_append keep (labels_of t) (labels_of (tagged a b)),
        tagged-labels a b p,
        e,
      )

  own-labels : (a : A) (b : List ℕ) → Labels (a ∷ []) (tagged a b)
  own-labels a [] = tt
  own-labels a (x ∷ b) = rw (tagged-labels a (x ∷ b) (omega arith)) (and-true (keep a))

  -- the state holds the bytes t of the row, in which no packet is complete
  data Holds (t : List (A × ℕ)) : State A → Type 0 where
    holds : {ls : List A} → complete (bytes_of t) ≡ false → Labels ls t → Holds t (held ls (bytes_of t))

  holds_as : (t : List (A × ℕ)) (ls : List A) (h : List ℕ) → bytes_of t ≡ h → complete h ≡ false → Labels ls t
      → Holds t (held ls h)
  holds_as t ls h e o l = rw (← e) (holds (rw e o) l)

  -- packets as they are compared
  abbrev shown : List (Event A) → List Seen
  shown es = map (seen keep) (packets es)

  abbrev in_row : List (A × ℕ) → List Seen
  in_row b = map (seen_in_row keep) (packets_in b)

  shown-append : (es fs : List (Event A)) → shown (es ++ fs) ≡ shown es ++ shown fs
  shown-append es fs = rw (packets-append es fs) (map-append (seen keep) (packets es) (packets fs))

  -- a step that comes to bytes of the row gives their packets and holds their tail, whatever follows
  record Reads (b : List (A × ℕ)) (r : Stepped A) : Type 0 where
    pub tail : List (A × ℕ)
    pub holding : Holds tail r.state
    pub giving : (rest : List (A × ℕ)) → in_row (b ++ rest) ≡ shown r.events ++ in_row (tail ++ rest)

  after-reads : (es : List (Event A)) (c b : List (A × ℕ)) (r : Stepped A)
      → ((rest : List (A × ℕ)) → in_row (c ++ rest) ≡ shown es ++ in_row (b ++ rest)) → Reads b r → Reads c (after es r)
  after-reads es c b r f d =
      record {
        tail = d.tail;
        holding = d.holding;
        giving =
            λ rest.
            f rest
            ∙ rw (d.giving rest, shown-append es r.events)
            (sym (append_assoc (shown es) (shown r.events) (in_row (d.tail ++ rest))));
      }

  -- a tail is held
  kept-reads : (l : Bool) (a : A) (b : List ℕ) → complete b ≡ false → Clean (kept l a b).events → Reads (tagged a b) (kept l a b)
  unfolding kept
  kept-reads true a b o q = absurd q
  kept-reads false a b o q =
      record {
        tail = tagged a b;
        holding = holds_as (tagged a b) (a ∷ []) b (bytes-tagged a b) o (own-labels a b);
        giving = λ rest. refl;
      }

  -- packets of one slot
  own-packets : (a : A) (ps : List (List ℕ)) → AllSized ps
      → map (seen_in_row keep) (map (tagged a) ps) ≡ shown (map (packet_of (a ∷ [])) ps)
  own-packets a [] z = refl
  own-packets a (p ∷ ps) z =
      rw (tagged-labels a p (omega (arith, z.0.long)), bytes-tagged a p, and-true (keep a), own-packets a ps z.1)

  -- what is read from a slot with a top pointer
  read-reads : (a : A) (s : Slot) → Clean (read_from false a s).events
      → Reads (tagged a (drop s.top s.bytes)) (read_from false a s)
  unfolding read_from
  read-reads a s q =
      let b : List ℕ = drop s.top s.bytes in
      let ps : List (List ℕ) = (cut b).packets in
      let es : List (Event A) = map (packet_of (a ∷ [])) ps in
      after-reads es (tagged a b) (tagged a (cut b).tail) _
      (λ rest.
      rw (
        packets-cut a b rest,
        map-append (seen_in_row keep) (map (tagged a) ps) (packets_in (tagged a (cut b).tail ++ rest)),
        own-packets a ps (cut-sized b),
      ))
      (kept-reads (too_long (cut b).tail) a (cut b).tail (cut-tail_open b) (clean-right es _ q))

  -- the bytes t are held, and their packet ends in the slot
  packet-gives : (ls : List A) (t : List (A × ℕ)) (a : A) (b : List ℕ) (e : ℕ) → complete (bytes_of t) ≡ false
      → all keep ls ≡ all keep (labels_of t) → held_end (bytes_of t) b ≡ e → e ≤ length b → (rest : List (A × ℕ))
      → in_row ((t ++ tagged a b) ++ rest)
      ≡ record { kept = all keep (ls ++ (a ∷ [])); bytes = bytes_of t ++ take e b } ∷ in_row (tagged a (drop e b) ++ rest)
  packet-gives ls t a b e o l w f rest =
      let p : List (A × ℕ) = t ++ tagged a (take e b) in
      let r : List (A × ℕ) = tagged a (drop e b) ++ rest in
      let c : bytes_of p ≡ bytes_of t ++ take e b = bytes-append t (tagged a (take e b)) ∙ rw (bytes-tagged a (take e b)) in
      let k : all keep (ls ++ (a ∷ [])) ≡ all keep (labels_of p) =
      labels-more ls t a (take e b) l (rw (length-take-le e b f) (ends-past (bytes_of t) b e o w).1) in
      let g : (t ++ tagged a b) ++ rest ≡ p ++ r =
      ap (λ (b : List ℕ). (t ++ tagged a b) ++ rest) (sym (take-append-drop e b)) ∙ rw tagged-append (simp append_assoc) in
      ap in_row g
      ∙ ap (map (seen_in_row keep)) (packets-front p r (rw c (ends-sized (bytes_of t) b e o w f)))
      ∙ rw (c, k)

  -- or nothing is held
  finished-gives : (ls : List A) (t : List (A × ℕ)) (a : A) (b : List ℕ) (e : ℕ) → complete (bytes_of t) ≡ false → Labels ls t
      → end_of (bytes_of t) b ≡ e → e ≤ length b → (rest : List (A × ℕ))
      → in_row ((t ++ tagged a b) ++ rest) ≡ shown (finished ls (bytes_of t) a (take e b)) ++ in_row (tagged a (drop e b) ++ rest)
  unfolding finished
  finished-gives ls [] a b e o l w f rest = rw (← w)
  finished-gives ls (y ∷ t) a b e o l w f rest = packet-gives ls (y ∷ t) a b e o l w f rest

  resumed-reads : (c : Continuation) (n : Bool) (ls : List A) (t : List (A × ℕ)) (a : A) (s : Slot)
      → complete (bytes_of t) ≡ false → Labels ls t → Says c n (bytes_of t) s.bytes s.top
      → (n ≡ false → s.top < length s.bytes) → 0 < length s.bytes → Clean (resumed c n ls (bytes_of t) a s).events
      → Reads (t ++ tagged a s.bytes) (resumed c n ls (bytes_of t) a s)
  unfolding resumed
  resumed-reads (Dropped x) n ls t a s o l m i p q = absurd q
  resumed-reads (Ends e) true ls t a s o l m i p q =
      record {
        tail = [];
        holding = holds_as [] [] [] refl (short-header [] (omega arith)) tt;
        giving =
            λ rest.
            finished-gives ls t a s.bytes e o l m.0 (omega arith) rest
            ∙ rw (drop_of_length-le s.bytes {i = e} (omega arith));
      }
  resumed-reads (Ends e) false ls t a s o l m i p q =
      let es : List (Event A) = finished ls (bytes_of t) a (take e s.bytes) in
      after-reads es (t ++ tagged a s.bytes) (tagged a (drop e s.bytes)) _
      (finished-gives ls t a s.bytes e o l m.0 (omega (arith, i refl)))
      (rw m.1 (read-reads a s (clean-right es _ q)))
  resumed-reads GoesOn true ls [] a s o l m i p q = absurd (omega arith)
  resumed-reads GoesOn true ls (y ∷ t) a s o l m i p q =
      let b : List ℕ = s.bytes in
      let c : bytes_of ((y ∷ t) ++ tagged a b) ≡ bytes_of (y ∷ t) ++ b =
      bytes-append (y ∷ t) (tagged a b) ∙ rw (bytes-tagged a b) in
      record {
        tail = (y ∷ t) ++ tagged a b;
        holding = holds_as _ _ _ c (goes-open (bytes_of (y ∷ t)) b m.1) (labels-more ls (y ∷ t) a b l p);
        giving = λ rest. refl;
      }
  resumed-reads GoesOn false ls t a s o l m i p q = absurd m

  arrived-reads : (i : Bool) (st : State A) (t : List (A × ℕ)) (a : A) (s : Slot) → sound s.bytes s.top s.last ≡ i
      → Holds t st → 0 < length s.bytes → Clean (arrived i st a s).events
      → Reads (t ++ tagged a s.bytes) (arrived i st a s)
  unfolding arrived
  arrived-reads false st t a s e d p q = absurd q
  arrived-reads true st t a s e (holds {ls = ls} o l) p q =
      let m = says (bytes_of t) s.bytes s.top s.last in
      resumed-reads _ _ ls t a s o l m (top-inside s.bytes s.top s.last e) p q

  -- a step, and the slots behind it
  reads_on : (b : List (A × ℕ)) (r : Stepped A) (xs : List (A × Slot)) → Reads b r
      → ((st : State A) (t : List (A × ℕ)) → Holds t st → Clean (run st (intact xs))
      → shown (run st (intact xs)) ≡ in_row (t ++ all_bytes xs))
      → Clean (r.events ++ run r.state (intact xs))
      → shown (r.events ++ run r.state (intact xs)) ≡ in_row (b ++ all_bytes xs)
  reads_on b r xs d behind q =
      let fs : List (Event A) = run r.state (intact xs) in
      shown-append r.events fs
      ∙ rw (d.giving (all_bytes xs), behind r.state d.tail d.holding (clean-right r.events fs q))

  -- bytes of the row are held
  runs-held : (xs : List (A × Slot)) → Filled xs → (st : State A) (t : List (A × ℕ)) → Holds t st → Clean (run st (intact xs))
      → shown (run st (intact xs)) ≡ in_row (t ++ all_bytes xs)
  unfolding run all_bytes
  runs-held [] f st t (holds o l) q = rw (append-nil t, packets_open t o)
  runs-held (x ∷ xs) f st t m q =
      let b : List (A × ℕ) = tagged x.0 x.1.bytes in
      let r = step st (given x.0 x.1) in
      let c : Clean r.events = clean-left r.events (run r.state (intact xs)) q in
      let g = step_given st x.0 x.1 in
      let d : Reads (t ++ b) r = rw g (arrived-reads _ st t x.0 x.1 refl m f.0 (rw g at c)) in
      rw (← append_assoc t b (all_bytes xs)) (reads_on (t ++ b) r xs d (runs-held xs f.1) q)

  -- searching, by whether the slot has no top pointer, and by whether it is sound
  read-on : (n : Bool) (a : A) (s : Slot) (xs : List (A × Slot)) → (n ≡ false → s.top < length s.bytes) → Filled xs
      → (Clean (run searching (intact xs)) → shown (run searching (intact xs)) ≡ in_row (row xs))
      → Clean ((read_from n a s).events ++ run (read_from n a s).state (intact xs))
      → shown ((read_from n a s).events ++ run (read_from n a s).state (intact xs))
      ≡ in_row (cond n (row xs) (drop s.top (tagged a s.bytes ++ all_bytes xs)))
  read-on true a s xs i f ih q = unfold read_from in ih q
  read-on false a s xs i f ih q =
      let r : Stepped A = read_from false a s in
      let l : s.top ≤ length (tagged a s.bytes) = rw tagged-length (omega (arith, i refl)) in
      let d = read-reads a s (clean-left r.events (run r.state (intact xs)) q) in
      rw (drop-append-le s.top (tagged a s.bytes) (all_bytes xs) l, tagged-drop) (reads_on _ r xs d (runs-held xs f) q)

  arrive_on : (i : Bool) (a : A) (s : Slot) (xs : List (A × Slot)) → sound s.bytes s.top s.last ≡ i → Filled xs
      → (Clean (run searching (intact xs)) → shown (run searching (intact xs)) ≡ in_row (row xs))
      → Clean ((arrived i searching a s).events ++ run (arrived i searching a s).state (intact xs))
      → shown ((arrived i searching a s).events ++ run (arrived i searching a s).state (intact xs))
      ≡ in_row (cond (without_top s) (row xs) (drop s.top (tagged a s.bytes ++ all_bytes xs)))
  unfolding arrived
  arrive_on false a s xs e f ih q = absurd q
  arrive_on true a s xs e f ih q = read-on (without_top s) a s xs (top-inside s.bytes s.top s.last e) f ih q

  runs : (xs : List (A × Slot)) → Clean (run searching (intact xs)) → Filled xs
      → shown (run searching (intact xs)) ≡ in_row (row xs)
  unfolding run row all_bytes
  runs [] q f = unfold packets_by in refl
  runs (x ∷ xs) q f =
      let g = step_given searching x.0 x.1 in
      rw g (arrive_on _ x.0 x.1 xs refl f.1 (λ q. runs xs q f.1) (rw g at q))

pub run_row : RunRow
unfolding row_packets
run_row A keep xs q f = runs keep xs q f

-- the bytes of those that are kept
abbrev kept_bytes : List Seen → List (List ℕ)
kept_bytes l = map (λ (v : Seen). v.bytes) (sift (λ (v : Seen). v.kept) l)

kept-bytes : {B : Type 0} (f : B → Seen) (l : List B)
    → kept_bytes (map f l) ≡ map (λ (x : B). (f x).bytes) (sift (λ (x : B). (f x).kept) l)
kept-bytes {B} f l =
    rw (sift-map f (λ (v : Seen). v.kept) l) (map-map (λ (v : Seen). v.bytes) f (sift (λ (x : B). (f x).kept) l))

pub row_loss : RowLoss
row_loss A keep xs q f =
    ap (map (λ (p : Labelled A). p.bytes)) (run_loss A keep xs)
    ∙ sym (kept-bytes (seen keep) (packets (run searching (intact xs))))
    ∙ ap kept_bytes (run_row A keep xs q f)
    ∙ kept-bytes (seen_in_row keep) (row_packets xs)
