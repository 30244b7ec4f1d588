-- What a receiver makes of the packets: null packets are silent, a unit's packets bring its pieces.
use Prim.Native.Nat.{ℕ, ◌+◌}
use mathlib.Core.Path.{◌≡◌, refl, sym, ◌∙◌, ap}
use mathlib.Core.List.{List, [], ◌∷◌, ◌++◌, map, map-append, append_assoc}
use native.Mathlib.Omega.{arith}
use lib.ListN.{length, get_or}
use Rattle.mmtp.proofs.FlowLaws.{other-type}
use Rattle.tlv.specs.Run.{
  Labelled as Labelled-packet,
  Event as Slot-event,
  note as slot-note,
  packet,
  packets,
  Clean as Slot-clean,
}
use Rattle.reassembly.specs.declared.config.Config.{Config}
use Rattle.reassembly.specs.declared.unit.Unit.{Unit}
use Rattle.reassembly.specs.Run.{Input, Event, Lane, step, with_lane, run}
use Rattle.packer.specs.Pieces.{pieces, piece_at, with_psn}
use Rattle.packer.specs.Reads.{ReadAs, AllRead}
use Rattle.packer.specs.Rejoins.{input_at, inputs_from, inputs as inputsOf}
use Rattle.broadcast.specs.Account.{Read, silent, noted, input, read_of, after_read, events}
use Rattle.broadcast.specs.Carried.{as_input, inputs}
use Rattle.broadcast.proofs.Inputs.{pair_of, counted}
use Rattle.roundtrip.specs.Sending.{Null, AllNull, AllGaps, padded}

-- what a packet brings to joining
abbrev pub inputs_of_read : Read → List Input
inputs_of_read silent = []
inputs_of_read (noted n id) = []
inputs_of_read (input x) = x ∷ []

unfoldable pub brings : Config → List (List ℕ) → List Input
brings cfg [] = []
brings cfg (b ∷ bs) = inputs_of_read (read_of cfg b) ++ brings cfg bs

-- no packet is noted
abbrev pub Quiet : Read → Type 0
Quiet silent = Prim.Unit {0}
Quiet (noted n id) = ⊥
Quiet (input x) = Prim.Unit {0}

abbrev pub AllQuiet : Config → List (List ℕ) → Type 0
AllQuiet cfg [] = Prim.Unit {0}
AllQuiet cfg (b ∷ bs) = Quiet (read_of cfg b) × AllQuiet cfg bs

module _ (cfg : Config) where
  pub quiet-append : (ps qs : List (List ℕ)) → AllQuiet cfg ps → AllQuiet cfg qs → AllQuiet cfg (ps ++ qs)
  quiet-append [] qs p q = q
  quiet-append (x ∷ ps) qs p q = (p.0, quiet-append ps qs p.1 q)

  pub brings-append : (ps qs : List (List ℕ)) → brings cfg (ps ++ qs) ≡ brings cfg ps ++ brings cfg qs
  unfolding brings
  brings-append [] qs = refl
  brings-append (x ∷ ps) qs =
      rw (brings-append ps qs) (sym (append_assoc (inputs_of_read (read_of cfg x)) (brings cfg ps) (brings cfg qs)))

  -- null packets
  null-silent : (b : List ℕ) → Null b → read_of cfg b ≡ silent
  unfolding read_of
  null-silent b h = let t : get_or b 1 0 ≡ 3 → ⊥ = λ e. omega (arith, h.type, e) in rw (other-type b cfg.cid t)

  nulls_quiet : (g : List (List ℕ)) → AllNull g → AllQuiet cfg g × (brings cfg g ≡ [])
  unfolding brings
  nulls_quiet [] h = (tt, refl)
  nulls_quiet (b ∷ g) h =
      let r = nulls_quiet g h.1 in
      let e = null-silent b h.0 in
      ((rw e tt, r.0), rw e r.1)

  brings-behind : (x : List ℕ) (ps qs : List (List ℕ)) → brings cfg ps ≡ brings cfg qs → brings cfg (x ∷ ps) ≡ brings cfg (x ∷ qs)
  unfolding brings
  brings-behind x ps qs e = ap (λ (l : List Input). inputs_of_read (read_of cfg x) ++ l) e

  -- in between they change nothing
  pub padded-brings : (gs : List (List (List ℕ))) (qs : List (List ℕ)) → AllGaps gs → AllQuiet cfg qs
      → AllQuiet cfg (padded gs qs) × (brings cfg (padded gs qs) ≡ brings cfg qs)
  unfolding padded
  padded-brings [] qs h q = (q, refl)
  padded-brings (g ∷ gs) [] h q =
      let n = nulls_quiet g h.0 in
      (n.0, n.1 ∙ unfold brings in refl)
  padded-brings (g ∷ gs) (x ∷ qs) h q =
      let n = nulls_quiet g h.0 in
      let r = padded-brings gs qs h.1 q.1 in
      let b = brings-behind x (padded gs qs) qs r.1 in
      (quiet-append g (x ∷ padded gs qs) n.0 (q.0, r.0), brings-append g (x ∷ padded gs qs) ∙ rw n.1 b)

  -- the packet of piece i
  piece-read : (u : Unit) (place n i : ℕ) (s b : List ℕ) → ReadAs cfg.cid place cfg.watch (piece_at u n i (length s)) s b
      → read_of cfg b ≡ input (input_at u place n i s)
  unfolding read_of piece_at with_psn
  piece-read u place n i s b r = rw (r.flow, r.reading, r.unit)

  pieces-read : (u : Unit) (place n i : ℕ) (ss bs : List (List ℕ)) → AllRead cfg.cid place cfg.watch u n i ss bs
      → AllQuiet cfg bs × (brings cfg bs ≡ inputs_from u place n i ss)
  unfolding brings inputs_from
  pieces-read u place n i [] [] r = (tt, refl)
  pieces-read u place n i [] (b ∷ bs) r = absurd r
  pieces-read u place n i (s ∷ ss) [] r = absurd r
  pieces-read u place n i (s ∷ ss) (b ∷ bs) r =
      let e = piece-read u place n i s b r.0 in
      let q = pieces-read u place n (i + 1) ss bs r.1 in
      ((rw e tt, q.0), rw (e, q.1))

  -- the packets of a unit
  pub unit-read : (u : Unit) (place m : ℕ) (s : List ℕ) (bs : List (List ℕ))
      → AllRead cfg.cid place cfg.watch u (length (pieces m s)) 0 (pieces m s) bs
      → AllQuiet cfg bs × (brings cfg bs ≡ inputsOf u place m s)
  unfolding inputsOf
  unit-read u place m s bs r = pieces-read u place (length (pieces m s)) 0 (pieces m s) bs r

abbrev bytes_in : {A : Type 0} → Labelled-packet A → List ℕ
bytes_in p = p.bytes

module _ {A : Type 0} (cfg : Config) where
  -- the packets that count, without their labels
  as_input_lem : (r : Read) (a : List A) → map (λ (x : List A × Input). x.1) (as_input r a) ≡ inputs_of_read r
  as_input_lem silent a = refl
  as_input_lem (noted n id) a = refl
  as_input_lem (input x) a = refl

  pub counted-brings : (ps : List (Labelled-packet A))
      → map (λ (x : List A × Input). x.1) (inputs cfg (map pair_of ps)) ≡ brings cfg (map bytes_in ps)
  unfolding inputs brings
  counted-brings [] = refl
  counted-brings (p ∷ ps) =
      let r = read_of cfg p.bytes in
      map-append (λ (x : List A × Input). x.1) (as_input r p.labels) (inputs cfg (map pair_of ps))
      ∙ rw (as_input_lem r p.labels, counted-brings ps)

  -- where nothing is noted, the account is what joining makes of them
  read-run : (es : List (Slot-event A)) (xs : List (List A × Input)) (r : Read) (f : ℕ → Lane (List A)) (a : List A) → Quiet r
      → ((h : ℕ → Lane (List A)) → events cfg h es ≡ run cfg.rules h xs)
      → (after_read cfg r f a).events ++ events cfg (after_read cfg r f a).lanes es ≡ run cfg.rules f (as_input r a ++ xs)
  read-run es xs silent f a q ih = ih f
  read-run es xs (noted n id) f a q ih = absurd q
  read-run es xs (input x) f a q ih =
      let s = step cfg.rules (f x.place) a x in
      unfold run in ap (λ (l : List (Event (List A))). s.events ++ l) (ih (with_lane cfg.rules f x.place s.lane))

  pub events-run : (es : List (Slot-event A)) → Slot-clean es → AllQuiet cfg (map bytes_in (packets es)) → (f : ℕ → Lane (List A))
      → events cfg f es ≡ run cfg.rules f (counted cfg es)
  unfolding events inputs
  events-run [] c q f = unfold run in refl
  events-run (slot-note n ∷ es) c q f = absurd c
  events-run (packet p ∷ es) c q f =
      read-run es (counted cfg es) (read_of cfg p.bytes) f p.labels q.0 (events-run es c q.1)
