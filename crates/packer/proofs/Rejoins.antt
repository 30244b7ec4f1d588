-- Why the packets of a unit give the unit: what each step does, and the open unit after packet `i`.
use Rattle.std.proofs.Common.{◌≡◌, ℕ, suc, ◌+◌, ◌-◌, ◌%◌, ◌^◌, ◌<◌, ◌≤◌, true, false, List, [], ◌∷◌, ◌++◌, map, length, sym, refl, ap, ◌∙◌, append_assoc, append-nil, add-zero, mod-eq_of_lt, arith, length-append, le-ltb, eq-eqb, ne_eqb}
use lib.ListN.{length-map}
use Rattle.mmtp.specs.declared.header.Psn.{Psn}
use Rattle.mmtp.specs.declared.payload.Indicator.TheVariants.{Whole, First, Middle, Last}
use Rattle.reassembly.specs.declared.config.Rules.{Rules}
use Rattle.reassembly.specs.declared.unit.Unit.{Unit}
use Rattle.reassembly.specs.declared.channel.Phase.TheVariants.{Idle, Open}
use Rattle.reassembly.specs.declared.channel.Channel.{Channel}
use Rattle.reassembly.specs.Unit.{agrees}
use Rattle.reassembly.specs.Channel.{next_psn, heard, gap}
use Rattle.reassembly.specs.Join.{interrupted, begun, counter_follows, grown, extended, followed, acted, join_of, notes_of, longer}
use Rattle.reassembly.specs.Run.{Input, Event, Lane, Stepped, labelled, step, with_lane, run, lanes_after}
use Rattle.packer.specs.Pieces.{pieces, indicator_at, counter_at, with_psn, piece_at}
use Rattle.packer.specs.Packer.{joined}
use Rattle.packer.specs.Rejoins.{input_at, inputs_from, inputs, Ready, unheard, idle, Rejoined, UnitRejoined}
use Rattle.packer.proofs.Pieces.{pieces-some, joined-pieces}

-- one step without a note, by the indicator
module _ {A : Type 0} (rules : Rules) (l : Lane A) (a : A) (x : Input) (g : gap l.channel x.piece.unit.psn ≡ false) where
  step-whole : x.piece.indicator ≡ Whole → interrupted l.channel.phase ≡ 0 → step rules l a x ≡ record {
    lane = record {
      channel = record { phase = Idle; last = x.piece.unit.psn; current = l.channel.current };
      labels = l.labels;
      bytes = l.bytes;
    };
    events = map (labelled (a ∷ [])) x.wholes;
  }
  unfolding step join_of acted notes_of
  step-whole i q = rw (g, i, q)

  step-first : x.piece.indicator ≡ First → interrupted l.channel.phase ≡ 0 → x.piece.len ≤ rules.limit
      → step rules l a x ≡ record {
        lane = record {
          channel = record {
            phase = Open;
            last = x.piece.unit.psn;
            current = record { unit = x.piece.unit; counter = x.piece.counter; len = x.piece.len };
          };
          labels = a ∷ [];
          bytes = x.bytes;
        };
        events = [];
      }
  unfolding step join_of acted begun notes_of
  step-first i q h = rw (g, i, q, le-ltb _ _ h)

  module _ (o : l.channel.phase ≡ Open) (w : agrees l.channel.current.unit x.piece.unit ≡ true)
      (c : counter_follows l.channel.current.counter x.piece.counter ≡ true)
      (h : l.channel.current.len + x.piece.len ≤ rules.limit) where
    step_middle : x.piece.indicator ≡ Middle → step rules l a x ≡ record {
      lane = record {
        channel = record { phase = Open; last = x.piece.unit.psn; current = longer l.channel x.piece };
        labels = l.labels ++ (a ∷ []);
        bytes = l.bytes ++ x.bytes;
      };
      events = [];
    }
    unfolding step join_of acted followed extended grown notes_of
    step_middle i = rw (g, i, o, w, c, le-ltb _ _ h)

    step-last : x.piece.indicator ≡ Last → step rules l a x ≡ record {
      lane = record {
        channel = record { phase = Idle; last = x.piece.unit.psn; current = longer l.channel x.piece };
        labels = l.labels ++ (a ∷ []);
        bytes = l.bytes ++ x.bytes;
      };
      events =
          labelled (l.labels ++ (a ∷ [])) (record { info = l.channel.current.unit; bytes = l.bytes ++ x.bytes }) ∷ [];
    }
    unfolding step join_of acted followed extended grown notes_of
    step-last i = rw (g, i, o, w, c, le-ltb _ _ h)

-- the first packet has the unit's own psn
with-zero : (u : Unit) → u.psn.0 < 2 ^ 32 → with_psn u 0 ≡ u
unfolding with_psn
with-zero u h = rw (add-zero, mod-eq_of_lt h)

agrees-with : (u : Unit) (i : ℕ) → agrees u (with_psn u i) ≡ true
unfolding agrees with_psn
agrees-with u i =
    let f = u.fields in
    rw (
      eq-eqb u.kind u.kind refl,
      eq-eqb u.mpu u.mpu refl,
      eq-eqb f.movie_fragment f.movie_fragment refl,
      eq-eqb f.sample f.sample refl,
      eq-eqb f.item f.item refl,
    )

counter-on : (n i : ℕ) → i + 1 < n → counter_follows (counter_at n i) (counter_at n (i + 1)) ≡ true
unfolding counter_follows counter_at
counter-on n i h = eq-eqb ((n - 1 - i) % 256) (((n - 1 - (i + 1)) % 256 + 1) % 256) (omega arith)

indicator_middle : (n i : ℕ) → i + 1 + 1 < n → indicator_at n (i + 1) ≡ Middle
unfolding indicator_at
indicator_middle n i h =
    let a : n ≡ 1 → ⊥ = λ e. omega arith in
    let b : i + 1 ≡ 0 → ⊥ = λ e. omega arith in
    let c : i + 1 + 1 ≡ n → ⊥ = λ e. omega arith in
    rw (ne_eqb _ _ a, ne_eqb _ _ b, ne_eqb _ _ c)

indicator_last : (n i : ℕ) → i + 1 + 1 ≡ n → indicator_at n (i + 1) ≡ Last
unfolding indicator_at
indicator_last n i h =
    let a : n ≡ 1 → ⊥ = λ e. omega arith in
    let b : i + 1 ≡ 0 → ⊥ = λ e. omega arith in
    rw (ne_eqb _ _ a, ne_eqb _ _ b, eq-eqb _ _ h)

indicator_first : (n : ℕ) → 1 < n → indicator_at n 0 ≡ First
unfolding indicator_at
indicator_first n h = let a : n ≡ 1 → ⊥ = λ e. omega arith in rw (ne_eqb _ _ a)

-- inputs with labels
abbrev tagged : {A : Type 0} → List A → List Input → List (A × Input)
tagged [] xs = []
tagged (a ∷ tags) [] = []
tagged (a ∷ tags) (x ∷ xs) = (a, x) ∷ tagged tags xs

tagged-back : {A : Type 0} (xs : List (A × Input)) → tagged (map (λ x. x.0) xs) (map (λ x. x.1) xs) ≡ xs
tagged-back [] = refl
tagged-back (x ∷ xs) = rw (tagged-back xs)

module _ {A : Type 0} (rules : Rules) (place n : ℕ) (u : Unit) where
  -- the lane after packet `i`, the unit still open
  abbrev open_after : ℕ → List A → List ℕ → Lane A
  open_after i ls bs =
      record {
        channel = record {
          phase = Open;
          last = (with_psn u i).psn;
          current = record { unit = u; counter = counter_at n i; len = length bs };
        };
        labels = ls;
        bytes = bs;
      }

  -- a packet in front
  with-place : (f : ℕ → Lane A) (l : Lane A) → with_lane rules f place l place ≡ l
  with-place f l = rw (eq-eqb place place refl)

  with-other : (f : ℕ → Lane A) (l : Lane A) (k : ℕ) → (k ≡ place → ⊥) → with_lane rules f place l k ≡ f k
  with-other f l k h = rw (ne_eqb k place h)

  abbrev Runs : (ℕ → Lane A) → List (A × Input) → Stepped A → List (A × Input) → Type 0
  Runs f ys w xs =
      (run rules f ys ≡ w.events ++ run rules (with_lane rules f place w.lane) xs)
      × (lanes_after rules f ys ≡ lanes_after rules (with_lane rules f place w.lane) xs)

  runs : (f : ℕ → Lane A) (a : A) (i : ℕ) (s : List ℕ) (xs : List (A × Input)) (l : Lane A) (w : Stepped A)
      → f place ≡ l → step rules l a (input_at u place n i s) ≡ w → Runs f ((a, input_at u place n i s) ∷ xs) w xs
  unfolding run lanes_after
  runs f a i s xs l w e h = (rw (e, h), rw (e, h))

  -- without an event
  in_front_lem : (f : ℕ → Lane A) (ys xs : List (A × Input)) (o : Lane A) (ls : List A) (bs : List ℕ)
      → Runs f ys (record { lane = o; events = [] }) xs → Rejoined rules place u n ls bs (with_lane rules f place o) xs
      → Rejoined rules place u n ls bs f ys
  in_front_lem f ys xs o ls bs z y =
      record {
        events = z.0 ∙ y.events;
        phase = ap (λ (v : ℕ → Lane A). (v place).channel.phase) z.1 ∙ y.phase;
        last = ap (λ (v : ℕ → Lane A). (v place).channel.last) z.1 ∙ y.last;
        others = λ k m. ap (λ (v : ℕ → Lane A). v k) z.1 ∙ y.others k m ∙ with-other f o k m;
      }

  -- with the one unit, and nothing behind it
  at-end : (f : ℕ → Lane A) (ys : List (A × Input)) (o : Lane A) (ls : List A) (bs : List ℕ)
      → Runs f ys (record { lane = o; events = labelled ls (record { info = u; bytes = bs }) ∷ [] }) [] → o.channel.phase ≡ Idle
      → o.channel.last ≡ (with_psn u (n - 1)).psn → Rejoined rules place u n ls bs f ys
  unfolding run lanes_after
  at-end f ys o ls bs z p q =
      record {
        events = z.0;
        phase = ap (λ (v : ℕ → Lane A). (v place).channel.phase) z.1 ∙ rw (with-place f o) p;
        last = ap (λ (v : ℕ → Lane A). (v place).channel.last) z.1 ∙ rw (with-place f o) q;
        others = λ k m. ap (λ (v : ℕ → Lane A). v k) z.1 ∙ with-other f o k m;
      }

  -- the steps behind packet `i`
  module _ (i : ℕ) (ls : List A) (bs : List ℕ) (a : A) (s : List ℕ) (h : length bs + length s ≤ rules.limit) where
    gap-on : gap (open_after i ls bs).channel (with_psn u (i + 1)).psn ≡ false
    unfolding gap heard next_psn with_psn
    gap-on =
        let e : (u.psn.0 + (i + 1)) % 2 ^ 32 ≡ ((u.psn.0 + i) % 2 ^ 32 + 1) % 2 ^ 32 = omega arith in
        rw (eq-eqb _ _ e)

    middle_on : i + 1 + 1 < n
        → step rules (open_after i ls bs) a (input_at u place n (i + 1) s)
        ≡ record { lane = open_after (i + 1) (ls ++ (a ∷ [])) (bs ++ s); events = [] }
    unfolding piece_at
    middle_on l =
        step_middle rules (open_after i ls bs) a (input_at u place n (i + 1) s) gap-on refl (agrees-with u (i + 1))
        (counter-on n i (omega arith)) h (indicator_middle n i l)
        ∙ rw (length-append bs s)

    -- the lane after the last packet
    abbrev closed : Lane A
    closed =
        record {
          channel = record {
            phase = Idle;
            last = (with_psn u (i + 1)).psn;
            current = record { unit = u; counter = counter_at n (i + 1); len = length bs + length s };
          };
          labels = ls ++ (a ∷ []);
          bytes = bs ++ s;
        }

    last_on : i + 1 + 1 ≡ n
        → step rules (open_after i ls bs) a (input_at u place n (i + 1) s)
        ≡ record { lane = closed; events = labelled (ls ++ (a ∷ [])) (record { info = u; bytes = bs ++ s }) ∷ [] }
    unfolding piece_at
    last_on l =
        step-last rules (open_after i ls bs) a (input_at u place n (i + 1) s) gap-on refl (agrees-with u (i + 1))
        (counter-on n i (omega arith)) h (indicator_last n i l)

  -- the packets behind packet `i`
  goes_on_lem : (ps : List (List ℕ)) (tags : List A) (f : ℕ → Lane A) (i : ℕ) (ls : List A) (bs : List ℕ)
      → f place ≡ open_after i ls bs → length tags ≡ length ps → 0 < length ps → i + 1 + length ps ≡ n
      → length bs + length (joined ps) ≤ rules.limit
      → Rejoined rules place u n (ls ++ tags) (bs ++ joined ps) f (tagged tags (inputs_from u place n (i + 1) ps))
  unfolding inputs_from joined
  goes_on_lem [] tags f i ls bs e l p q r = absurd (omega arith)
  goes_on_lem (s ∷ ps) [] f i ls bs e l p q r = absurd (omega arith)
  goes_on_lem (s ∷ []) (a ∷ []) f i ls bs e l p q r =
      let h : length bs + length s ≤ rules.limit = omega (arith, length-append s []) in
      let d : i + 1 ≡ n - 1 = omega arith in
      let z = runs f a (i + 1) s [] _ _ e (last_on i ls bs a s h (omega arith)) in
      rw (append-nil s) (at-end f _ (closed i ls bs a s h) (ls ++ (a ∷ [])) (bs ++ s) z refl (rw d))
  goes_on_lem (s ∷ []) (a ∷ (b ∷ tags)) f i ls bs e l p q r = absurd (omega arith)
  goes_on_lem (s ∷ (t ∷ ps)) (a ∷ tags) f i ls bs e l p q r =
      let j = t ++ joined ps in
      let h : length bs + length s ≤ rules.limit = omega (arith, length-append s j) in
      let k : length (bs ++ s) + length j ≤ rules.limit = omega (arith, length-append s j, length-append bs s) in
      let o = open_after (i + 1) (ls ++ (a ∷ [])) (bs ++ s) in
      let xs = tagged tags (inputs_from u place n (i + 1 + 1) (t ∷ ps)) in
      let z = runs f a (i + 1) s xs _ _ e (middle_on i ls bs a s h (omega arith)) in
      let y = goes_on_lem (t ∷ ps) tags (with_lane rules f place o) (i + 1) (ls ++ (a ∷ [])) (bs ++ s) (with-place f o) (omega arith)
      (omega arith) (omega arith) k in
      in_front_lem f _ xs o _ _ z (rw (append_assoc bs s j, append_assoc ls (a ∷ []) tags) at y)

  -- the first packet
  module _ (b : with_psn u 0 ≡ u) (f : ℕ → Lane A) (g : gap (f place).channel u.psn ≡ false)
      (q : interrupted (f place).channel.phase ≡ 0) (a : A) (s : List ℕ) where
    first-gap : gap (f place).channel (with_psn u 0).psn ≡ false
    first-gap = rw b g

    -- of more than one
    begins : (ps : List (List ℕ)) (tags : List A) → length tags ≡ length ps → 0 < length ps → 1 + length ps ≡ n
        → length (s ++ joined ps) ≤ rules.limit
        → Rejoined rules place u n (a ∷ tags) (s ++ joined ps) f
        ((a, input_at u place n 0 s) ∷ tagged tags (inputs_from u place n (0 + 1) ps))
    unfolding piece_at
    begins ps tags l p k r =
        let x = input_at u place n 0 s in
        let t = length-append s (joined ps) in
        let o = open_after 0 (a ∷ []) s in
        let e : step rules (f place) a x ≡ record { lane = o; events = [] } =
        step-first rules (f place) a x first-gap (indicator_first n (omega arith)) q (omega arith) ∙ rw b in
        let xs = tagged tags (inputs_from u place n (0 + 1) ps) in
        let y = goes_on_lem ps tags (with_lane rules f place o) 0 (a ∷ []) s (with-place f o) l p (omega arith) (omega arith) in
        in_front_lem f _ xs o _ _ (runs f a 0 s xs _ _ refl e) y

    -- the only one
    alone : 1 ≡ n → Rejoined rules place u n (a ∷ []) (s ++ []) f ((a, input_at u place n 0 s) ∷ [])
    unfolding piece_at indicator_at
    alone k =
        let x = input_at u place n 0 s in
        let c : Channel = record { phase = Idle; last = u.psn; current = (f place).channel.current } in
        let o : Lane A = record { channel = c; labels = (f place).labels; bytes = (f place).bytes } in
        let t : List (Event A) = labelled (a ∷ []) (record { info = u; bytes = s }) ∷ [] in
        let e : step rules (f place) a x ≡ record { lane = o; events = t } =
        step-whole rules (f place) a x first-gap (rw (← k)) q ∙ rw b in
        let d : n - 1 ≡ 0 = omega arith in
        rw (append-nil s) (at-end f _ o (a ∷ []) s (runs f a 0 s [] _ _ refl e) refl (rw (d, b)))

  -- all packets
  rejoins : (ps : List (List ℕ)) (tags : List A) (f : ℕ → Lane A) → with_psn u 0 ≡ u → gap (f place).channel u.psn ≡ false
      → interrupted (f place).channel.phase ≡ 0 → length tags ≡ length ps → length ps ≡ n → 0 < n
      → (1 < n → length (joined ps) ≤ rules.limit)
      → Rejoined rules place u n tags (joined ps) f (tagged tags (inputs_from u place n 0 ps))
  unfolding inputs_from joined
  rejoins [] tags f b g q l k p r = absurd (omega arith)
  rejoins (s ∷ ps) [] f b g q l k p r = absurd (omega arith)
  rejoins (s ∷ []) (a ∷ []) f b g q l k p r = alone b f g q a s k
  rejoins (s ∷ []) (a ∷ (c ∷ tags)) f b g q l k p r = absurd (omega arith)
  rejoins (s ∷ (t ∷ ps)) (a ∷ tags) f b g q l k p r =
      begins b f g q a s (t ∷ ps) tags (omega arith) (omega arith) (omega arith) (r (omega arith))

-- a packet_id that can begin the unit
ready_on : (ch : Channel) (psn : Psn) → Ready ch psn → (gap ch psn ≡ false) × (interrupted ch.phase ≡ 0)
unfolding gap heard interrupted
ready_on ch psn (unheard e) = rw e (refl, refl)
ready_on ch psn (idle e q) = let z = ap (λ (p : Psn). p.0) q in rw (e, eq-eqb _ _ (sym z)) (refl, refl)

length-inputs : (u : Unit) (place n i : ℕ) (ps : List (List ℕ)) → length (inputs_from u place n i ps) ≡ length ps
unfolding inputs_from
length-inputs u place n i [] = refl
length-inputs u place n i (s ∷ ps) = ap suc (length-inputs u place n (i + 1) ps)

pub unit-rejoined : UnitRejoined
unfolding inputs
unit-rejoined A rules place m u s f xs h r y e =
    let ps = pieces m s in
    let tags = map (λ (x : A × Input). x.0) xs in
    let t : tagged tags (inputs_from u place (length ps) 0 ps) ≡ xs = rw e at (tagged-back xs) in
    let l : length tags ≡ length ps =
    length-map xs _ ∙ sym (length-map xs _) ∙ ap length e ∙ length-inputs u place (length ps) 0 ps in
    let g = ready_on (f place).channel u.psn y in
    let j = joined-pieces m s in
    let z = rejoins rules place (length ps) u ps tags f (with-zero u h) g.0 g.1 l refl (pieces-some m s) (rw j r) in
    rw (t, j) at z

-- the psn that a unit after this one begins with
pub next-after : (u : Unit) (n : ℕ) → 0 < n → next_psn (with_psn u (n - 1)).psn ≡ (with_psn u n).psn
unfolding next_psn with_psn
next-after u n h =
    let e : ((u.psn.0 + (n - 1)) % 2 ^ 32 + 1) % 2 ^ 32 ≡ (u.psn.0 + n) % 2 ^ 32 = omega arith in
    rw e
