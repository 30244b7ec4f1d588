-- One step of a lane that gets every packet, beside the lane of the same packet_id that gets only those received.
use Rattle.std.proofs.Common.{◌≡◌, ℕ, suc, ◌+◌, ◌%◌, ◌<◌, ◌≤◌, Bool, true, false, ◌⊎◌, List, [], ◌∷◌, map, sym, refl, ap, ◌∙◌, inl, inr, true≢false, arith, ne_eqb, eqb-true}
use borrow.Author.Tests.{not-false}
use Rattle.mmtp.specs.declared.header.Psn.{Psn}
use Rattle.mmtp.specs.declared.payload.Indicator.{Indicator}
use Rattle.mmtp.specs.declared.payload.Indicator.TheVariants.{Whole, First, Middle, Last}
use Rattle.reassembly.specs.declared.config.Rules.{Rules}
use Rattle.reassembly.specs.declared.channel.Phase.{Phase}
use Rattle.reassembly.specs.declared.channel.Phase.TheVariants.{Unheard, Waiting, Idle, Open}
use Rattle.reassembly.specs.declared.channel.Channel.{Channel}
use Rattle.wire.specs.Lists.{all}
use Rattle.wire.proofs.ListsLaws.{all-last, not-all-last, not-all-before}
use Rattle.reassembly.specs.Channel.{next_psn, heard, gap}
use Rattle.reassembly.specs.Join.{begun, followed, interrupted, notes_of}
use Rattle.reassembly.specs.Run.{Content, Input, Lane, Stepped, labelled, step, units, Clean}
use Rattle.reassembly.specs.Claims.{unharmed}
use Rattle.reassembly.proofs.Steps.{Deaf, Further, Went, gives, begins, skips, grows, ends, shut_quiet, does, AsFrom}
use Rattle.reassembly.proofs.Steps.{step-on, step-gap, clean-on, clean_step, deaf_does}

-- ---- psn
psn-next : (p g : ℕ) → ((p + g) % 4294967296 + 1) % 4294967296 ≡ (p + suc g) % 4294967296
psn-next p g = omega arith

psn-differs : (p g : ℕ) → 0 < g → g < 4294967296 → (p + suc g) % 4294967296 ≡ (p + 1) % 4294967296 → ⊥
psn-differs p g h k e = omega arith

module _ (ch : Channel) (psn : Psn) (h : heard ch.phase ≡ true) where
  no_gap-next : gap ch psn ≡ false → psn.0 ≡ (ch.last.0 + 1) % 4294967296
  unfolding gap next_psn
  no_gap-next g = eqb-true _ _ (not-false _ (rw h at g))

  gap_other : (psn.0 ≡ (ch.last.0 + 1) % 4294967296 → ⊥) → gap ch psn ≡ true
  unfolding gap next_psn
  gap_other n = rw (h, ne_eqb _ _ n)

-- ---- phases
deaf_unheard : (ph : Phase) → heard ph ≡ false → Deaf ph
unfolding heard
deaf_unheard Unheard h = tt
deaf_unheard Waiting h = tt
deaf_unheard Idle h = absurd (true≢false h)
deaf_unheard Open h = absurd (true≢false h)

deaf_waiting : (ph : Phase) → ph ≡ Waiting → Deaf ph
deaf_waiting ph e = rw e tt

-- ---- lanes
module _ {A : Type 0} where
  went-heard : {rules : Rules} {l : Lane A} {a : A} {x : Input} {f : Indicator} {ph : Phase} {s : Stepped A}
      → Went rules l a x f ph s → (heard s.lane.channel.phase ≡ true) × (s.lane.channel.last ≡ x.piece.unit.psn)
  unfolding heard
  went-heard (gives t) = (refl, refl)
  went-heard (begins t e) = (refl, refl)
  went-heard (skips t d) = (refl, refl)
  went-heard grows = (refl, refl)
  went-heard ends = (refl, refl)

  -- two lanes of one state; what a lane has gathered counts only while a unit is open
  abbrev pub Same : Phase → Lane A → Lane A → Type 0
  Same Unheard u d = Unit {0}
  Same Waiting u d = Unit {0}
  Same Idle u d = Unit {0}
  Same Open u d = d ≡ u

  pub record Alike (u d : Lane A) : Type 0 where
    pub phase : d.channel.phase ≡ u.channel.phase
    pub last : d.channel.last ≡ u.channel.last
    pub same : Same u.channel.phase u d

  same_self : (ph : Phase) (l : Lane A) → Same ph l l
  same_self Unheard l = tt
  same_self Waiting l = tt
  same_self Idle l = tt
  same_self Open l = refl

  pub alike_self : (l : Lane A) → Alike l l
  alike_self l = record { phase = refl; last = refl; same = same_self l.channel.phase l }

  gap-alike : {u d : Lane A} → Alike u d → (psn : Psn) → gap d.channel psn ≡ gap u.channel psn
  unfolding gap
  gap-alike e psn = rw (e.phase, e.last)

module _ {A : Type 0} (keep : A → Bool) where
  -- whether all packets of the open unit are received
  abbrev pub Carried : Bool → Phase → List A → Type 0
  Carried b Unheard ls = Unit {0}
  Carried b Waiting ls = Unit {0}
  Carried b Idle ls = Unit {0}
  Carried b Open ls = all keep ls ≡ b

  abbrev pub Holds : Bool → Lane A → Type 0
  Holds b l = Carried b l.channel.phase l.labels

  -- u has got all of n packets, d those received
  pub data Beside (u d : Lane A) (n : ℕ) : Type 0 where
    -- they are in step
    level : Alike u d → Holds true u → Beside u d n
    -- d lacks the last g packets
    behind : (g : ℕ) → heard u.channel.phase ≡ true → heard d.channel.phase ≡ true
        → u.channel.last.0 ≡ (d.channel.last.0 + g) % 4294967296 → 0 < g → g ≤ n → Holds false u → Beside u d n
    -- d waits, or has got none, and a packet of the unit that u has open is lost
    adrift : Deaf d.channel.phase → Holds false u → Beside u d n

  -- ---- units of a packet's own
  units-received : (a : A) (us : List Content) → keep a ≡ true
      → units (map (labelled (a ∷ [])) us) ≡ unharmed keep (units (map (labelled (a ∷ [])) us))
  units-received a [] k = refl
  units-received a (u ∷ us) k = rw (k, ← units-received a us k)

  units-lost : (a : A) (us : List Content) → keep a ≡ false → unharmed keep (units (map (labelled (a ∷ [])) us)) ≡ []
  units-lost a [] k = refl
  units-lost a (u ∷ us) k = rw (k, units-lost a us k)

  one-is : (a : A) (b : Bool) → keep a ≡ b → all keep (a ∷ []) ≡ b
  one-is a true k = rw k
  one-is a false k = rw k

  module _ (rules : Rules) where
    -- ---- FI 10 or 11 gives nothing to a lane that waits, and leaves it waiting
    abbrev Idles : Input → Stepped A → Type 0
    Idles x w =
        (w.lane.channel.phase ≡ Waiting) × (w.lane.channel.last ≡ x.piece.unit.psn) × (units w.events ≡ [])

    module _ (d : Lane A) (a : A) (x : Input) where
      further_idles : (f : Indicator) → Further f → Idles x (does rules f Waiting d a x)
      unfolding does followed notes_of
      further_idles Whole t = absurd t
      further_idles First t = absurd t
      further_idles Middle t = (refl, refl, refl)
      further_idles Last t = (refl, refl, refl)

      deaf_idles : (f : Indicator) → Further f → (ph : Phase) → Deaf ph → Idles x (does rules f ph d a x)
      deaf_idles f t ph v = rw (deaf_does rules d a x f ph v) (further_idles f t)

    -- two steps to lanes of one state, with the same units
    abbrev Along : Stepped A → Stepped A → Type 0
    Along s w = Alike s.lane w.lane × (units w.events ≡ units s.events)

    equal_along : (f : Indicator) (ph : Phase) (a : A) (x : Input) {u d : Lane A} {s : Stepped A} → d ≡ u
        → does rules f ph u a x ≡ s → Along s (does rules f ph d a x)
    equal_along f ph a x {s = s} e q = rw (e, q) (alike_self s.lane, refl)

    -- a step of w that was received, beside the step s of all packets: in step again, or adrift
    abbrev Again : Stepped A → Stepped A → Type 0
    Again s w =
        ((Alike s.lane w.lane × Holds true s.lane) ⊎ (Deaf w.lane.channel.phase × Holds false s.lane))
        × (units w.events ≡ unharmed keep (units s.events))

    -- ---- a step without a note, by what it comes to
    module _ {u : Lane A} {a : A} {x : Input} where
      went-lost : {f : Indicator} {ph : Phase} {s : Stepped A} → Went rules u a x f ph s → keep a ≡ false
          → (unharmed keep (units s.events) ≡ []) × Holds false s.lane
      went-lost (gives t) k = (units-lost a x.wholes k, tt)
      went-lost (begins t e) k = (refl, one-is a false k)
      went-lost (skips t d) k = (refl, tt)
      went-lost grows k = (refl, not-all-last keep u.labels a k)
      went-lost ends k = (rw (not-all-last keep u.labels a k), tt)

      went-received : {f : Indicator} {ph : Phase} {s : Stepped A} → Went rules u a x f ph s → keep a ≡ true
          → Carried true ph u.labels → (units s.events ≡ unharmed keep (units s.events)) × Holds true s.lane
      went-received (gives t) k c = (units-received a x.wholes k, tt)
      went-received (begins t e) k c = (refl, one-is a true k)
      went-received (skips t d) k c = (refl, tt)
      went-received grows k c = (refl, all-last keep u.labels a c k)
      went-received ends k c = (rw (all-last keep u.labels a c k), tt)

      -- a lane of the same state goes along
      went_along : {f : Indicator} {ph : Phase} {s : Stepped A} → Went rules u a x f ph s → (d : Lane A) → Same ph u d
          → does rules f ph u a x ≡ s → Along s (does rules f ph d a x)
      unfolding does begun notes_of
      went_along {ph = ph} (gives t) d e q = rw (shut_quiet ph t) (record { phase = refl; last = refl; same = tt }, refl)
      went_along {ph = ph} (begins t v) d e q =
          rw (shut_quiet ph t, v) (record { phase = refl; last = refl; same = refl }, refl)
      went_along {f = f} {ph = ph} (skips t v) d e q =
          let i = deaf_idles d a x f t ph v in
          (record { phase = i.0; last = i.1; same = tt }, i.2)
      went_along grows d e q = equal_along Middle Open a x e q
      went_along ends d e q = equal_along Last Open a x e q

      -- a lane that waits begins again
      went-again : {f : Indicator} {ph : Phase} {s : Stepped A} → Went rules u a x f ph s → (d : Lane A) → keep a ≡ true
          → Carried false ph u.labels → Again s (does rules f Waiting d a x)
      unfolding does begun notes_of interrupted
      went-again (gives t) d k c =
          (inl (record { phase = refl; last = refl; same = tt }, tt), units-received a x.wholes k)
      went-again (begins t v) d k c =
          rw v (inl (record { phase = refl; last = refl; same = refl }, one-is a true k), refl)
      went-again {f = f} (skips t v) d k c =
          let i = further_idles d a x f t in
          (inr (deaf_waiting _ i.0, tt), i.2)
      went-again grows d k c =
          let i = further_idles d a x Middle tt in
          (inr (deaf_waiting _ i.0, not-all-before keep u.labels a c), i.2)
      went-again ends d k c =
          let i = further_idles d a x Last tt in
          (inr (deaf_waiting _ i.0, tt), rw (not-all-before keep u.labels a c) i.2)

    -- ---- the step itself
    module _ (u d : Lane A) (n : ℕ) (a : A) (x : Input) (h : Clean (step rules u a x).events) where
      went : Went rules u a x x.piece.indicator u.channel.phase (step rules u a x)
      went = clean_step rules u a x h

      next : heard u.channel.phase ≡ true → x.piece.unit.psn.0 ≡ (u.channel.last.0 + 1) % 4294967296
      next e = no_gap-next u.channel x.piece.unit.psn e (clean-on rules u a x h)

      -- one packet more since those that d has got
      next_but : (g : ℕ) → heard u.channel.phase ≡ true
          → u.channel.last.0 ≡ (d.channel.last.0 + g) % 4294967296
          → x.piece.unit.psn.0 ≡ (d.channel.last.0 + suc g) % 4294967296
      next_but g p e = rw (← psn-next d.channel.last.0 g, ← e) (next p)

      lost-behind : (g : ℕ) → heard d.channel.phase ≡ true
          → x.piece.unit.psn.0 ≡ (d.channel.last.0 + suc g) % 4294967296 → g ≤ n → keep a ≡ false
          → Beside (step rules u a x).lane d (suc n)
      lost-behind g q e m k =
          behind (suc g) (went-heard went).0 q (rw (went-heard went).1 e) (omega arith) (omega arith) (went-lost went k).1

      pub step-lost : Beside u d n → keep a ≡ false
          → Beside (step rules u a x).lane d (suc n) × (unharmed keep (units (step rules u a x).events) ≡ [])
      step-lost b k = (moved b, (went-lost went k).0)
        where
          parted : Alike u d → (t : Bool) → heard d.channel.phase ≡ t → Beside (step rules u a x).lane d (suc n)
          parted e true q = lost-behind 0 q (rw e.last (next (rw e.phase at q))) (omega arith) k
          parted e false q = adrift (deaf_unheard _ q) (went-lost went k).1

          moved : Beside u d n → Beside (step rules u a x).lane d (suc n)
          moved (level e c) = parted e _ refl
          moved (behind g p q e i m c) = lost-behind g q (next_but g p e) m k
          moved (adrift w c) = adrift w (went-lost went k).1

      abbrev Onward : Type 0
      Onward =
          Beside (step rules u a x).lane (step rules d a x).lane (suc n)
          × (units (step rules d a x).events ≡ unharmed keep (units (step rules u a x).events))

      -- the step of d is as if it waited
      abbrev Waited : Type 0
      Waited = AsFrom rules d a x (does rules x.piece.indicator Waiting d a x) (step rules d a x)

      restarted : Waited → keep a ≡ true → Holds false u → Onward
      restarted w k c = go (went-again went d k c)
        where
          go : Again (step rules u a x) (does rules x.piece.indicator Waiting d a x) → Onward
          go (inl (e, t), us) = rw (w.0, w.1) (level e t, us)
          go (inr (e, t), us) = rw (w.0, w.1) (adrift e t, us)

      deaf_waited : Deaf d.channel.phase → (t : Bool) → gap d.channel x.piece.unit.psn ≡ t → Waited
      deaf_waited w true g = step-gap rules d a x g
      deaf_waited w false g =
          rw (step-on rules d a x g, deaf_does rules d a x x.piece.indicator d.channel.phase w) (refl, refl)

      pub step-received : Beside u d n → keep a ≡ true → n < 4294967296 → Onward
      step-received (level e c) k l =
          let on : gap d.channel x.piece.unit.psn ≡ false =
          gap-alike e x.piece.unit.psn ∙ clean-on rules u a x h in
          let f : step rules d a x ≡ does rules x.piece.indicator u.channel.phase d a x =
          step-on rules d a x on ∙ ap (λ (ph : Phase). does rules x.piece.indicator ph d a x) e.phase in
          let t = went_along went d e.same (sym (step-on rules u a x (clean-on rules u a x h))) in
          let r = went-received went k c in
          rw f (level t.0 r.1, t.1 ∙ r.0)
      step-received (behind g p q e i m c) k l =
          restarted (step-gap rules d a x (gap_other d.channel x.piece.unit.psn q differs)) k c
        where
          differs : x.piece.unit.psn.0 ≡ (d.channel.last.0 + 1) % 4294967296 → ⊥
          differs f = psn-differs d.channel.last.0 g i (omega arith) (sym (next_but g p e) ∙ f)
      step-received (adrift w c) k l = restarted (deaf_waited w _ refl) k c
