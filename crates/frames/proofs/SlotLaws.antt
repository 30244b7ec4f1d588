-- Laws of specs/Slot.antt.
use Rattle.std.specs.Prelude.{ℕ, ◌*◌, ◌/◌, ◌<◌, ◌≤◌, ◌≡◌, Bool, not, List, ◌↔◌, length, eqb, leb}
use Rattle.std.proofs.Math.Path.{refl}
use Rattle.std.proofs.Math.Bool.{true, false}
use Rattle.std.proofs.Common.{div-lt_iff_lt-mul, arith}
use borrow.Author.Tests.{lt-ltb, le-ltb, le-leb, lt-leb, eq-eqb, ne_eqb, ltb-true, ltb-false, leb-false, eqb-true, not-false}
use Rattle.std.proofs.Math.Dec.{ltb}
use Rattle.words.specs.Config.{KeptConfig}
use Rattle.state.specs.State.{State, refused, accepted}
use Rattle.wire.proofs.Choice.{passed, neither}
use Rattle.intake.specs.Slot.{packet_memory}
use Rattle.frames.specs.Frame.{loss_of}
use Rattle.frames.specs.Slot.{short_by, slot_refusal, counted, own_of, due_length, due_pointers, due_own, wrong_length, slot_of, lost_slot_of, Ready}

-- memories that are long enough, or not
module _ (c : KeptConfig) (packet collecting : ℕ) where
  pub packet-short : packet < packet_memory → short_by c packet collecting ≡ true
  unfolding short_by
  packet-short h = rw (lt-ltb _ _ h)

  module _ (h : packet_memory ≤ packet) where
    pub collecting-short : collecting < c.watch.n * c.rules.limit → short_by c packet collecting ≡ true
    unfolding short_by
    collecting-short l = rw (le-ltb _ _ h, lt-ltb _ _ l)

    pub long-enough : c.watch.n * c.rules.limit ≤ collecting → short_by c packet collecting ≡ false
    unfolding short_by
    long-enough l = rw (le-ltb _ _ h, le-ltb _ _ l)

    -- without a product, which may be too large for the machine
    pub short-by_quotient : (c.rules.limit ≡ 0 → ⊥) → short_by c packet collecting ≡ ltb (collecting / c.rules.limit) c.watch.n
    unfolding short_by
    short-by_quotient z =
        rw (le-ltb _ _ h) (go (ltb (collecting / c.rules.limit) c.watch.n) refl (div-lt_iff_lt-mul (omega arith)))
      where
        go : (b : Bool) → ltb (collecting / c.rules.limit) c.watch.n ≡ b
            → ((collecting / c.rules.limit < c.watch.n) ↔ (collecting < c.watch.n * c.rules.limit))
            → ltb collecting (c.watch.n * c.rules.limit) ≡ b
        go true t d = lt-ltb _ _ (d.0 (ltb-true _ _ t))
        go false t d =
            let q : collecting < c.watch.n * c.rules.limit → ⊥ =
            λ l. omega (arith, d.1 l, ltb-false (collecting / c.rules.limit) c.watch.n t) in
            le-ltb collecting (c.watch.n * c.rules.limit) (omega arith)

module _ (st : State) (packet collecting : ℕ) where
  pub refused-none-due : 120 ≤ st.frame.at → slot_refusal st packet collecting ≡ 20
  unfolding slot_refusal
  refused-none-due h = rw (le-leb _ _ h)

  module _ (h : st.frame.at < 120) where
    pub refused-owed : st.owed ≡ true → slot_refusal st packet collecting ≡ 21
    unfolding slot_refusal
    refused-owed e = rw (lt-leb _ _ h, e)

    pub refused-short : st.owed ≡ false → short_by st.config packet collecting ≡ true → slot_refusal st packet collecting ≡ 22
    unfolding slot_refusal
    refused-short e f = rw (lt-leb _ _ h, e, f)

    pub refused_none : st.owed ≡ false → short_by st.config packet collecting ≡ false → slot_refusal st packet collecting ≡ 0
    unfolding slot_refusal
    refused_none e f = rw (lt-leb _ _ h, e, f)

  pub accepts : Ready st packet collecting → slot_refusal st packet collecting ≡ 0
  accepts r = refused_none r.due r.free (long-enough st.config packet collecting r.packets r.collects)

  pub ready : slot_refusal st packet collecting ≡ 0 → Ready st packet collecting
  unfolding slot_refusal short_by
  ready e =
      let c = st.config in
      let p = passed (leb 120 st.frame.at) 20 _ (λ z. omega arith) e in
      let q = passed st.owed 21 _ (λ z. omega arith) p.1 in
      let r = passed (short_by c packet collecting) 22 0 (λ z. omega arith) q.1 in
      let s = neither (ltb packet packet_memory) (ltb collecting (c.watch.n * c.rules.limit)) r.0 in
      record {
        due = leb-false _ _ p.0;
        free = q.0;
        packets = ltb-false _ _ s.0;
        collects = ltb-false _ _ s.1;
      }

-- a length that is the slot's, and one that isn't
module _ (due l : ℕ) where
  pub length_above : 5049 < l → wrong_length due l ≡ true
  unfolding wrong_length
  length_above h = rw (lt-ltb _ _ h)

  pub length-other : l ≤ 5049 → wrong_length due l ≡ not (eqb l due)
  unfolding wrong_length
  length-other h = rw (le-ltb _ _ h)

  pub length-right : l ≤ 5049 → l ≡ due → wrong_length due l ≡ false
  unfolding wrong_length
  length-right h e = rw (le-ltb _ _ h, eq-eqb _ _ e)

  pub right-length : wrong_length due l ≡ false → (l ≤ 5049) × (l ≡ due)
  unfolding wrong_length
  right-length e =
      let p = neither (ltb 5049 l) (not (eqb l due)) e in
      (ltb-false _ _ p.0, eqb-true _ _ (not-false _ p.1))

-- the cases of slot
module _ (st : State) (p c d : List ℕ) where
  pub slot-refused : (slot_refusal st (length p) (length c) ≡ 0 → ⊥)
      → slot_of st p c d ≡ (refused (slot_refusal st (length p) (length c)) st, p)
  unfolding slot_of
  slot-refused n = rw (ne_eqb _ _ n)

  module _ (z : slot_refusal st (length p) (length c) ≡ 0) where
    pub slot_wrong_length : wrong_length (due_length st) (length d) ≡ true → slot_of st p c d ≡ (refused 23 st, p)
    unfolding slot_of
    slot_wrong_length w = rw (eq-eqb _ _ z, w)

    module _ (w : wrong_length (due_length st) (length d) ≡ false) where
      pub slot-not-own : due_own st ≡ false → slot_of st p c d ≡ (accepted (counted st), p)
      unfolding slot_of
      slot-not-own o = rw (eq-eqb _ _ z, w, o)

      pub slot-own : due_own st ≡ true
          → slot_of st p c d ≡ (accepted (own_of (counted st) p d (due_pointers st)).0, (own_of (counted st) p d (due_pointers st)).1)
      unfolding slot_of
      slot-own o = rw (eq-eqb _ _ z, w, o)

-- and of a lost one
module _ (st : State) (packet collecting : ℕ) where
  pub lost-refused : (slot_refusal st packet collecting ≡ 0 → ⊥)
      → lost_slot_of st packet collecting ≡ refused (slot_refusal st packet collecting) st
  unfolding lost_slot_of
  lost-refused n = rw (ne_eqb _ _ n)

  module _ (z : slot_refusal st packet collecting ≡ 0) where
    pub lost-not-own : due_own st ≡ false → lost_slot_of st packet collecting ≡ accepted (counted st)
    unfolding lost_slot_of
    lost-not-own o = rw (eq-eqb _ _ z, o)

    pub lost-own : due_own st ≡ true → lost_slot_of st packet collecting ≡ accepted (loss_of (counted st))
    unfolding lost_slot_of
    lost-own o = rw (eq-eqb _ _ z, o)
