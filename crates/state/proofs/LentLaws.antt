-- Laws of specs/Lent.antt.
use Rattle.std.specs.Prelude.{ℕ, ◌+◌, ◌*◌, ◌%◌, ◌<◌, ◌≤◌, ◌≡◌, Bool, true, ◌⊎◌, List, eqb, ltb, length, set, replicate}
use Rattle.std.proofs.Math.Path.{refl}
use Rattle.std.proofs.Common.{sym, ◌∙◌, ap, subst, inl, inr, add-zero, add-one, eq-eqb, ne_eqb, eqb-true, ltb-true, ltb-false, length-set, get_or-set_same, get_or-set_other, ext_get_or}
use Rattle.std.proofs.Math.Bool.{false}
use Rattle.std.proofs.Math.Nat.{mod-eq_of_lt}
use native.Mathlib.Omega.{arith}
use Rattle.std.proofs.lemmas.Bool.{eqb-false}
use Rattle.std.proofs.Math.ListN.{get_or}
use Rattle.std.proofs.lemmas.List.{length-replicate, get_or-replicate}
use Rattle.wire.specs.Tab.{tab}
use Rattle.wire.proofs.TabLaws.{below_one, tab-same, length-tab, get_or-tab, tab-list}
use Rattle.wire.specs.Words.{Holds, Zeros, Put, Within, Beside, Same, flag_of}
use Rattle.wire.proofs.WordsLaws.{put-within, within-set, flag-back}
use Rattle.tmcc.specs.Layout.{Layout}
use Rattle.tmcc.specs.declared.layout.Pointers.{Pointers}
use Rattle.tmcc.specs.Layout.{blank_layout}
use Rattle.reassembly.specs.declared.config.Config.{Config}
use Rattle.reassembly.specs.Channel.{unheard}
use Rattle.words.specs.Config.{KeptConfig, read_config, ConfigStored}
use Rattle.words.proofs.ConfigLaws.{config-same}
use Rattle.watch.specs.Words.{rising_in}
use Rattle.words.specs.Channel.{read_channel}
use Rattle.words.proofs.ChannelLaws.{channel-same, channel-zero}
use Rattle.intake.specs.declared.held.Held.{Held}
use Rattle.intake.specs.declared.held.Cursor.{Cursor}
use Rattle.words.specs.Cursor.{read_held, held_words, read_cursor}
use Rattle.words.proofs.CursorLaws.{held_same, held-put, held-zero, cursor-same, cursor-zero}
use Rattle.queue.specs.Waiting.{Queue}
use Rattle.delivery.specs.Packet.{arrived_at, place_of, received_of}
use Rattle.delivery.proofs.WithinLaws.{arrived-below}
use Rattle.queue.specs.Words.{read_queue}
use Rattle.queue.proofs.WordsLaws.{queue-same, queue-zero}
use Rattle.delivery.specs.Words.{channel_place, Receives}
use Rattle.state.specs.State.{with_frame, with_owed, with_slot, with_queue, with_channels}
use Rattle.state.specs.Words.{state_words, pointers_in, length_in, own_in, layout_in, channels_in, state_in, Cleared, SlotPut, LayoutPut, slot_words, CleanSlot}
use Rattle.state.specs.Start.{fresh_state}
use Rattle.state.specs.Lent.{SlotAt, SlotsPut}

-- words that are as they were in `n` places from `k` on
module _ (t u : List ℕ) (a n : ℕ) (w : Within t u a n) where
  pub kept_words : (k m : ℕ) → (k + m ≤ a) ⊎ (a + n ≤ k) → Same u k t k m
  kept_words k m (inl h) j g = w.elsewhere (k + j) (inl (omega arith))
  kept_words k m (inr h) j g = w.elsewhere (k + j) (inr (omega arith))

-- the same words from 47 on, 224 of them, are the same states of packet_ids
pub channels-same : (t u : List ℕ) → Same u 47 t 47 224 → channels_in u ≡ channels_in t
unfolding channels_in
channels-same t u s =
    tab-same (λ k. read_channel u (channel_place 47 k)) (λ k. read_channel t (channel_place 47 k)) 16
    (λ k h. channel-same u (47 + 14 * k) t (47 + 14 * k)
    (λ j g. let e : 47 + 14 * k + j ≡ 47 + (14 * k + j) = omega arith in rw e (s (14 * k + j) (omega arith))))

-- the same words from 271 on, 480 of them, are the same layout
module _ (t u : List ℕ) (s : Same u 271 t 271 480) where
  slot-word : (k j : ℕ) → k < 120 → j < 4 → get_or u (271 + 4 * k + j) 0 ≡ get_or t (271 + 4 * k + j) 0
  slot-word k j h g = let e : 271 + 4 * k + j ≡ 271 + (4 * k + j) = omega arith in rw e (s (4 * k + j) (omega arith))

  slot-first : (k : ℕ) → k < 120 → get_or u (271 + 4 * k) 0 ≡ get_or t (271 + 4 * k) 0
  slot-first k h = s (4 * k) (omega arith)

  pub layout-same : layout_in u ≡ layout_in t
  unfolding layout_in pointers_in length_in own_in
  layout-same =
      rw (
        tab-same (pointers_in u) (pointers_in t) 120 (λ k h. rw (slot-first k h, slot-word k 1 h (omega arith))),
        tab-same (length_in u) (length_in t) 120 (λ k h. slot-word k 2 h (omega arith)),
        tab-same (own_in u) (own_in t) 120 (λ k h. rw (slot-word k 3 h (omega arith))),
      )

-- held bytes
pub state-held : (t u : List ℕ) (h : Held) → Put t u 22 3 (held_words h) → state_in u ≡ with_slot (state_in t) h (state_in t).cursor
unfolding state_in
state-held t u h p =
    let w = put-within t u 22 3 (held_words h) p in
    let k = kept_words t u 22 3 w in
    rw (
      config-same u 0 t 0 (k 0 20 (inl (omega arith))),
      layout-same t u (k 271 480 (inr (omega arith))),
      w.elsewhere 20 (inl (omega arith)),
      w.elsewhere 21 (inl (omega arith)),
      held-put t u 22 h p,
      cursor-same u 25 t 25 (k 25 5 (inr (omega arith))),
      queue-same u 30 t 30 (k 30 17 (inr (omega arith))),
      channels-same t u (k 47 224 (inr (omega arith))),
    )

-- the cursor
pub state-cursor : (t u : List ℕ) (c : Cursor) → Within t u 25 5 → read_cursor u 25 ≡ c
    → state_in u ≡ with_slot (state_in t) (state_in t).held c
unfolding state_in
state-cursor t u c w e =
    let k = kept_words t u 25 5 w in
    rw (
      config-same u 0 t 0 (k 0 20 (inl (omega arith))),
      layout-same t u (k 271 480 (inr (omega arith))),
      w.elsewhere 20 (inl (omega arith)),
      w.elsewhere 21 (inl (omega arith)),
      held_same u 22 t 22 (k 22 3 (inl (omega arith))),
      e,
      queue-same u 30 t 30 (k 30 17 (inr (omega arith))),
      channels-same t u (k 47 224 (inr (omega arith))),
    )

-- what waits of a packet
pub state-queue : (t u : List ℕ) (q : Queue) → Within t u 30 17 → read_queue u 30 ≡ q → state_in u ≡ with_queue (state_in t) q
unfolding state_in
state-queue t u q w e =
    let k = kept_words t u 30 17 w in
    rw (
      config-same u 0 t 0 (k 0 20 (inl (omega arith))),
      layout-same t u (k 271 480 (inr (omega arith))),
      w.elsewhere 20 (inl (omega arith)),
      w.elsewhere 21 (inl (omega arith)),
      held_same u 22 t 22 (k 22 3 (inl (omega arith))),
      cursor-same u 25 t 25 (k 25 5 (inl (omega arith))),
      e,
      channels-same t u (k 47 224 (inr (omega arith))),
    )

-- one word that is stored
pub set-within : (t : List ℕ) (i v : ℕ) → Within t (set t i v) i 1
set-within t i v = rw (add-zero i) at (within-set t i 1 0 v (omega arith))

-- the slot that is due
pub state-at : (t : List ℕ) (v : ℕ) → 20 < length t
    → state_in (set t 20 v) ≡ with_frame (state_in t) (record { layout = (state_in t).frame.layout; at = v })
unfolding state_in
state-at t v h =
    let u = set t 20 v in
    let w = set-within t 20 v in
    let k = kept_words t u 20 1 w in
    rw (
      config-same u 0 t 0 (k 0 20 (inl (omega arith))),
      layout-same t u (k 271 480 (inr (omega arith))),
      get_or-set_same t 20 v 0 h,
      w.elsewhere 21 (inr (omega arith)),
      held_same u 22 t 22 (k 22 3 (inr (omega arith))),
      cursor-same u 25 t 25 (k 25 5 (inr (omega arith))),
      queue-same u 30 t 30 (k 30 17 (inr (omega arith))),
      channels-same t u (k 47 224 (inr (omega arith))),
    )

-- whether next is owed
pub state-owed : (t : List ℕ) (v : ℕ) → 21 < length t → state_in (set t 21 v) ≡ with_owed (state_in t) (flag_of v)
unfolding state_in
state-owed t v h =
    let u = set t 21 v in
    let w = set-within t 21 v in
    let k = kept_words t u 21 1 w in
    rw (
      config-same u 0 t 0 (k 0 20 (inl (omega arith))),
      layout-same t u (k 271 480 (inr (omega arith))),
      w.elsewhere 20 (inl (omega arith)),
      get_or-set_same t 21 v 0 h,
      held_same u 22 t 22 (k 22 3 (inr (omega arith))),
      cursor-same u 25 t 25 (k 25 5 (inr (omega arith))),
      queue-same u 30 t 30 (k 30 17 (inr (omega arith))),
      channels-same t u (k 47 224 (inr (omega arith))),
    )

-- the frame's slots
pub state-layout : (t u : List ℕ) (l : Layout) → LayoutPut t u l
    → state_in u ≡ with_frame (state_in t) (record { layout = l; at = (state_in t).frame.at })
unfolding state_in
state-layout t u l p =
    let w = p.within in
    let k = kept_words t u 271 480 w in
    rw (
      config-same u 0 t 0 (k 0 20 (inl (omega arith))),
      p.layout,
      w.elsewhere 20 (inl (omega arith)),
      w.elsewhere 21 (inl (omega arith)),
      held_same u 22 t 22 (k 22 3 (inl (omega arith))),
      cursor-same u 25 t 25 (k 25 5 (inl (omega arith))),
      queue-same u 30 t 30 (k 30 17 (inl (omega arith))),
      channels-same t u (k 47 224 (inl (omega arith))),
    )

-- words that are as they were are as clean as they were
pub kept-clean : (t u : List ℕ) (i n : ℕ) (xs ys : List ℕ) → Same u i t i n → xs ≡ ys → Holds t i n ys → Holds u i n xs
kept-clean t u i n xs ys s e h j l = s j l ∙ h j l ∙ ap (λ (zs : List ℕ). get_or zs j 0) (sym e)

same-slot : (t u : List ℕ) (s : ℕ) → Same u (271 + 4 * s) t (271 + 4 * s) 4
    → slot_words (pointers_in u s) (length_in u s) (own_in u s) ≡ slot_words (pointers_in t s) (length_in t s) (own_in t s)
unfolding pointers_in length_in own_in
same-slot t u s g =
    let a : get_or u (271 + 4 * s) 0 ≡ get_or t (271 + 4 * s) 0 = rw (add-zero (271 + 4 * s)) at (g 0 (omega arith)) in
    rw (a, g 1 (omega arith), g 2 (omega arith), g 3 (omega arith))

pub clean-slot : (t u : List ℕ) (s : ℕ) → Same u (271 + 4 * s) t (271 + 4 * s) 4 → CleanSlot t s → CleanSlot u s
clean-slot t u s g c =
    kept-clean t u (271 + 4 * s) 4 (slot_words (pointers_in u s) (length_in u s) (own_in u s))
    (slot_words (pointers_in t s) (length_in t s) (own_in t s)) g (same-slot t u s g) c

pub slots-none : (t : List ℕ) (l : Layout) → SlotsPut t t l 0
slots-none t l =
    record {
      within = record { size = refl; elsewhere = λ m h. refl };
      slots = λ k h. absurd (omega arith);
      clean = λ k h. absurd (omega arith);
    }

-- slot s behind them
module _ (t u v : List ℕ) (l : Layout) (s : ℕ) (d : SlotsPut t u l s)
    (p : SlotPut u v s (get_or l.pointers s (record { 0 = 0; 1 = 0 })) (get_or l.lengths s 0) (get_or l.own s false)) where
  slot-back : SlotAt v l s
  unfolding pointers_in length_in own_in
  slot-back =
      let h = p.put.holds in
      record {
        pointers =
            rw (
              rw (add-zero (271 + 4 * s)) at (h 0 (omega arith)),
              h 1 (omega arith),
              mod-eq_of_lt p.top,
              mod-eq_of_lt p.last,
            );
        size = h 2 (omega arith);
        own = rw (h 3 (omega arith)) (flag-back (get_or l.own s false));
      }

  slot_kept : (k : ℕ) → k < s → SlotAt v l k
  unfolding pointers_in length_in own_in
  slot_kept k h =
      let b = p.put.below in
      let a = d.slots k h in
      record {
        pointers = rw (b (271 + 4 * k) (omega arith), b (271 + 4 * k + 1) (omega arith)) a.pointers;
        size = rw (b (271 + 4 * k + 2) (omega arith)) a.size;
        own = rw (b (271 + 4 * k + 3) (omega arith)) a.own;
      }

  slot-clean : CleanSlot v s
  slot-clean =
      let a = slot-back in
      let e : slot_words (pointers_in v s) (length_in v s) (own_in v s)
      ≡ slot_words (get_or l.pointers s (record { 0 = 0; 1 = 0 })) (get_or l.lengths s 0) (get_or l.own s false) =
      ap (λ (x : Pointers). slot_words x (length_in v s) (own_in v s)) a.pointers
      ∙ ap (λ (x : ℕ). slot_words (get_or l.pointers s (record { 0 = 0; 1 = 0 })) x (own_in v s)) a.size
      ∙ ap (λ (x : Bool). slot_words (get_or l.pointers s (record { 0 = 0; 1 = 0 })) (get_or l.lengths s 0) x) a.own in
      λ j g. p.put.holds j g ∙ ap (λ (zs : List ℕ). get_or zs j 0) (sym e)

  slot-clean-kept : (k : ℕ) → k < s → CleanSlot v k
  slot-clean-kept k h = clean-slot u v k (λ j g. p.put.below (271 + 4 * k + j) (omega arith)) (d.clean k h)

  slots-elsewhere : (m : ℕ) → Beside m 271 (4 * (s + 1)) → get_or v m 0 ≡ get_or t m 0
  slots-elsewhere m (inl h) = p.put.below m (omega arith) ∙ d.within.elsewhere m (inl h)
  slots-elsewhere m (inr h) = p.put.above m (omega arith) ∙ d.within.elsewhere m (inr (omega arith))

  pub slots-more : SlotsPut t v l (s + 1)
  slots-more =
      record {
        within = record { size = p.put.size ∙ d.within.size; elsewhere = slots-elsewhere };
        slots = λ k h. below_one k s (rw add-one at h) (λ e. rw e slot-back) (λ g. slot_kept k g);
        clean = λ k h. below_one k s (rw add-one at h) (λ e. subst (λ (x : ℕ). CleanSlot v x) (sym e) slot-clean) (λ g. slot-clean-kept k g);
      }

-- all of them
pub slots-all : (t u : List ℕ) (l : Layout) → length l.pointers ≡ 120 → length l.lengths ≡ 120 → length l.own ≡ 120
    → SlotsPut t u l 120 → LayoutPut t u l
unfolding layout_in
slots-all t u l a b c d =
    record {
      layout =
          rw (
            tab-same (pointers_in u) (λ k. get_or l.pointers k (record { 0 = 0; 1 = 0 })) 120 (λ k h. (d.slots k h).pointers)
                ∙ tab-list l.pointers 120 (record { 0 = 0; 1 = 0 }) a,
            tab-same (length_in u) (λ k. get_or l.lengths k 0) 120 (λ k h. (d.slots k h).size) ∙ tab-list l.lengths 120 0 b,
            tab-same (own_in u) (λ k. get_or l.own k false) 120 (λ k h. (d.slots k h).own) ∙ tab-list l.own 120 false c,
          );
      within = d.within;
      clean = d.clean;
    }

-- the state of a packet_id
pub channel_in : (t : List ℕ) (k : ℕ) → k < 16 → get_or (channels_in t) k unheard ≡ read_channel t (channel_place 47 k)
unfolding channels_in
channel_in t k h = get_or-tab (λ k. read_channel t (channel_place 47 k)) 16 k unheard h

length-channels : (t : List ℕ) → length (channels_in t) ≡ 16
unfolding channels_in
length-channels t = length-tab (λ k. read_channel t (channel_place 47 k)) 16

-- one of them changes
module _ (t u : List ℕ) (n : ℕ) (low : n < 16) (w : (m : ℕ) → 47 ≤ m → m < 271 → Beside m (channel_place 47 n) 14 → get_or u m 0 ≡ get_or t m 0)
  where
    other-channel : (k : ℕ) → k < 16 → (k ≡ n → ⊥) → read_channel u (channel_place 47 k) ≡ read_channel t (channel_place 47 k)
    other-channel k h d = channel-same u (47 + 14 * k) t (47 + 14 * k) (λ j g. go j g (ltb k n) refl)
      where
        go : (j : ℕ) → j < 14 → (b : Bool) → ltb k n ≡ b → get_or u (47 + 14 * k + j) 0 ≡ get_or t (47 + 14 * k + j) 0
        go j g true e = let l = ltb-true k n e in w (47 + 14 * k + j) (omega arith) (omega arith) (inl (omega arith))
        go j g false e =
            let l = ltb-false k n e in
            let z : n < k = omega arith in
            w (47 + 14 * k + j) (omega arith) (omega arith) (inr (omega arith))

    channels-set : channels_in u ≡ set (channels_in t) n (read_channel u (channel_place 47 n))
    channels-set =
        ext_get_or unheard (channels_in u) (set (channels_in t) n (read_channel u (channel_place 47 n)))
        (length-channels u ∙ sym (length-set (channels_in t) n _ ∙ length-channels t))
        (λ k h. go k (rw (length-channels u) at h) (eqb k n) refl)
      where
        go : (k : ℕ) → k < 16 → (b : Bool) → eqb k n ≡ b
            → get_or (channels_in u) k unheard ≡ get_or (set (channels_in t) n (read_channel u (channel_place 47 n))) k unheard
        go k h true e =
            let q = eqb-true k n e in
            rw q
            (channel_in u n low
            ∙ sym (get_or-set_same (channels_in t) n (read_channel u (channel_place 47 n)) unheard (rw (length-channels t) low)))
        go k h false e =
            let d = eqb-false k n e in
            channel_in u k h ∙ other-channel k h d ∙ sym (channel_in t k h)
            ∙ sym (get_or-set_other (channels_in t) n k (read_channel u (channel_place 47 n)) unheard d)

-- a packet that comes to its packet_id and to the queue
module _ (config : KeptConfig) (t p c : List ℕ) (start end : ℕ) (u d : List ℕ) (r : Receives config t 30 47 p c start end u d) where
  abbrev pub placed : ℕ
  placed = place_of (arrived_at config p start end)

  pub placed-low : placed < 16
  placed-low = arrived-below config p start end (arrived_at config p start end) refl

  kept-before : (m : ℕ) → m < 30 → get_or u m 0 ≡ get_or t m 0
  kept-before m h = r.elsewhere m (inl h) (inl (omega arith))

  kept-behind : (m : ℕ) → 271 ≤ m → get_or u m 0 ≡ get_or t m 0
  kept-behind m h = r.elsewhere m (inr (omega arith)) (inr (omega (arith, placed-low)))

  pub state-packet : state_in u
      ≡ with_queue (with_channels (state_in t) (set (state_in t).channels placed (read_channel u (channel_place 47 placed)))) (read_queue u 30)
  unfolding state_in
  state-packet =
      rw (
        config-same u 0 t 0 (λ j g. kept-before (0 + j) (omega arith)),
        layout-same t u (λ j g. kept-behind (271 + j) (omega arith)),
        kept-before 20 (omega arith),
        kept-before 21 (omega arith),
        held_same u 22 t 22 (λ j g. kept-before (22 + j) (omega arith)),
        cursor-same u 25 t 25 (λ j g. kept-before (25 + j) (omega arith)),
        channels-set t u placed placed-low (λ m h g b. r.elsewhere m (inr (omega arith)) b),
      )

  -- what it comes to, in terms of the state
  pub packet-comes : (record { channel = read_channel u (channel_place 47 placed); queue = read_queue u 30 }, d)
      ≡ received_of (arrived_at config p start end) (get_or (state_in t).channels placed unheard) (state_in t).queue p c config.rules
  unfolding state_in
  packet-comes = rw (channel_in t placed placed-low) r.received

-- the same value everywhere
tab-one : {A : Type 0} (f : ℕ → A) (a : A) (n : ℕ) → ((s : ℕ) → s < n → f s ≡ a) → tab f n ≡ replicate n a
tab-one f a n g =
    ext_get_or a (tab f n) (replicate n a) (length-tab f n ∙ sym (length-replicate n a))
    (λ i h. let k : i < n = rw (length-tab f n) at h in get_or-tab f n i a k ∙ g i k ∙ sym (get_or-replicate n i a a k))

-- words that are 0
module _ (t : List ℕ) where
  channels-zero : Zeros t 47 224 → channels_in t ≡ replicate 16 unheard
  unfolding channels_in
  channels-zero z =
      tab-one (λ k. read_channel t (channel_place 47 k)) unheard 16
      (λ k h. channel-zero t (47 + 14 * k)
      (λ j g. let e : 47 + 14 * k + j ≡ 47 + (14 * k + j) = omega arith in rw e (z (14 * k + j) (omega arith))))

  layout-zero : Zeros t 271 480 → layout_in t ≡ blank_layout
  unfolding layout_in blank_layout pointers_in length_in own_in flag_of
  layout-zero z =
      let word : (k j : ℕ) → k < 120 → j < 4 → get_or t (271 + 4 * k + j) 0 ≡ 0 =
      λ k j h g. let e : 271 + 4 * k + j ≡ 271 + (4 * k + j) = omega arith in rw e (z (4 * k + j) (omega arith)) in
      rw (
        tab-one (pointers_in t) (record { 0 = 0; 1 = 0 }) 120 (λ k h. rw (z (4 * k) (omega arith), word k 1 h (omega arith))),
        tab-one (length_in t) 0 120 (λ k h. word k 2 h (omega arith)),
        tab-one (own_in t) false 120 (λ k h. rw (word k 3 h (omega arith))),
      )

-- a receiver that has read nothing
pub state-fresh : (t u v : List ℕ) (c : Config) → state_words ≤ length t → Cleared t u → ConfigStored u v 0 c
    → state_in (set v 20 120) ≡ fresh_state c
unfolding state_in fresh_state flag_of
state-fresh t u v c l z s =
    let x = set v 20 120 in
    let w = set-within v 20 120 in
    let zero : (m : ℕ) → 21 ≤ m → m < state_words → get_or x m 0 ≡ 0 =
    λ m h g. w.elsewhere m (inr h) ∙ s.put.above m (omega arith) ∙ z.zero m g in
    rw (
      config-same x 0 v 0 (kept_words v x 20 1 w 0 20 (inl (omega arith))),
      s.read,
      layout-zero x (λ j g. zero (271 + j) (omega arith) (omega arith)),
      get_or-set_same v 20 120 0 (omega (arith, s.put.size, z.size)),
      zero 21 (omega arith) (omega arith),
      held-zero x 22 (λ j g. zero (22 + j) (omega arith) (omega arith)),
      cursor-zero x 25 (λ j g. zero (25 + j) (omega arith) (omega arith)),
      queue-zero x 30 (λ j g. zero (30 + j) (omega arith) (omega arith)),
      channels-zero x (λ j g. zero (47 + j) (omega arith) (omega arith)),
    )

-- single words, and other parts
module _ (t : List ℕ) where
  pub at_in : (state_in t).frame.at ≡ get_or t 20 0
  unfolding state_in
  at_in = refl

  pub held_in : (state_in t).held ≡ read_held t 22
  unfolding state_in
  held_in = refl

  pub cursor_in : (state_in t).cursor ≡ read_cursor t 25
  unfolding state_in
  cursor_in = refl

  pub queue_in : (state_in t).queue ≡ read_queue t 30
  unfolding state_in
  queue_in = refl

  pub owed_in : (state_in t).owed ≡ flag_of (get_or t 21 0)
  unfolding state_in
  owed_in = refl

  pub owed-on : (get_or t 21 0 ≡ 0 → ⊥) → (state_in t).owed ≡ true
  unfolding state_in flag_of
  owed-on h = rw (ne_eqb _ _ h)

  pub owed_off : get_or t 21 0 ≡ 0 → (state_in t).owed ≡ false
  unfolding state_in flag_of
  owed_off h = rw (eq-eqb _ _ h)

  pub config_in_lem : (state_in t).config ≡ read_config t 0
  unfolding state_in
  config_in_lem = refl

  pub stream_in : (state_in t).config.stream ≡ get_or t 0 0 % 65536
  unfolding state_in read_config
  stream_in = refl

  pub count_in : (state_in t).config.watch.n ≡ get_or t 2 0
  unfolding state_in read_config rising_in
  count_in = refl

  pub limit_in : (state_in t).config.rules.limit ≡ get_or t 3 0
  unfolding state_in read_config
  limit_in = refl
