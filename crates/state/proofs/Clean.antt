-- Laws of clean words: what is stored keeps them clean, and clean words that hold the same state are the same.
use Rattle.std.specs.Prelude.{ℕ, ◌+◌, ◌-◌, ◌*◌, ◌/◌, ◌<◌, ◌≤◌, ◌≡◌, refl, Bool, true, List, [], ◌∷◌, eqb, ltb, length, set}
use Rattle.std.proofs.Math.Path.{sym, ap}
use Rattle.std.proofs.Common.{◌∙◌, inl, inr, add-zero, div-add-mod', arith, get_or-set_same, ext_get_or, ltb-true, ltb-false, eqb-true}
use Rattle.std.proofs.Math.Bool.{false}
use Rattle.std.proofs.Math.ListN.{get_or}
use Rattle.std.proofs.lemmas.Bool.{eqb-false}
use Rattle.wire.specs.Words.{Holds, Put, Within, Beside, Same, Zeros, flag_of, flag_word}
use Rattle.wire.proofs.WordsLaws.{zeros_hold, put-within, flag-back}
use Rattle.reassembly.specs.declared.config.Config.{Config}
use Rattle.words.specs.Config.{read_config, config_words, ConfigStored}
use Rattle.words.proofs.ConfigLaws.{config-same, config-clean}
use Rattle.words.specs.Channel.{read_channel, channel_words}
use Rattle.words.proofs.ChannelLaws.{channel-same, channel-zero-clean}
use Rattle.intake.specs.declared.held.Held.{Held}
use Rattle.intake.specs.declared.held.Cursor.{Cursor}
use Rattle.words.specs.Cursor.{read_held, held_words, read_cursor, cursor_words, CursorStored}
use Rattle.words.proofs.CursorLaws.{held_same, held-clean, held-zero-clean, cursor-same, cursor-clean, cursor-zero-clean}
use Rattle.queue.specs.Words.{read_queue, queue_words, CleanQueue}
use Rattle.queue.proofs.WordsLaws.{queue-same, queue-zero-clean}
use Rattle.delivery.specs.Words.{channel_place, CleanChannel}
use Rattle.wire.proofs.TabLaws.{get_or-tab}
use Rattle.reassembly.specs.Channel.{unheard}
use Rattle.state.specs.State.{State}
use Rattle.state.specs.Words.{state_words, pointers_in, length_in, own_in, layout_in, state_in, slot_words, CleanSlot, Clean, Exact, Cleared}
use Rattle.state.proofs.LentLaws.{kept_words, kept-clean, clean-slot, set-within, channel_in}

pub exact_none : (t : List ℕ) → Exact t t
exact_none t = record { size = refl; rest = λ m h. refl; clean = λ c. c }

pub exact-on : (t u v : List ℕ) → Exact t u → Exact u v → Exact t v
exact-on t u v p q =
    record {
      size = q.size ∙ p.size;
      rest = λ m h. q.rest m h ∙ p.rest m h;
      clean = λ c. q.clean (p.clean c);
    }

module _ (t u : List ℕ) (c : Clean t) where
  keep_config : Same u 0 t 0 20 → Holds u 0 20 (config_words (read_config u 0))
  keep_config s = kept-clean t u 0 20 _ _ s (ap config_words (config-same u 0 t 0 s)) c.config

  keep_owed : get_or u 21 0 ≡ get_or t 21 0 → get_or u 21 0 ≡ flag_word (flag_of (get_or u 21 0))
  keep_owed e = rw e c.owed

  keep_held : Same u 22 t 22 3 → Holds u 22 3 (held_words (read_held u 22))
  keep_held s = kept-clean t u 22 3 _ _ s (ap held_words (held_same u 22 t 22 s)) c.held

  keep_cursor : Same u 25 t 25 5 → Holds u 25 5 (cursor_words (read_cursor u 25))
  keep_cursor s = kept-clean t u 25 5 _ _ s (ap cursor_words (cursor-same u 25 t 25 s)) c.cursor

  keep_queue : Same u 30 t 30 17 → CleanQueue u 30
  keep_queue s = kept-clean t u 30 17 _ _ s (ap queue_words (queue-same u 30 t 30 s)) c.queue

  keep_channel : (k : ℕ) → k < 16 → Same u (channel_place 47 k) t (channel_place 47 k) 14 → CleanChannel u (channel_place 47 k)
  keep_channel k h s =
      kept-clean t u (channel_place 47 k) 14 _ _ s (ap channel_words (channel-same u (channel_place 47 k) t (channel_place 47 k) s))
      (c.channels k h)

  keep_slot : (s : ℕ) → s < 120 → Same u (271 + 4 * s) t (271 + 4 * s) 4 → CleanSlot u s
  keep_slot s h g = clean-slot t u s g (c.slots s h)

-- words that are as they were but for the n from a on
module _ (t u : List ℕ) (a n : ℕ) (w : Within t u a n) (below : a + n ≤ state_words) where
  pub rest-kept : (m : ℕ) → state_words ≤ m → get_or u m 0 ≡ get_or t m 0
  rest-kept m h = w.elsewhere m (inr (omega arith))

-- held bytes are stored
pub exact-held : (t u : List ℕ) (h : Held) → Put t u 22 3 (held_words h) → Exact t u
exact-held t u h p =
    let w = put-within t u 22 3 (held_words h) p in
    let k = kept_words t u 22 3 w in
    record {
      size = w.size;
      rest = rest-kept t u 22 3 w (omega arith);
      clean = λ c. record {
        config = keep_config t u c (k 0 20 (inl (omega arith)));
        owed = keep_owed t u c (w.elsewhere 21 (inl (omega arith)));
        held = held-clean t u 22 h p;
        cursor = keep_cursor t u c (k 25 5 (inr (omega arith)));
        queue = keep_queue t u c (k 30 17 (inr (omega arith)));
        channels = λ i g. keep_channel t u c i g (k (channel_place 47 i) 14 (inr (omega arith)));
        slots = λ s g. keep_slot t u c s g (k (271 + 4 * s) 4 (inr (omega arith)));
      };
    }

-- the cursor is stored
pub exact-cursor : (t u : List ℕ) (x : Cursor) → CursorStored t u 25 x → Exact t u
exact-cursor t u x p =
    let w = put-within t u 25 5 (cursor_words x) p.put in
    let k = kept_words t u 25 5 w in
    record {
      size = w.size;
      rest = rest-kept t u 25 5 w (omega arith);
      clean = λ c. record {
        config = keep_config t u c (k 0 20 (inl (omega arith)));
        owed = keep_owed t u c (w.elsewhere 21 (inl (omega arith)));
        held = keep_held t u c (k 22 3 (inl (omega arith)));
        cursor = cursor-clean t u 25 x p;
        queue = keep_queue t u c (k 30 17 (inr (omega arith)));
        channels = λ i g. keep_channel t u c i g (k (channel_place 47 i) 14 (inr (omega arith)));
        slots = λ s g. keep_slot t u c s g (k (271 + 4 * s) 4 (inr (omega arith)));
      };
    }

-- an event is taken from the queue
pub exact-queue : (t u : List ℕ) → Within t u 30 17 → (CleanQueue t 30 → CleanQueue u 30) → Exact t u
exact-queue t u w q =
    let k = kept_words t u 30 17 w in
    record {
      size = w.size;
      rest = rest-kept t u 30 17 w (omega arith);
      clean = λ c. record {
        config = keep_config t u c (k 0 20 (inl (omega arith)));
        owed = keep_owed t u c (w.elsewhere 21 (inl (omega arith)));
        held = keep_held t u c (k 22 3 (inl (omega arith)));
        cursor = keep_cursor t u c (k 25 5 (inl (omega arith)));
        queue = q c.queue;
        channels = λ i g. keep_channel t u c i g (k (channel_place 47 i) 14 (inr (omega arith)));
        slots = λ s g. keep_slot t u c s g (k (271 + 4 * s) 4 (inr (omega arith)));
      };
    }

-- the slot that is due, and whether next is owed
pub exact-at : (t : List ℕ) (v : ℕ) → Exact t (set t 20 v)
exact-at t v =
    let u = set t 20 v in
    let w = set-within t 20 v in
    let k = kept_words t u 20 1 w in
    record {
      size = w.size;
      rest = rest-kept t u 20 1 w (omega arith);
      clean = λ c. record {
        config = keep_config t u c (k 0 20 (inl (omega arith)));
        owed = keep_owed t u c (w.elsewhere 21 (inr (omega arith)));
        held = keep_held t u c (k 22 3 (inr (omega arith)));
        cursor = keep_cursor t u c (k 25 5 (inr (omega arith)));
        queue = keep_queue t u c (k 30 17 (inr (omega arith)));
        channels = λ i g. keep_channel t u c i g (k (channel_place 47 i) 14 (inr (omega arith)));
        slots = λ s g. keep_slot t u c s g (k (271 + 4 * s) 4 (inr (omega arith)));
      };
    }

pub exact-owed : (t : List ℕ) (b : Bool) → 21 < length t → Exact t (set t 21 (flag_word b))
exact-owed t b l =
    let u = set t 21 (flag_word b) in
    let w = set-within t 21 (flag_word b) in
    let k = kept_words t u 21 1 w in
    record {
      size = w.size;
      rest = rest-kept t u 21 1 w (omega arith);
      clean = λ c. record {
        config = keep_config t u c (k 0 20 (inl (omega arith)));
        owed = rw (get_or-set_same t 21 (flag_word b) 0 l) (ap flag_word (sym (flag-back b)));
        held = keep_held t u c (k 22 3 (inr (omega arith)));
        cursor = keep_cursor t u c (k 25 5 (inr (omega arith)));
        queue = keep_queue t u c (k 30 17 (inr (omega arith)));
        channels = λ i g. keep_channel t u c i g (k (channel_place 47 i) 14 (inr (omega arith)));
        slots = λ s g. keep_slot t u c s g (k (271 + 4 * s) 4 (inr (omega arith)));
      };
    }

-- the frame's slots
pub exact-slots : (t u : List ℕ) → Within t u 271 480 → ((s : ℕ) → s < 120 → CleanSlot u s) → Exact t u
exact-slots t u w d =
    let k = kept_words t u 271 480 w in
    record {
      size = w.size;
      rest = rest-kept t u 271 480 w (omega arith);
      clean = λ c. record {
        config = keep_config t u c (k 0 20 (inl (omega arith)));
        owed = keep_owed t u c (w.elsewhere 21 (inl (omega arith)));
        held = keep_held t u c (k 22 3 (inl (omega arith)));
        cursor = keep_cursor t u c (k 25 5 (inl (omega arith)));
        queue = keep_queue t u c (k 30 17 (inl (omega arith)));
        channels = λ i g. keep_channel t u c i g (k (channel_place 47 i) 14 (inl (omega arith)));
        slots = d;
      };
    }

-- a slot of zeros
slot-zero : (t : List ℕ) (s : ℕ) → Zeros t (271 + 4 * s) 4 → CleanSlot t s
unfolding pointers_in length_in own_in flag_of
slot-zero t s z =
    let a : get_or t (271 + 4 * s) 0 ≡ 0 = rw (add-zero (271 + 4 * s)) at (z 0 (omega arith)) in
    let e : slot_words (pointers_in t s) (length_in t s) (own_in t s) ≡ 0 ∷ 0 ∷ 0 ∷ 0 ∷ [] =
    rw (a, z 1 (omega arith), z 2 (omega arith), z 3 (omega arith)) in
    λ j g. zeros_hold t (271 + 4 * s) 4 z j g ∙ ap (λ (zs : List ℕ). get_or zs j 0) (sym e)

-- a packet comes to the queue and to the packet_id at place n
pub exact-packet : (t u : List ℕ) (n : ℕ) → n < 16 → length u ≡ length t
    → ((m : ℕ) → Beside m 30 17 → Beside m (channel_place 47 n) 14 → get_or u m 0 ≡ get_or t m 0)
    → (CleanQueue t 30 → CleanQueue u 30) → (CleanChannel t (channel_place 47 n) → CleanChannel u (channel_place 47 n)) → Exact t u
exact-packet t u n low l w q ch =
    record {
      size = l;
      rest = λ m h. w m (inr (omega arith)) (inr (omega arith));
      clean = λ c. record {
        config = keep_config t u c (λ j g. w (0 + j) (inl (omega arith)) (inl (omega arith)));
        owed = keep_owed t u c (w 21 (inl (omega arith)) (inl (omega arith)));
        held = keep_held t u c (λ j g. w (22 + j) (inl (omega arith)) (inl (omega arith)));
        cursor = keep_cursor t u c (λ j g. w (25 + j) (inl (omega arith)) (inl (omega arith)));
        queue = q c.queue;
        channels = λ i g. go c i g (eqb i n) refl;
        slots = λ s g. keep_slot t u c s g (λ j e. w (271 + 4 * s + j) (inr (omega arith)) (inr (omega arith)));
      };
    }
  where
    go : Clean t → (i : ℕ) → i < 16 → (b : Bool) → eqb i n ≡ b → CleanChannel u (channel_place 47 i)
    go c i g true e = let z = eqb-true i n e in rw z (ch (c.channels n low))
    go c i g false e = keep_channel t u c i g (λ j l. apart i (eqb-false i n e) j l (ltb i n) refl)
      where
        apart : (i : ℕ) → (i ≡ n → ⊥) → (j : ℕ) → j < 14 → (b : Bool) → ltb i n ≡ b
            → get_or u (channel_place 47 i + j) 0 ≡ get_or t (channel_place 47 i + j) 0
        apart i d j l true f = let h = ltb-true i n f in w (channel_place 47 i + j) (inr (omega arith)) (inl (omega arith))
        apart i d j l false f =
            let h = ltb-false i n f in
            let z : n < i = omega arith in
            w (channel_place 47 i + j) (inr (omega arith)) (inr (omega arith))

zero_flag : 0 ≡ flag_word (flag_of 0)
unfolding flag_of
zero_flag = refl

-- a fresh receiver
module _ (t u v : List ℕ) (x : Config) (z : Cleared t u) (s : ConfigStored u v 0 x) where
  abbrev fresh : List ℕ
  fresh = set v 20 120

  zero : (m : ℕ) → 21 ≤ m → m < state_words → get_or fresh m 0 ≡ 0
  zero m h g = (set-within v 20 120).elsewhere m (inr h) ∙ s.put.above m (omega arith) ∙ z.zero m g

  -- is clean, whatever stood there
  pub fresh-clean : Clean fresh
  fresh-clean =
      let k = kept_words v fresh 20 1 (set-within v 20 120) 0 20 (inl (omega arith)) in
      record {
        config = kept-clean v fresh 0 20 _ _ k (ap config_words (config-same fresh 0 v 0 k)) (config-clean u v 0 x s);
        owed = rw (zero 21 (omega arith) (omega arith)) zero_flag;
        held = held-zero-clean fresh 22 (λ j g. zero (22 + j) (omega arith) (omega arith));
        cursor = cursor-zero-clean fresh 25 (λ j g. zero (25 + j) (omega arith) (omega arith));
        queue = queue-zero-clean fresh 30 (λ j g. zero (30 + j) (omega arith) (omega arith));
        channels = λ i g.
            channel-zero-clean fresh (channel_place 47 i) (λ j e. zero (channel_place 47 i + j) (omega arith) (omega arith));
        slots = λ i g. slot-zero fresh i (λ j e. zero (271 + 4 * i + j) (omega arith) (omega arith));
      }

  pub exact-fresh : Exact t fresh
  exact-fresh =
      let w = set-within v 20 120 in
      record {
        size = w.size ∙ s.put.size ∙ z.size;
        rest = λ m h. w.elsewhere m (inr (omega arith)) ∙ s.put.above m (omega arith) ∙ z.rest m h;
        clean = λ c. fresh-clean;
      }

-- clean words that hold the same state, with the same words behind them, are the same
module _ (t u : List ℕ) (c : Clean t) (d : Clean u) (e : state_in t ≡ state_in u) where
  alike : (i n : ℕ) (xs ys : List ℕ) → Holds t i n xs → Holds u i n ys → xs ≡ ys → (m : ℕ) → i ≤ m → m < i + n → get_or t m 0 ≡ get_or u m 0
  alike i n xs ys h g q m a b =
      let z : m ≡ i + (m - i) = omega arith in
      rw z (h (m - i) (omega arith) ∙ ap (λ (zs : List ℕ). get_or zs (m - i) 0) q ∙ sym (g (m - i) (omega arith)))

  same-config : read_config t 0 ≡ read_config u 0
  unfolding state_in
  same-config = ap (λ (s : State). s.config) e

  same_at : get_or t 20 0 ≡ get_or u 20 0
  unfolding state_in
  same_at = ap (λ (s : State). s.frame.at) e

  same-owed : flag_of (get_or t 21 0) ≡ flag_of (get_or u 21 0)
  unfolding state_in
  same-owed = ap (λ (s : State). s.owed) e

  same-held : read_held t 22 ≡ read_held u 22
  unfolding state_in
  same-held = ap (λ (s : State). s.held) e

  same-cursor : read_cursor t 25 ≡ read_cursor u 25
  unfolding state_in
  same-cursor = ap (λ (s : State). s.cursor) e

  same_queue : read_queue t 30 ≡ read_queue u 30
  unfolding state_in
  same_queue = ap (λ (s : State). s.queue) e

  same-channel : (k : ℕ) → k < 16 → read_channel t (channel_place 47 k) ≡ read_channel u (channel_place 47 k)
  unfolding state_in
  same-channel k h =
      sym (channel_in t k h) ∙ ap (λ (s : State). get_or s.channels k unheard) e ∙ channel_in u k h

  same-slots : (s : ℕ) → s < 120
      → slot_words (pointers_in t s) (length_in t s) (own_in t s) ≡ slot_words (pointers_in u s) (length_in u s) (own_in u s)
  unfolding state_in layout_in
  same-slots s h =
      let p : pointers_in t s ≡ pointers_in u s =
      sym (get_or-tab (pointers_in t) 120 s (record { 0 = 0; 1 = 0 }) h)
      ∙ ap (λ (x : State). get_or x.frame.layout.pointers s (record { 0 = 0; 1 = 0 })) e
      ∙ get_or-tab (pointers_in u) 120 s (record { 0 = 0; 1 = 0 }) h in
      let l : length_in t s ≡ length_in u s =
      sym (get_or-tab (length_in t) 120 s 0 h) ∙ ap (λ (x : State). get_or x.frame.layout.lengths s 0) e ∙ get_or-tab (length_in u) 120 s 0 h in
      let o : own_in t s ≡ own_in u s =
      sym (get_or-tab (own_in t) 120 s false h) ∙ ap (λ (x : State). get_or x.frame.layout.own s false) e ∙ get_or-tab (own_in u) 120 s false h in
      rw (p, l, o)

  -- by the part that a word belongs to
  in_channels : (m : ℕ) → 47 ≤ m → m < 271 → get_or t m 0 ≡ get_or u m 0
  in_channels m a b =
      let q = div-add-mod' (m - 47) 14 in
      let k : (m - 47) / 14 < 16 = omega arith in
      alike (channel_place 47 ((m - 47) / 14)) 14 _ _ (c.channels _ k) (d.channels _ k) (ap channel_words (same-channel _ k)) m (omega arith)
      (omega arith)

  in_slots : (m : ℕ) → 271 ≤ m → m < state_words → get_or t m 0 ≡ get_or u m 0
  in_slots m a b =
      let q = div-add-mod' (m - 271) 4 in
      let k : (m - 271) / 4 < 120 = omega arith in
      alike (271 + 4 * ((m - 271) / 4)) 4 (slot_words (pointers_in t _) (length_in t _) (own_in t _))
      (slot_words (pointers_in u _) (length_in u _) (own_in u _)) (c.slots _ k) (d.slots _ k) (same-slots ((m - 271) / 4) k) m (omega arith)
      (omega arith)

  below : (m i : ℕ) → (m < i → get_or t m 0 ≡ get_or u m 0) → (i ≤ m → get_or t m 0 ≡ get_or u m 0) → get_or t m 0 ≡ get_or u m 0
  below m i f g = go (ltb m i) refl
    where
      go : (b : Bool) → ltb m i ≡ b → get_or t m 0 ≡ get_or u m 0
      go true z = f (ltb-true m i z)
      go false z = g (ltb-false m i z)

  in_flags : (m : ℕ) → 20 ≤ m → m < 22 → get_or t m 0 ≡ get_or u m 0
  in_flags m a b =
      below m 21 (λ h. let z : m ≡ 20 = omega arith in rw z same_at)
      (λ h. let z : m ≡ 21 = omega arith in rw z (c.owed ∙ ap flag_word same-owed ∙ sym d.owed))

  word : (m : ℕ) → m < state_words → get_or t m 0 ≡ get_or u m 0
  word m h =
      below m 20 (λ a. alike 0 20 _ _ c.config d.config (ap config_words same-config) m (omega arith) (omega arith))
      (λ a. below m 22 (λ b. in_flags m a b)
      (λ b. below m 25 (λ x. alike 22 3 _ _ c.held d.held (ap held_words same-held) m b (omega arith))
      (λ x. below m 30 (λ y. alike 25 5 _ _ c.cursor d.cursor (ap cursor_words same-cursor) m x (omega arith))
      (λ y. below m 47 (λ z. alike 30 17 _ _ c.queue d.queue (ap queue_words same_queue) m y (omega arith))
      (λ z. below m 271 (λ v. in_channels m z v) (λ v. in_slots m v h))))))

  pub clean-one : length t ≡ length u → ((m : ℕ) → state_words ≤ m → get_or t m 0 ≡ get_or u m 0) → t ≡ u
  clean-one l r = ext_get_or 0 t u l (λ m h. below m state_words (word m) (r m))
