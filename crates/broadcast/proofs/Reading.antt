-- A reading of frames, whole or damaged: none of its calls is refused, and it shows what the account says.
use Prim.Native.Nat.{ℕ, suc, ◌+◌, ◌≤◌}
use mathlib.Core.Path.{◌≡◌, refl, sym, ap, ◌∙◌, subst}
use mathlib.Core.Bool.{Bool, true, false, cond}
use mathlib.Core.List.{List, [], ◌∷◌, ◌++◌, map}
use native.Mathlib.Omega.{arith}
use lib.ListN.{length, get_or, length-map}
use borrow.Author.Tests.{eq-eqb, eqb-true}
use lib.Dec.{eqb}
use Rattle.tmcc.specs.Layout.{Layout}
use Rattle.tmcc.specs.Block.{decode_of}
use Rattle.tmcc.proofs.Laws.{accepted as tmcc-accepted}
use Rattle.tlv.proofs.Runs.{run-append}
use Rattle.tlv.specs.Run.{State as Slot-state, Arrival, lost, step, run, state_after}
use Rattle.reassembly.specs.declared.config.Config.{Config}
use Rattle.reassembly.specs.Run.{Lane}
use Rattle.state.specs.State.{Frame as ReceiverFrame, State, with_frame, refused as refusedWith, accepted as acceptedAs}
use Rattle.frames.specs.Frame.{frame_busy, frame_of}
use Rattle.frames.specs.Slot.{wrong_length, slot_refusal, slot_of, slot_taken, due_length, due_own, due_pointers}
use Rattle.broadcast.specs.Account.{events, lanes_after}
use Rattle.broadcast.specs.Drains.{Shown, strip}
use Rattle.broadcast.specs.Calls.{
  Machine,
  Call,
  frame,
  slot,
  lost-frame,
  accepted,
  refused,
  numbered,
  Did,
  did,
  Todo,
  call,
  drain,
  Made,
  own,
  shows,
  added,
  Follows,
  all_shown,
  refusals,
  note_shown,
  refusal_in,
}
use Rattle.broadcast.specs.Frames.{
  Frame,
  Whole,
  Damage,
  none,
  slots_todo,
  frame_todo,
  reading,
  slots_arrive,
  layout_in,
  frame_arrives,
  arrivals,
}
use Rattle.broadcast.proofs.Script.{Left, Makes, call-follows, call-made}
use Rattle.broadcast.specs.Machines.{At}
use Rattle.broadcast.proofs.Bound.{slot-bound}
use Rattle.broadcast.proofs.Items.{due, lost-frame-item}
use Rattle.broadcast.proofs.SlotCalls.{
  item-follows,
  item-made,
  SlotsFit,
  Went,
  Hands,
  slot_step,
  shown-on,
  went_on,
  slots_read,
  slots_hand,
}

-- frames whose blocks are accepted and whose slots have their lengths
abbrev pub FramesFit : ℕ → List Frame → Type 0
FramesFit stream [] = Unit {0}
FramesFit stream (r ∷ rs) =
    ((decode_of r.block stream).refusal ≡ 0) × (length r.slots ≡ 120) × SlotsFit (layout_in stream r) 0 r.slots
    × FramesFit stream rs

module _ (cfg : Config) where
  -- nothing is prescribed any more: only added calls stand there
  pub nothing_left : (m : Machine) (xs : List Made) → Follows [] m xs → (all_shown [] m xs ≡ []) × (refusals [] m xs ≡ [])
  nothing_left m [] h = (refl, refl)
  nothing_left m (own k ∷ xs) h = absurd h.0
  nothing_left m (shows ∷ xs) h = absurd h.0
  nothing_left m (added k ∷ xs) h = nothing_left (did k m).machine xs h.1

  -- a frame's call
  abbrev pub framed : Machine → Layout → Machine
  framed m l =
      record {
        state = with_frame m.state (record { layout = l; at = 0 });
        packet = m.packet;
        collecting = m.collecting;
      }

  pub frame-did : (m : Machine) (tl : Slot-state (ℕ × ℕ)) (f : ℕ → Lane (List (ℕ × ℕ))) (l : Layout) (b : List ℕ) → At cfg m tl f l 120
      → (decode_of b cfg.stream).refusal ≡ 0
      → did (frame b) m ≡ record { answer = accepted; machine = framed m (decode_of b cfg.stream).layout }
  unfolding did frame_of frame_busy
  frame-did m tl f l b a e =
      let n = (tmcc-accepted b cfg.stream e).size in
      rw (eq-eqb _ _ n, a.frame, a.tracks.paid, a.tracks.config, e)

  pub frame_at : (m : Machine) (tl : Slot-state (ℕ × ℕ)) (f : ℕ → Lane (List (ℕ × ℕ))) (l l' : Layout) → At cfg m tl f l 120
      → At cfg (framed m l') tl f l' 0
  frame_at m tl f l l' a =
      let k = a.tracks in
      record {
        tracks = record {
          config = k.config;
          packet-long = k.packet-long;
          collecting-long = k.collecting-long;
          starts = k.starts;
          channels = k.channels;
          paid = k.paid;
          cursor = k.cursor;
          queue = k.queue;
          held = k.held;
          lanes = k.lanes;
        };
        short = a.short;
        frame = refl;
      }

  -- what a reading shows, and that none of its own calls is refused
  pub record ReadsAs (all : List Shown) (ref : List ℕ) (es : List Shown) : Type 0 where
    pub shown-all : all ≡ es
    pub refused_none : ref ≡ []

  module _ (d : Damage) where
    abbrev Reads-all : ℕ → List Frame → Machine → Slot-state (ℕ × ℕ) → (ℕ → Lane (List (ℕ × ℕ))) → List Made → Type 0
    Reads-all i rs m tl f xs =
        ReadsAs (all_shown (reading d i rs) m xs) (refusals (reading d i rs) m xs)
        (map strip (events cfg f (run tl (arrivals cfg.stream d i rs))))

    -- the frames after the arrivals as' have been read
    read-on : (i : ℕ) (rs : List Frame) (tl : Slot-state (ℕ × ℕ)) (f : ℕ → Lane (List (ℕ × ℕ))) (as' : List (Arrival (ℕ × ℕ)))
        (all : List Shown) (ref : List ℕ) (l : Layout) (w : Went cfg tl f as' (reading d i rs) all ref l 120)
        → Reads-all i rs w.machine (state_after tl as') (lanes_after cfg f (run tl as')) w.left.calls
        → ReadsAs all ref (map strip (events cfg f (run tl (as' ++ arrivals cfg.stream d i rs))))
    read-on i rs tl f as' all ref l w h =
        let xs = arrivals cfg.stream d i rs in
        record {
          shown-all =
              w.left.shows-on ∙ ap (λ r. map strip (events cfg f (run tl as')) ++ r) h.shown-all
              ∙ sym (shown-on cfg tl f (record { state = state_after tl as'; events = run tl as' }) (as' ++ xs) xs
              (run-append (ℕ × ℕ) tl as' xs).0);
          refused_none = w.left.refuses-on ∙ h.refused_none;
        }

    -- an accepted call that next is not owed after
    pub call-left : (k : Call) (ts : List Todo) (m m' : Machine) (xs : List Made) → did k m ≡ record { answer = accepted; machine = m' }
        → Follows (call k ∷ ts) m xs → Left ts m' [] [] (all_shown (call k ∷ ts) m xs) (refusals (call k ∷ ts) m xs)
    call-left k ts m m' xs e h =
        subst
        (λ (x : Did).
        Left ts x.machine (note_shown x.answer) (refusal_in x.answer) (all_shown (call k ∷ ts) m xs) (refusals (call k ∷ ts) m xs))
        e (call-follows k ts m xs h)

    -- a frame, whose rest `again` reads
    module _ (i : ℕ) (r : Frame) (rs : List Frame)
        (again : (l : Layout) (m : Machine) (tl : Slot-state (ℕ × ℕ)) (f : ℕ → Lane (List (ℕ × ℕ))) (xs : List Made) → At cfg m tl f l 120
        → Follows (reading d (suc i) rs) m xs → Reads-all (suc i) rs m tl f xs) (l : Layout) (m : Machine) (tl : Slot-state (ℕ × ℕ))
        (f : ℕ → Lane (List (ℕ × ℕ))) (xs : List Made) (a : At cfg m tl f l 120) where
      frame-read : (gone : Bool) → (decode_of r.block cfg.stream).refusal ≡ 0 → length r.slots ≡ 120
          → SlotsFit (layout_in cfg.stream r) 0 r.slots → Follows (frame_todo gone (d.slots i) r ++ reading d (suc i) rs) m xs
          → ReadsAs (all_shown (frame_todo gone (d.slots i) r ++ reading d (suc i) rs) m xs)
          (refusals (frame_todo gone (d.slots i) r ++ reading d (suc i) rs) m xs)
          (map strip
          (events cfg f
          (run tl
          (frame_arrives gone (layout_in cfg.stream r) (d.slots i) i r.slots ++ arrivals cfg.stream d (suc i) rs))))
      unfolding run state_after events lanes_after
      frame-read true e n w q =
          let us = reading d (suc i) rs in
          let y = step tl lost in
          let x = lost-frame-item cfg m tl f l a in
          let v =
          went_on cfg m lost-frame tl f l 120 y [] (lost ∷ []) us us xs 120 x refl refl q
          (λ ys h g.
          record {
            machine = record { state = x.state; packet = (did lost-frame m).machine.packet; collecting = x.collecting };
            at = x.at;
            left = record { calls = ys; follows = h; shows-on = refl; refuses-on = refl };
          }) in
          read-on (suc i) rs tl f (lost ∷ []) _ _ l v (again l v.machine _ _ v.left.calls v.at v.left.follows)
      frame-read false e n w q =
          let us = reading d (suc i) rs in
          let l' = layout_in cfg.stream r in
          let b = frame-did m tl f l r.block a e in
          let c = call-left (frame r.block) (slots_todo (d.slots i) 0 r.slots ++ us) m (framed m l') xs b q in
          let v =
          slots_read cfg (d.slots i) i r.slots 0 l' (framed m l') tl f us c.calls (frame_at m tl f l l' a) (omega (arith, n)) w
          c.follows in
          let h = again l' v.machine _ _ v.left.calls v.at v.left.follows in
          let g = read-on (suc i) rs tl f (slots_arrive l' (d.slots i) i 0 r.slots) _ _ l' v h in
          record { shown-all = c.shows-on ∙ g.shown-all; refused_none = c.refuses-on ∙ g.refused_none }

    pub frames-read : (i : ℕ) (rs : List Frame) (l : Layout) (m : Machine) (tl : Slot-state (ℕ × ℕ)) (f : ℕ → Lane (List (ℕ × ℕ)))
        (xs : List Made) → At cfg m tl f l 120 → FramesFit cfg.stream rs → Follows (reading d i rs) m xs → Reads-all i rs m tl f xs
    unfolding reading arrivals run events
    frames-read i [] l m tl f xs a w h =
        let n = nothing_left m xs h in
        record { shown-all = n.0; refused_none = n.1 }
    frames-read i (r ∷ rs) l m tl f xs a w h =
        frame-read i r rs (λ l' m' tl' f' ys b q. frames-read (suc i) rs l' m' tl' f' ys b w.3 q) l m tl f xs a (d.frames i)
        w.0 w.1 w.2 h

    -- what is handed on over the frames
    module _ (P : List Todo → Machine → Type 0) (hs : Hands cfg P) where
      frame_hands : (i : ℕ) (r : Frame) (us : List Todo) (l : Layout) (m : Machine) (tl : Slot-state (ℕ × ℕ))
          (f : ℕ → Lane (List (ℕ × ℕ))) → At cfg m tl f l 120 → (gone : Bool) → (decode_of r.block cfg.stream).refusal ≡ 0
          → length r.slots ≡ 120 → SlotsFit (layout_in cfg.stream r) 0 r.slots
          → ((l' : Layout) (n : Machine) (u : Slot-state (ℕ × ℕ)) (g : ℕ → Lane (List (ℕ × ℕ))) → At cfg n u g l' 120 → P us n)
          → P (frame_todo gone (d.slots i) r ++ us) m
      frame_hands i r us l m tl f a true e n w h =
          let x = lost-frame-item cfg m tl f l a in
          let few : length (map strip (events cfg f (step tl lost).events)) ≤ 42868 =
          rw length-map (omega (arith, (slot-bound (ℕ × ℕ) cfg f tl a.short).1)) in
          hs.by-item lost-frame tt m _ _ _ l 120 x few us (h l _ _ _ x.at)
      frame_hands i r us l m tl f a false e n w h =
          let l' = layout_in cfg.stream r in
          hs.by-frame r.block (slots_todo (d.slots i) 0 r.slots ++ us) m (framed m l') (frame-did m tl f l r.block a e)
          (slots_hand cfg P hs (d.slots i) i r.slots 0 l' (framed m l') tl f us (frame_at m tl f l l' a) (omega (arith, n)) w (h l'))

      pub frames_hand : (i : ℕ) (rs : List Frame) (l : Layout) (m : Machine) (tl : Slot-state (ℕ × ℕ)) (f : ℕ → Lane (List (ℕ × ℕ)))
          → At cfg m tl f l 120 → FramesFit cfg.stream rs → P (reading d i rs) m
      unfolding reading
      frames_hand i [] l m tl f a w = hs.done m
      frames_hand i (r ∷ rs) l m tl f a w =
          frame_hands i r (reading d (suc i) rs) l m tl f a (d.frames i) w.0 w.1 w.2
          (λ l' n u g b. frames_hand (suc i) rs l' n u g b w.3)

  -- such calls can be made
  made_by : (k : Call) (ts : List Todo) (m m' : Machine) → did k m ≡ record { answer = accepted; machine = m' } → Makes ts m'
      → Makes (call k ∷ ts) m
  made_by k ts m m' e h = call-made ts m k (subst (λ (x : Did). Makes ts x.machine) (sym e) h)

  pub makes_hand : Hands cfg Makes
  makes_hand =
      record {
        done = λ m. record { calls = []; follows = refl };
        by-frame = λ b ts m m' e h. made_by (frame b) ts m m' e h;
        by-item = λ k o m tl f es l s i few ts h. item-made cfg m k tl f es l s i ts h;
      }

  -- what an accepted call tells
  pub nil-left : {B : Type 0} (a b : List B) → a ++ b ≡ [] → a ≡ []
  nil-left [] b e = refl
  nil-left (x ∷ a) b e = let z : ◌≡◌ {A = ℕ} 0 1 = cc in absurd (omega arith)

  pub nil-right : {B : Type 0} (a b : List B) → a ++ b ≡ [] → b ≡ []
  nil-right [] b e = e
  nil-right (x ∷ a) b e = let z : ◌≡◌ {A = ℕ} 0 1 = cc in absurd (omega arith)

  -- a call that answers a number, and is not refused
  pub unrefused : (n : ℕ) → refusal_in (numbered n) ≡ [] → n ≡ 0
  unrefused n e = go (eqb n 0) refl e
    where
      go : (b : Bool) → eqb n 0 ≡ b → refusal_in (cond b accepted (refused n)) ≡ [] → n ≡ 0
      go true q h = eqb-true n 0 q
      go false q h = let z : ◌≡◌ {A = ℕ} 0 1 = cc in absurd (omega arith)

  pub frame-accepted : (st : State) (b : List ℕ) → (frame_of st b).refusal ≡ 0 → (decode_of b st.config.stream).refusal ≡ 0
  unfolding frame_of
  frame-accepted st b e = go (eqb (length b) 1178) (frame_busy st) (eqb (decode_of b st.config.stream).refusal 0) refl e
    where
      r : ℕ
      r = (decode_of b st.config.stream).refusal

      go : (x y z : Bool) → eqb r 0 ≡ z
          → (cond x
          (cond y (refusedWith 11 st)
          (cond z (acceptedAs (with_frame st (record { layout = (decode_of b st.config.stream).layout; at = 0 }))) (refusedWith r st)))
          (refusedWith 10 st)).refusal ≡ 0 → r ≡ 0
      go true true z q h = absurd (omega arith)
      go true false true q h = eqb-true r 0 q
      go true false false q h = h
      go false y z q h = absurd (omega arith)

  -- a slot that is due and is accepted has its length
  pub slot-accepted : (st : State) (p c d : List ℕ) → slot_refusal st (length p) (length c) ≡ 0 → (slot_of st p c d).0.refusal ≡ 0
      → wrong_length (due_length st) (length d) ≡ false
  unfolding slot_of
  slot-accepted st p c d e h = go (wrong_length (due_length st) (length d)) (rw e at h)
    where
      go : (b : Bool) → (cond b (refusedWith 23 st, p) (slot_taken (due_own st) st p d (due_pointers st))).0.refusal ≡ 0 → b ≡ false
      go true q = absurd (omega arith)
      go false q = refl

  -- the refusal of a slot's or a frame's call is its number
  pub slot-refusal : (d : List ℕ) (m : Machine) → refusal_in (did (slot d) m).answer ≡ []
      → refusal_in (numbered (slot_of m.state m.packet m.collecting d).0.refusal) ≡ []
  unfolding did
  slot-refusal d m e = e

  pub frame-refusal : (b : List ℕ) (m : Machine) → refusal_in (did (frame b) m).answer ≡ []
      → refusal_in (numbered (frame_of m.state b).refusal) ≡ []
  unfolding did
  frame-refusal b m e = e

  abbrev given-all : ℕ → Bool
  given-all s = false

  -- slots that are all given and accepted have their lengths
  slots-fit : (i : ℕ) (ds : List (List ℕ)) (s : ℕ) (l : Layout) (m : Machine) (tl : Slot-state (ℕ × ℕ)) (f : ℕ → Lane (List (ℕ × ℕ)))
      (ts : List Todo) (xs : List Made) → At cfg m tl f l s → s + length ds ≡ 120 → Follows (slots_todo given-all s ds ++ ts) m xs
      → refusals (slots_todo given-all s ds ++ ts) m xs ≡ [] → SlotsFit l s ds
  unfolding slots_todo
  slots-fit i [] s l m tl f ts xs a n h e = tt
  slots-fit i (d ∷ ds) s l m tl f ts xs a n h e =
      let us = slots_todo given-all (suc s) ds ++ ts in
      let c = call-follows (slot d) (drain ∷ us) m xs h in
      let k = due cfg m tl f l s a (omega (arith, n)) in
      let q = unrefused _ (slot-refusal d m (nil-left _ _ (sym c.refuses-on ∙ e))) in
      let w : wrong_length (get_or l.lengths s 0) (length d) ≡ false =
      subst (λ (r : ReceiverFrame). wrong_length (get_or r.layout.lengths r.at 0) (length d) ≡ false) a.frame
      (slot-accepted m.state m.packet m.collecting d k q) in
      let x = slot_step cfg m tl f l i s d a (omega (arith, n)) false (λ z. w) in
      let y = item-follows cfg m (slot d) x.does.state _ _ l (suc s) x.item us xs h in
      let z = sym y.refuses-on ∙ e in
      (w, slots-fit i ds (suc s) l _ x.does.state _ ts y.calls x.item.at (omega (arith, n)) y.follows z)

  pub frames-fit : (i : ℕ) (rs : List Frame) (l : Layout) (m : Machine) (tl : Slot-state (ℕ × ℕ)) (f : ℕ → Lane (List (ℕ × ℕ)))
      (xs : List Made) → At cfg m tl f l 120 → Whole rs → Follows (reading none i rs) m xs → refusals (reading none i rs) m xs ≡ []
      → FramesFit cfg.stream rs
  unfolding reading
  frames-fit i [] l m tl f xs a n h e = tt
  frames-fit i (r ∷ rs) l m tl f xs a n h e =
      let us = reading none (suc i) rs in
      let ts = slots_todo given-all 0 r.slots ++ us in
      let b = r.block in
      let c = call-follows (frame b) ts m xs h in
      let q = frame-accepted m.state b (unrefused _ (frame-refusal b m (nil-left _ _ (sym c.refuses-on ∙ e)))) in
      let z : (decode_of b cfg.stream).refusal ≡ 0 = rw a.tracks.config at q in
      let l' = layout_in cfg.stream r in
      let k = call-left none (frame b) ts m (framed m l') xs (frame-did m tl f l b a z) h in
      let g = frame_at m tl f l l' a in
      let w = slots-fit i r.slots 0 l' (framed m l') tl f us k.calls g (omega (arith, n.0)) k.follows (sym k.refuses-on ∙ e) in
      let v = slots_read cfg given-all i r.slots 0 l' (framed m l') tl f us k.calls g (omega (arith, n.0)) w k.follows in (
        z,
        n.0,
        w,
        frames-fit (suc i) rs l' v.machine _ _ v.left.calls v.at n.1 v.left.follows
            (sym v.left.refuses-on ∙ sym k.refuses-on ∙ e),
      )
