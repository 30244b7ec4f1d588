-- The reading theorem holds.
use Prim.Native.Nat.{ℕ, suc, ◌+◌, ◌*◌, ◌<◌, ◌≤◌}
use mathlib.Core.Path.{◌≡◌, refl, sym, ap, ◌∙◌, subst}
use mathlib.Core.Bool.{Bool, true, false, cond, ◌||◌}
use mathlib.Core.List.{List, [], ◌∷◌, ◌++◌, map}
use native.Mathlib.Omega.{arith}
use lib.Dec.{eqb, ltb}
use lib.ListN.{length, get_or}
use borrow.Author.Tests.{eqb-true, ltb-false}
use Rattle.tmcc.specs.Layout.{Layout}
use Rattle.tmcc.specs.Block.{decode_of}
use Rattle.tmcc.specs.Layout.{blank_layout}
use Rattle.tlv.proofs.Runs.{run-append}
use Rattle.tlv.specs.Run.{Arrival, State as Slot-state, lost, step, run, state_after, searching}
use Rattle.reassembly.specs.declared.config.Config.{Config}
use Rattle.reassembly.specs.Run.{Lane, fresh}
use Rattle.intake.specs.Slot.{packet_memory}
use Rattle.words.specs.Config.{kept_config}
use Rattle.state.specs.State.{Frame as ReceiverFrame, State, accepted as acceptedAs, refused as refusedWith}
use Rattle.queue.specs.Event.{Nothing, Refused}
use Rattle.receiver.specs.Next.{answered, read_on, read_all, next_of}
use Rattle.delivery.specs.Cursor.{left}
use Rattle.frames.specs.Slot.{wrong_length, slot_of, lost_slot_of, loss_taken, due_own, short_by, slot_refusal}
use Rattle.frames.specs.Frame.{frame_busy, frame_of, loss_of, lost_frame_of}
use Rattle.broadcast.specs.Account.{account, events, lanes_after}
use Rattle.broadcast.specs.Drains.{Shown, strip}
use Rattle.broadcast.specs.Calls.{
  Machine,
  Call,
  Todo,
  Made,
  own,
  shows,
  added,
  next,
  accepted,
  refused,
  note_shown,
  event_answer,
  numbered,
  call,
  drain,
  frame,
  slot,
  lost-frame,
  did,
  Follows,
  all_shown,
  refusals,
  refusal_in,
}
use Rattle.broadcast.specs.Frames.{
  Frame,
  Damage,
  slot_call,
  slots_todo,
  frame_todo,
  reading,
  slots_arrive,
  layout_in,
  frame_arrives,
  arrivals,
}
use Rattle.state.specs.Start.{start_of, fresh_state}
use Rattle.broadcast.specs.Demand3.{started, Reads, shown_of, refused_of}
use Rattle.broadcast.specs.Readings.{Begun, ReadingTheorem}
use Rattle.broadcast.proofs.Refusals.{did-refused}
use Rattle.broadcast.proofs.Script.{call-follows, not_done}
use Rattle.broadcast.proofs.Demand3.{start-accepted, start-at, slot_due, slot_tells}
use Rattle.broadcast.specs.Machines.{At}
use Rattle.broadcast.proofs.Items.{due, lost-frame-item}
use Rattle.broadcast.proofs.SlotCalls.{Went, slot_step, went_on, shown-on}
use Rattle.broadcast.proofs.Reading.{
  nothing_left,
  nil-left,
  nil-right,
  unrefused,
  slot-refusal,
  frame-refusal,
  slot-accepted,
  frame-accepted,
  frame-did,
  frame_at,
  framed,
  call-left,
}

module _ (cfg : Config) where
  -- a slot that is given and accepted has its length
  fits : (d : List ℕ) (s : ℕ) (l : Layout) (m : Machine) (tl : Slot-state (ℕ × ℕ)) (f : ℕ → Lane (List (ℕ × ℕ))) (us : List Todo)
      (xs : List Made) (gone : Bool) → At cfg m tl f l s → s < 120 → Follows (call (slot_call gone d) ∷ us) m xs
      → refusals (call (slot_call gone d) ∷ us) m xs ≡ [] → gone ≡ false → wrong_length (get_or l.lengths s 0) (length d) ≡ false
  fits d s l m tl f us xs gone a n h e z =
      let c = call-follows (slot_call gone d) us m xs h in
      let r = nil-left cfg (refusal_in (did (slot_call gone d) m).answer) _ (sym c.refuses-on ∙ e) in
      let r' : refusal_in (did (slot d) m).answer ≡ [] = subst (λ (g : Bool). refusal_in (did (slot_call g d) m).answer ≡ []) z r in
      let q = unrefused cfg (slot_of m.state m.packet m.collecting d).0.refusal (slot-refusal cfg d m r') in
      subst (λ (r : ReceiverFrame). wrong_length (get_or r.layout.lengths r.at 0) (length d) ≡ false) a.frame
      (slot-accepted cfg m.state m.packet m.collecting d (due cfg m tl f l s a n) q)

  -- slots that are read without a refusal
  slots_told : (gone : ℕ → Bool) (i : ℕ) (ds : List (List ℕ)) (s : ℕ) (l : Layout) (m : Machine) (tl : Slot-state (ℕ × ℕ))
      (f : ℕ → Lane (List (ℕ × ℕ))) (ts : List Todo) (xs : List Made) → At cfg m tl f l s → s + length ds ≤ 120
      → Follows (slots_todo gone s ds ++ ts) m xs → refusals (slots_todo gone s ds ++ ts) m xs ≡ []
      → Went cfg tl f (slots_arrive l gone i s ds) ts (all_shown (slots_todo gone s ds ++ ts) m xs)
      (refusals (slots_todo gone s ds ++ ts) m xs) l (s + length ds)
  unfolding slots_todo slots_arrive run state_after events lanes_after
  slots_told gone i [] s l m tl f ts xs a n h e =
      record {
        machine = m;
        at = subst (λ (k : ℕ). At cfg m tl f l k) (omega arith) a;
        left = record { calls = xs; follows = h; shows-on = refl; refuses-on = refl };
      }
  slots_told gone i (d ∷ ds) s l m tl f ts xs a n h e =
      let us = slots_todo gone (suc s) ds ++ ts in
      let x =
      slot_step cfg m tl f l i s d a (omega arith) (gone s) (fits d s l m tl f (drain ∷ us) xs (gone s) a (omega arith) h e) in
      let y = x.does in
      let tail = slots_arrive l gone i (suc s) ds in
      subst
      (λ (k : ℕ).
      Went cfg tl f (slots_arrive l gone i s (d ∷ ds)) ts (all_shown (call (slot_call (gone s) d) ∷ drain ∷ us) m xs)
      (refusals (call (slot_call (gone s) d) ∷ drain ∷ us) m xs) l k)
      (omega arith)
      (went_on cfg m (slot_call (gone s) d) tl f l (suc s) y tail _ us ts xs (suc s + length ds) x.item (x.runs tail) (x.ends tail) h
      (λ ys q g.
      slots_told gone i ds (suc s) l _ y.state (lanes_after cfg f y.events) ts ys x.item.at (omega arith) q (sym g ∙ e)))

  module _ (d : Damage) where
    -- what the frames from number i on show
    Tells : ℕ → List Frame → Machine → Slot-state (ℕ × ℕ) → (ℕ → Lane (List (ℕ × ℕ))) → List Made → Type 0
    Tells i rs m tl f xs = all_shown (reading d i rs) m xs ≡ map strip (events cfg f (run tl (arrivals cfg.stream d i rs)))

    -- the arrivals as', and then the frames from number i on
    told_on : (i : ℕ) (rs : List Frame) (tl : Slot-state (ℕ × ℕ)) (f : ℕ → Lane (List (ℕ × ℕ))) (as' : List (Arrival (ℕ × ℕ)))
        (all : List Shown) (ref : List ℕ) (l : Layout) (n : ℕ) (w : Went cfg tl f as' (reading d i rs) all ref l n)
        → Tells i rs w.machine (state_after tl as') (lanes_after cfg f (run tl as')) w.left.calls
        → all ≡ map strip (events cfg f (run tl (as' ++ arrivals cfg.stream d i rs)))
    unfolding Tells
    told_on i rs tl f as' all ref l n w h =
        let xs = arrivals cfg.stream d i rs in
        w.left.shows-on ∙ ap (λ r. map strip (events cfg f (run tl as')) ++ r) h
        ∙ sym (shown-on cfg tl f (record { state = state_after tl as'; events = run tl as' }) (as' ++ xs) xs
        (run-append (ℕ × ℕ) tl as' xs).0)

    begun-rest : (r : Frame) (rs : List Frame) → Begun (r ∷ rs) → Begun rs
    begun-rest r [] n = tt
    begun-rest r (g ∷ gs) n = n.1

    begun-most : (r : Frame) (rs : List Frame) → Begun (r ∷ rs) → length r.slots ≤ 120
    begun-most r [] n = n
    begun-most r (g ∷ gs) n = omega (arith, n.0)

    -- the rest of a reading, by `again` where there is one
    rest_told : (i : ℕ) (r : Frame) (rs : List Frame) (l : Layout) (m : Machine) (tl : Slot-state (ℕ × ℕ)) (f : ℕ → Lane (List (ℕ × ℕ)))
        (xs : List Made) → Begun (r ∷ rs) → At cfg m tl f l (0 + length r.slots) → Follows (reading d i rs) m xs
        → (At cfg m tl f l 120 → Tells i rs m tl f xs) → Tells i rs m tl f xs
    unfolding Tells reading arrivals run events
    rest_told i r [] l m tl f xs n a h again = (nothing_left cfg m xs h).0
    rest_told i r (g ∷ gs) l m tl f xs n a h again = again (subst (λ (k : ℕ). At cfg m tl f l k) (omega (arith, n.0)) a)

    module _ (i : ℕ) (r : Frame) (rs : List Frame) (n : Begun (r ∷ rs))
        (again : (l : Layout) (m : Machine) (tl : Slot-state (ℕ × ℕ)) (f : ℕ → Lane (List (ℕ × ℕ))) (xs : List Made) → At cfg m tl f l 120
        → Follows (reading d (suc i) rs) m xs → refusals (reading d (suc i) rs) m xs ≡ [] → Tells (suc i) rs m tl f xs) (l : Layout)
        (m : Machine) (tl : Slot-state (ℕ × ℕ)) (f : ℕ → Lane (List (ℕ × ℕ))) (xs : List Made) (a : At cfg m tl f l 120) where
      frame_told : (gone : Bool) → Follows (frame_todo gone (d.slots i) r ++ reading d (suc i) rs) m xs
          → refusals (frame_todo gone (d.slots i) r ++ reading d (suc i) rs) m xs ≡ []
          → all_shown (frame_todo gone (d.slots i) r ++ reading d (suc i) rs) m xs
          ≡ map strip
          (events cfg f
          (run tl
          (frame_arrives gone (layout_in cfg.stream r) (d.slots i) i r.slots ++ arrivals cfg.stream d (suc i) rs)))
      unfolding run state_after events lanes_after
      frame_told true h e =
          let us = reading d (suc i) rs in
          let x = lost-frame-item cfg m tl f l a in
          let v =
          went_on cfg m lost-frame tl f l 120 (step tl lost) [] (lost ∷ []) us us xs 120 x refl refl h
          (λ ys q g.
          record {
            machine = record { state = x.state; packet = (did lost-frame m).machine.packet; collecting = x.collecting };
            at = x.at;
            left = record { calls = ys; follows = q; shows-on = refl; refuses-on = refl };
          }) in
          told_on (suc i) rs tl f (lost ∷ []) _ _ l 120 v
          (again l v.machine _ _ v.left.calls v.at v.left.follows (sym v.left.refuses-on ∙ e))
      frame_told false h e =
          let us = reading d (suc i) rs in
          let l' = layout_in cfg.stream r in
          let b = r.block in
          let ts = slots_todo (d.slots i) 0 r.slots ++ us in
          let k = call-follows (frame b) ts m xs h in
          let z = nil-left cfg (refusal_in (did (frame b) m).answer) _ (sym k.refuses-on ∙ e) in
          let q = frame-accepted cfg m.state b (unrefused cfg (frame_of m.state b).refusal (frame-refusal cfg b m z)) in
          let q' : (decode_of b cfg.stream).refusal ≡ 0 = rw a.tracks.config at q in
          let c = call-left cfg d (frame b) ts m (framed cfg m l') xs (frame-did cfg m tl f l b a q') h in
          let v =
          slots_told (d.slots i) i r.slots 0 l' (framed cfg m l') tl f us c.calls (frame_at cfg m tl f l l' a)
          (omega (arith, begun-most r rs n)) c.follows (sym c.refuses-on ∙ e) in
          let g = sym v.left.refuses-on ∙ sym c.refuses-on ∙ e in
          c.shows-on
          ∙ told_on (suc i) rs tl f (slots_arrive l' (d.slots i) i 0 r.slots) _ _ l' _ v
          (rest_told (suc i) r rs l' v.machine _ _ v.left.calls n v.at v.left.follows
          (λ w. again l' v.machine _ _ v.left.calls w v.left.follows g))

    frames_told : (i : ℕ) (rs : List Frame) (l : Layout) (m : Machine) (tl : Slot-state (ℕ × ℕ)) (f : ℕ → Lane (List (ℕ × ℕ)))
        (xs : List Made) → At cfg m tl f l 120 → Begun rs → Follows (reading d i rs) m xs → refusals (reading d i rs) m xs ≡ []
        → Tells i rs m tl f xs
    unfolding Tells reading arrivals run events
    frames_told i [] l m tl f xs a n h e = (nothing_left cfg m xs h).0
    frames_told i (r ∷ rs) l m tl f xs a n h e =
        frame_told i r rs n (λ l' m' tl' f' ys b q g. frames_told (suc i) rs l' m' tl' f' ys b (begun-rest r rs n) q g) l m tl f xs a
        (d.frames i) h e

-- memories that suffice, from the first slot or the first call of next that is accepted
lost-due : (st : State) (p c : ℕ) → (lost_slot_of st p c).refusal ≡ 0 → slot_refusal st p c ≡ 0
unfolding lost_slot_of
lost-due st p c e = go (eqb (slot_refusal st p c) 0) refl e
  where
    go : (b : Bool) → eqb (slot_refusal st p c) 0 ≡ b
        → (cond b (acceptedAs (loss_taken (due_own st) st)) (refusedWith (slot_refusal st p c) st)).refusal ≡ 0 → slot_refusal st p c ≡ 0
    go true q h = eqb-true _ 0 q
    go false q h = h

next-long : (m : Machine) → refusal_in (did next m).answer ≡ []
    → (packet_memory ≤ length m.packet) × (m.state.config.watch.n * m.state.config.rules.limit ≤ length m.collecting)
unfolding did next_of read_all short_by
next-long m e =
    go (ltb (length m.packet) packet_memory) (ltb (length m.collecting) (st.config.watch.n * st.config.rules.limit)) refl refl e
  where
    st : State
    st = m.state

    go : (x y : Bool) → ltb (length m.packet) packet_memory ≡ x
        → ltb (length m.collecting) (st.config.watch.n * st.config.rules.limit) ≡ y
        → refusal_in
        (event_answer
        (cond (x || y) (answered (Refused 22) st m.collecting)
        (cond st.owed (read_on (suc (left st.cursor)) st m.packet m.collecting) (answered Nothing st m.collecting))
        ).0.event) ≡ []
        → (packet_memory ≤ length m.packet) × (st.config.watch.n * st.config.rules.limit ≤ length m.collecting)
    go true y q r h = let z : ◌≡◌ {A = ℕ} 0 1 = cc in absurd (omega arith)
    go false true q r h = let z : ◌≡◌ {A = ℕ} 0 1 = cc in absurd (omega arith)
    go false false q r h = (ltb-false _ _ q, ltb-false _ _ r)

drain-first : (cfg : Config) (ts : List Todo) (m : Machine) (xs : List Made) → Follows (drain ∷ ts) m xs → refusals (drain ∷ ts) m xs ≡ []
    → refusal_in (did next m).answer ≡ []
drain-first cfg ts m [] h e = absurd (not_done h)
drain-first cfg ts m (own k ∷ xs) h e =
    subst (λ (j : Call). refusal_in (did j m).answer ≡ []) h.0 (nil-left cfg (refusal_in (did k m).answer) _ e)
drain-first cfg ts m (shows ∷ xs) h e = absurd h.0
drain-first cfg ts m (added k ∷ xs) h e =
    let q = did-refused k m h.0 in
    subst (λ (n : Machine). refusal_in (did next n).answer ≡ []) q (drain-first cfg ts (did k m).machine xs h.1 e)

-- a call that answers a number shows nothing
numbered-quiet : (n : ℕ) → note_shown (numbered n) ≡ []
numbered-quiet n = go (eqb n 0)
  where
    go : (b : Bool) → note_shown (cond b accepted (refused n)) ≡ []
    go true = refl
    go false = refl

-- a call of a slot, given or lost, that is not refused
slot-call-due : (cfg : Config) (gone : Bool) (x : List ℕ) (m : Machine) → refusal_in (did (slot_call gone x) m).answer ≡ []
    → slot_refusal m.state (length m.packet) (length m.collecting) ≡ 0
unfolding did
slot-call-due cfg true x m e =
    lost-due m.state (length m.packet) (length m.collecting)
    (unrefused cfg (lost_slot_of m.state (length m.packet) (length m.collecting)).refusal e)
slot-call-due cfg false x m e =
    slot_due m.state m.packet m.collecting x (unrefused cfg (slot_of m.state m.packet m.collecting x).0.refusal e)

-- the call of next after a lost frame
loss_config : (st : State) → (lost_frame_of st).state.config ≡ st.config
unfolding lost_frame_of loss_of
loss_config st = go (frame_busy st)
  where
    go : (b : Bool) → (cond b (refusedWith 11 st) (acceptedAs (loss_of st))).state.config ≡ st.config
    go true = refl
    go false = refl

loss_tells : (cfg : Config) (p c : List ℕ) → (start_of cfg).refusal ≡ 0
    → (let m = (did lost-frame (started cfg p c)).machine in
    (packet_memory ≤ length m.packet) × (m.state.config.watch.n * m.state.config.rules.limit ≤ length m.collecting))
    → (packet_memory ≤ length p) × (cfg.watch.n * cfg.rules.limit ≤ length c)
unfolding did fresh_state
loss_tells cfg p c s l =
    let st = (start_of cfg).state in
    let g : (lost_frame_of st).state.config ≡ kept_config cfg = loss_config st ∙ ap (λ (x : State). x.config) (start-accepted cfg s).1 in
    (l.0, rw g at l.1)

module _ (cfg : Config) (s : (start_of cfg).refusal ≡ 0) (d : Damage) (p c : List ℕ) (xs : List Made) where
  start : Machine
  start = started cfg p c

  Suffices : Type 0
  Suffices = (packet_memory ≤ length p) × (cfg.watch.n * cfg.rules.limit ≤ length c)

  -- a lost frame first: its next is accepted
  loss_suffices : (us : List Todo) → Follows (call lost-frame ∷ drain ∷ us) start xs → refusals (call lost-frame ∷ drain ∷ us) start xs ≡ []
      → Suffices
  unfolding start Suffices
  loss_suffices us h e =
      let k = call-follows lost-frame (drain ∷ us) (started cfg p c) xs h in
      let m = (did lost-frame (started cfg p c)).machine in
      let r =
      nil-right cfg (refusal_in (did lost-frame (started cfg p c)).answer) (refusals (drain ∷ us) m k.calls)
      (sym k.refuses-on ∙ e) in
      loss_tells cfg p c s (next-long m (drain-first cfg us m k.calls k.follows r))

  -- a frame with a slot first: the slot is accepted
  slot-suffices : (b x : List ℕ) (gone : Bool) (us : List Todo) → Follows (call (frame b) ∷ call (slot_call gone x) ∷ us) start xs
      → refusals (call (frame b) ∷ call (slot_call gone x) ∷ us) start xs ≡ [] → Suffices
  unfolding start Suffices
  slot-suffices b x gone us h e =
      let k = call-follows (frame b) (call (slot_call gone x) ∷ us) (started cfg p c) xs h in
      let m = (did (frame b) (started cfg p c)).machine in
      let j = call-follows (slot_call gone x) us m k.calls k.follows in
      let r =
      nil-right cfg (refusal_in (did (frame b) (started cfg p c)).answer) (refusals (call (slot_call gone x) ∷ us) m k.calls)
      (sym k.refuses-on ∙ e) in
      let a =
      nil-left cfg (refusal_in (did (slot_call gone x) m).answer) (refusals us (did (slot_call gone x) m).machine j.calls)
      (sym j.refuses-on ∙ r) in
      slot_tells cfg p c b s (slot-call-due cfg gone x m a)

  suffices-at : Suffices → At {A = ℕ × ℕ} cfg (started cfg p c) searching (λ k. fresh) blank_layout 120
  unfolding Suffices
  suffices-at l = start-at cfg p c s l.0 l.1

  -- a frame of which no slot is read
  none_read : (b : List ℕ) → Follows (call (frame b) ∷ []) start xs → all_shown (call (frame b) ∷ []) start xs ≡ []
  unfolding start did
  none_read b h =
      let k = call-follows (frame b) [] (started cfg p c) xs h in
      k.shows-on
      ∙ ap (λ r. r ++ all_shown [] (did (frame b) (started cfg p c)).machine k.calls)
      (numbered-quiet (frame_of (start_of cfg).state b).refusal)
      ∙ (nothing_left cfg (did (frame b) (started cfg p c)).machine k.calls k.follows).0

-- the first frame, by whether it is reported lost and whether a slot of it is read
module _ (cfg : Config) (s : (start_of cfg).refusal ≡ 0) (d : Damage) (p c : List ℕ) (xs : List Made) (f : Frame) (fs : List Frame)
    (n : Begun (f ∷ fs)) (h : Reads cfg (f ∷ fs) d p c xs) (e : refused_of cfg (f ∷ fs) d p c xs ≡ []) where
  Goal : Type 0
  Goal = shown_of cfg (f ∷ fs) d p c xs ≡ map strip (account cfg (arrivals cfg.stream d 0 (f ∷ fs)))

  by_memories : Suffices cfg s d p c xs → Goal
  unfolding Goal account Tells
  by_memories l =
      frames_told cfg d 0 (f ∷ fs) blank_layout (started cfg p c) searching (λ k. fresh) xs (suffices-at cfg s d p c xs l) n h e

  by_loss : d.frames 0 ≡ true → Goal
  unfolding reading start
  by_loss q = by_memories (loss_suffices cfg s d p c xs (reading d 1 fs) (rw q at h) (rw q at e))

  by-slot : (x : List ℕ) (ds : List (List ℕ)) → d.frames 0 ≡ false → f.slots ≡ x ∷ ds → Goal
  unfolding reading slots_todo start
  by-slot x ds q z =
      by_memories
      (slot-suffices cfg s d p c xs f.block x (d.slots 0 0) (drain ∷ (slots_todo (d.slots 0) 1 ds ++ reading d 1 fs)) (rw (q, z) at h)
      (rw (q, z) at e))

-- a frame of which no slot is read is the last
no_slot : (cfg : Config) (s : (start_of cfg).refusal ≡ 0) (d : Damage) (p c : List ℕ) (xs : List Made) (f : Frame) (fs : List Frame)
    → Begun (f ∷ fs) → Reads cfg (f ∷ fs) d p c xs → d.frames 0 ≡ false → f.slots ≡ []
    → shown_of cfg (f ∷ fs) d p c xs ≡ map strip (account cfg (arrivals cfg.stream d 0 (f ∷ fs)))
unfolding reading slots_todo start account arrivals slots_arrive run events
no_slot cfg s d p c xs f [] n h q z = rw (q, z) (none_read cfg s d p c xs f.block (rw (q, z) at h))
no_slot cfg s d p c xs f (g ∷ gs) n h q z = absurd (omega (arith, n.0, ap length z))

pub reading_theorem : ReadingTheorem
unfolding account reading arrivals run events Goal
reading_theorem cfg s [] n d p c xs h e = (nothing_left cfg (started cfg p c) xs h).0
reading_theorem cfg s (f ∷ fs) n d p c xs h e = go (d.frames 0) f.slots refl refl
  where
    go : (gone : Bool) (ds : List (List ℕ)) → d.frames 0 ≡ gone → f.slots ≡ ds
        → shown_of cfg (f ∷ fs) d p c xs ≡ map strip (account cfg (arrivals cfg.stream d 0 (f ∷ fs)))
    go true ds q z = by_loss cfg s d p c xs f fs n h e q
    go false [] q z = no_slot cfg s d p c xs f fs n h q z
    go false (x ∷ ds) q z = by-slot cfg s d p c xs f fs n h e x ds q z
