-- The calls of a capture between one command and the next: which are refused, and what they do to the account.
use Prim.Native.Nat.{ℕ, suc, ◌+◌, ◌-◌, ◌%◌, ◌^◌, ◌<◌, ◌≤◌}
use mathlib.Core.Path.{◌≡◌, refl, sym, ap, ◌∙◌, subst}
use mathlib.Core.Bool.{Bool, true, false, cond, or-false}
use mathlib.Core.List.{List, [], ◌∷◌, ◌++◌, map, append-nil}
use native.Mathlib.Omega.{arith}
use lib.Dec.{eqb, ltb, leb}
use lib.ListN.{length, get_or, drop}
use borrow.Author.Tests.{eqb-true, eqb-false, ltb-false, leb-false}
use Rattle.wire.proofs.Choice.{either}
use Rattle.tmcc.specs.Layout.{Layout}
use Rattle.tmcc.specs.Block.{decode_of}
use Rattle.tlv.specs.Run.{Arrival, State as Slot-state, Stepped, lost, step, run, state_after}
use Rattle.reassembly.specs.declared.config.Config.{Config}
use Rattle.reassembly.specs.Run.{Lane}
use Rattle.words.specs.Config.{KeptConfig, kept_config}
use Rattle.state.specs.State.{Called, State, Frame as ReceiverFrame, with_frame, refused as refusedWith, accepted as acceptedAs}
use Rattle.frames.specs.Slot.{counted, wrong_length, slot_refusal, slot_of, lost_slot_of, slot_taken, loss_taken, due_length, due_own, due_pointers, short_by}
use Rattle.frames.proofs.SlotLaws.{long-enough}
use Rattle.frames.specs.Frame.{frame_busy, frame_of, loss_of, lost_frame_of}
use Rattle.receiver.proofs.NextLaws.{next-idle}
use Rattle.capture.specs.declared.command.Letter.{Letter}
use Rattle.capture.specs.declared.command.Letter.TheVariants.{Start, Frame, LostFrame, Slot, LostSlot, Unknown}
use Rattle.capture.specs.declared.session.Phase.TheVariants.{Reading}
use Rattle.capture.specs.declared.session.Tally.{Tally}
use Rattle.capture.specs.Session.{in_frame, in_slot}
use Rattle.capture.specs.Capture.{fits, call_of}
use Rattle.broadcast.specs.Account.{events, lanes_after}
use Rattle.broadcast.specs.Drains.{strip, stops}
use Rattle.broadcast.specs.Calls.{Machine, Call, frame, lost-frame, slot, lost-slot, next, Did, did, numbered}
use Rattle.broadcast.specs.Machines.{At}
use Rattle.broadcast.proofs.Items.{Item, lost-frame-item}
use Rattle.broadcast.proofs.SlotCalls.{slot_step}
use Rattle.broadcast.proofs.Reading.{framed, frame-did, frame_at}
use Rattle.capture_account.specs.Calls.{refusal_at, layout_after, slot_after, frames_after, arrival_by}
use Rattle.capture_account.specs.Places.{slot_number}

-- the call of a command that makes one
abbrev pub command_call : Letter → List ℕ → Call
command_call Start b = next
command_call Frame b = frame (drop 1 b)
command_call LostFrame b = lost-frame
command_call Slot b = slot (drop 3 b)
command_call LostSlot b = lost-slot
command_call Unknown b = next

-- what it does
pub did-call : (w : Letter) (m : Machine) (b : List ℕ) → fits Reading w ≡ true
    → let r = call_of w m.state m.packet m.collecting b in
    did (command_call w b) m
    ≡ record { answer = numbered r.0.refusal; machine = record { state = r.0.state; packet = r.1; collecting = m.collecting } }
unfolding did call_of
did-call Start m b h = let y : ◌≡◌ {A = ℕ} 0 1 = cc in absurd (omega arith)
did-call Frame m b h = refl
did-call LostFrame m b h = refl
did-call Slot m b h = refl
did-call LostSlot m b h = refl
did-call Unknown m b h = let y : ◌≡◌ {A = ℕ} 0 1 = cc in absurd (omega arith)

-- a call leaves the queue as it was
pub call-queue : (w : Letter) (st : State) (p c b : List ℕ) → fits Reading w ≡ true → (call_of w st p c b).0.state.queue ≡ st.queue
unfolding call_of frame_of lost_frame_of slot_of lost_slot_of counted loss_of
call-queue Start st p c b h = let y : ◌≡◌ {A = ℕ} 0 1 = cc in absurd (omega arith)
call-queue Frame st p c b h =
    either Kept (eqb (length (drop 1 b)) 1178)
    (either Kept (frame_busy st) refl (either Kept (eqb (decode_of (drop 1 b) st.config.stream).refusal 0) refl refl)) refl
  where
    Kept : Called → Type 0
    Kept r = r.state.queue ≡ st.queue
call-queue LostFrame st p c b h = either (λ (r : Called). r.state.queue ≡ st.queue) (frame_busy st) refl refl
call-queue Slot st p c b h =
    either Kept (eqb (slot_refusal st (length p) (length c)) 0)
    (either Kept (wrong_length (due_length st) (length (drop 3 b))) refl (go (due_own st))) refl
  where
    Kept : Called × List ℕ → Type 0
    Kept r = r.0.state.queue ≡ st.queue

    go : (own : Bool) → Kept (slot_taken own st p (drop 3 b) (due_pointers st))
    go true = refl
    go false = refl
call-queue LostSlot st p c b h =
    either (λ (r : Called). r.state.queue ≡ st.queue) (eqb (slot_refusal st (length p) (length c)) 0) (go (due_own st)) refl
  where
    go : (own : Bool) → (loss_taken own st).queue ≡ st.queue
    go true = refl
    go false = refl
call-queue Unknown st p c b h = let y : ◌≡◌ {A = ℕ} 0 1 = cc in absurd (omega arith)

-- the tally after an accepted command
abbrev pub tally_after : Letter → State → Tally → Tally
tally_after Start st t = t
tally_after Frame st t = in_frame t
tally_after LostFrame st t = in_frame t
tally_after Slot st t = in_slot st.frame.at t
tally_after LostSlot st t = in_slot st.frame.at t
tally_after Unknown st t = t

-- a slot that is taken is counted
pub slot_counted : (w : Letter) (st : State) (p c b : List ℕ) → fits Reading w ≡ true → (call_of w st p c b).0.refusal ≡ 0
    → (t : Tally) → (tally_after w (call_of w st p c b).0.state t).slot ≡ slot_number st.frame.at (command_call w b)
unfolding call_of slot_of lost_slot_of counted loss_of
slot_counted Start st p c b h e t = let y : ◌≡◌ {A = ℕ} 0 1 = cc in absurd (omega arith)
slot_counted Frame st p c b h e t = refl
slot_counted LostFrame st p c b h e t = refl
slot_counted Slot st p c b h e t =
    go (eqb (slot_refusal st (length p) (length c)) 0) (wrong_length (due_length st) (length (drop 3 b))) (due_own st) refl e
  where
    go : (x y z : Bool) → eqb (slot_refusal st (length p) (length c)) 0 ≡ x
        → (cond x (cond y (refusedWith 23 st, p) (slot_taken z st p (drop 3 b) (due_pointers st)))
        (refusedWith (slot_refusal st (length p) (length c)) st, p)).0.refusal ≡ 0
        → (cond x (cond y (refusedWith 23 st, p) (slot_taken z st p (drop 3 b) (due_pointers st)))
        (refusedWith (slot_refusal st (length p) (length c)) st, p)).0.state.frame.at ≡ st.frame.at + 1
    go true true z q k = absurd (omega arith)
    go true false true q k = refl
    go true false false q k = refl
    go false y z q k = absurd (eqb-false _ 0 q k)
slot_counted LostSlot st p c b h e t = go (eqb (slot_refusal st (length p) (length c)) 0) (due_own st) refl e
  where
    go : (x z : Bool) → eqb (slot_refusal st (length p) (length c)) 0 ≡ x
        → (cond x (acceptedAs (loss_taken z st)) (refusedWith (slot_refusal st (length p) (length c)) st)).refusal ≡ 0
        → (cond x (acceptedAs (loss_taken z st)) (refusedWith (slot_refusal st (length p) (length c)) st)).state.frame.at ≡ st.frame.at + 1
    go true true q k = refl
    go true false q k = refl
    go false z q k = absurd (eqb-false _ 0 q k)
slot_counted Unknown st p c b h e t = let y : ◌≡◌ {A = ℕ} 0 1 = cc in absurd (omega arith)

-- and so is a frame
pub frame-counted : (w : Letter) (st : State) (b : List ℕ) (n : ℕ) (t : Tally) → fits Reading w ≡ true
    → t.frames ≡ n % 2 ^ 64 → (tally_after w st t).frames ≡ frames_after n (command_call w b) % 2 ^ 64
frame-counted Start st b n t h e = let y : ◌≡◌ {A = ℕ} 0 1 = cc in absurd (omega arith)
frame-counted Frame st b n t h e = omega (arith, e)
frame-counted LostFrame st b n t h e = omega (arith, e)
frame-counted Slot st b n t h e = e
frame-counted LostSlot st b n t h e = e
frame-counted Unknown st b n t h e = let y : ◌≡◌ {A = ℕ} 0 1 = cc in absurd (omega arith)

module _ (cfg : Config) (m : Machine) (tl : Slot-state (ℕ × ℕ)) (f : ℕ → Lane (List (ℕ × ℕ))) (l : Layout) (s : ℕ)
    (a : At cfg m tl f l s) where
  short_none : short_by m.state.config (length m.packet) (length m.collecting) ≡ false
  short_none =
      let k = a.tracks in
      rw k.config (long-enough (kept_config cfg) (length m.packet) (length m.collecting) k.packet-long k.collecting-long)

  slot-refusal-is : slot_refusal m.state (length m.packet) (length m.collecting) ≡ cond (leb 120 s) 20 0
  unfolding slot_refusal
  slot-refusal-is = rw (short_none, a.frame, a.tracks.paid)

  busy-is : frame_busy m.state ≡ ltb s 120
  unfolding frame_busy
  busy-is = rw (a.tracks.paid, a.frame) (or-false (ltb s 120))

  length-is : (d : List ℕ) → wrong_length (due_length m.state) (length d) ≡ wrong_length (get_or l.lengths s 0) (length d)
  length-is d = ap (λ (r : ReceiverFrame). wrong_length (get_or r.layout.lengths r.at 0) (length d)) a.frame

  frame-refusal : (b : List ℕ) → (frame_of m.state b).refusal ≡ refusal_at cfg.stream l s (frame b)
  unfolding frame_of refusal_at
  frame-refusal b =
      rw busy-is (go (eqb (length b) 1178) (ltb s 120) (eqb r 0) refl)
      ∙ ap (λ (x : KeptConfig). cond (eqb (length b) 1178) (cond (ltb s 120) 11 (decode_of b x.stream).refusal) 10) a.tracks.config
    where
      r : ℕ
      r = (decode_of b m.state.config.stream).refusal

      go : (x y z : Bool) → eqb r 0 ≡ z
          → (cond x
          (cond y (refusedWith 11 m.state)
          (cond z (acceptedAs (with_frame m.state (record { layout = (decode_of b m.state.config.stream).layout; at = 0 })))
          (refusedWith r m.state)))
          (refusedWith 10 m.state)).refusal ≡ cond x (cond y 11 r) 10
      go true true z q = refl
      go true false true q = sym (eqb-true r 0 q)
      go true false false q = refl
      go false y z q = refl

  loss_refusal : (lost_frame_of m.state).refusal ≡ refusal_at cfg.stream l s lost-frame
  unfolding lost_frame_of refusal_at
  loss_refusal = rw busy-is (go (ltb s 120))
    where
      go : (x : Bool) → (cond x (refusedWith 11 m.state) (acceptedAs (loss_of m.state))).refusal ≡ cond x 11 0
      go true = refl
      go false = refl

  slot-refusal : (d : List ℕ) → (slot_of m.state m.packet m.collecting d).0.refusal ≡ refusal_at cfg.stream l s (slot d)
  unfolding slot_of refusal_at
  slot-refusal d =
      rw (slot-refusal-is, length-is d) (go (leb 120 s) (wrong_length (get_or l.lengths s 0) (length d)) (due_own m.state))
    where
      go : (x w o : Bool)
          → (cond (eqb (cond x 20 0) 0)
          (cond w (refusedWith 23 m.state, m.packet) (slot_taken o m.state m.packet d (due_pointers m.state)))
          (refusedWith (cond x 20 0) m.state, m.packet)).0.refusal ≡ cond x 20 (cond w 23 0)
      go true w o = refl
      go false true o = refl
      go false false true = refl
      go false false false = refl

  lost-refusal : (lost_slot_of m.state (length m.packet) (length m.collecting)).refusal ≡ refusal_at cfg.stream l s lost-slot
  unfolding lost_slot_of refusal_at
  lost-refusal = rw slot-refusal-is (go (leb 120 s))
    where
      go : (x : Bool)
          → (cond (eqb (cond x 20 0) 0) (acceptedAs (loss_taken (due_own m.state) m.state))
          (refusedWith (cond x 20 0) m.state)).refusal
          ≡ cond x 20 0
      go true = refl
      go false = refl

  -- the machine refuses what the order of the commands and the control block refuse
  pub refusal_is : (w : Letter) (b : List ℕ) → fits Reading w ≡ true
      → (call_of w m.state m.packet m.collecting b).0.refusal ≡ refusal_at cfg.stream l s (command_call w b)
  unfolding call_of
  refusal_is Start b h = let y : ◌≡◌ {A = ℕ} 0 1 = cc in absurd (omega arith)
  refusal_is Frame b h = frame-refusal (drop 1 b)
  refusal_is LostFrame b h = loss_refusal
  refusal_is Slot b h = slot-refusal (drop 3 b)
  refusal_is LostSlot b h = lost-refusal
  refusal_is Unknown b h = let y : ◌≡◌ {A = ℕ} 0 1 = cc in absurd (omega arith)

-- a call that is not refused, and what arrives by it
pub record Steps (cfg : Config) (m : Machine) (tl : Slot-state (ℕ × ℕ)) (f : ℕ → Lane (List (ℕ × ℕ))) (k : Call)
    (arr : List (Arrival (ℕ × ℕ))) (l : Layout) (s : ℕ) : Type 0 where
  pub does : Stepped (ℕ × ℕ)
  pub item : Item cfg m k does.state (lanes_after cfg f does.events) (map strip (events cfg f does.events)) l s
  pub runs : (xs : List (Arrival (ℕ × ℕ))) → run tl (arr ++ xs) ≡ does.events ++ run does.state xs
  pub ran : run tl arr ≡ does.events
  pub ended : state_after tl arr ≡ does.state
  pub most : s ≤ 120

-- what arrives alone
ran-alone : (tl : Slot-state (ℕ × ℕ)) (arr : List (Arrival (ℕ × ℕ))) (y : Stepped (ℕ × ℕ))
    → run tl (arr ++ []) ≡ y.events ++ run y.state [] → run tl arr ≡ y.events
unfolding run
ran-alone tl arr y h = ap (λ (a : List (Arrival (ℕ × ℕ))). run tl a) (sym (append-nil arr)) ∙ h ∙ append-nil y.events

ended-alone : (tl : Slot-state (ℕ × ℕ)) (arr : List (Arrival (ℕ × ℕ))) (y : Stepped (ℕ × ℕ))
    → state_after tl (arr ++ []) ≡ state_after y.state [] → state_after tl arr ≡ y.state
unfolding state_after
ended-alone tl arr y h = ap (λ (a : List (Arrival (ℕ × ℕ))). state_after tl a) (sym (append-nil arr)) ∙ h

-- what no refusal tells
due-frame : (s n : ℕ) → s ≤ 120 → cond (ltb s 120) 11 n ≡ 0 → (s ≡ 120) × (n ≡ 0)
due-frame s n h e = go (ltb s 120) refl e
  where
    go : (x : Bool) → ltb s 120 ≡ x → cond x 11 n ≡ 0 → (s ≡ 120) × (n ≡ 0)
    go true q r = absurd (omega arith)
    go false q r = let w = ltb-false s 120 q in (omega arith, r)

due-slot : (s n : ℕ) → cond (leb 120 s) 20 n ≡ 0 → (s < 120) × (n ≡ 0)
due-slot s n e = go (leb 120 s) refl e
  where
    go : (x : Bool) → leb 120 s ≡ x → cond x 20 n ≡ 0 → (s < 120) × (n ≡ 0)
    go true q r = absurd (omega arith)
    go false q r = (leb-false 120 s q, r)

due-length : (w : Bool) → ◌≡◌ {A = ℕ} (cond w 23 0) 0 → w ≡ false
due-length true e = absurd (omega arith)
due-length false e = refl

due-block : (x : Bool) (n : ℕ) → cond x n 10 ≡ 0 → n ≡ 0
due-block true n e = e
due-block false n e = absurd (omega arith)

module _ (cfg : Config) (m : Machine) (tl : Slot-state (ℕ × ℕ)) (f : ℕ → Lane (List (ℕ × ℕ))) (l : Layout) (n : ℕ) where
  frame-item : (b : List ℕ) → At cfg m tl f l 120 → (decode_of b cfg.stream).refusal ≡ 0
      → Item cfg m (frame b) tl f [] (decode_of b cfg.stream).layout 0
  frame-item b a e =
      let l' = (decode_of b cfg.stream).layout in
      let d = frame-did cfg m tl f l b a e in
      let a' = frame_at cfg m tl f l l' a in
      record {
        answer = ap (λ (x : Did). x.answer) d;
        state = (framed cfg m l').state;
        collecting = m.collecting;
        drains = rw d
            (stops (next-idle (framed cfg m l').state m.packet m.collecting (short_none cfg (framed cfg m l') tl f l' 0 a')
            a'.tracks.paid));
        at = rw d a';
      }

  frame_step : (b : List ℕ) (s : ℕ) → At cfg m tl f l s → s ≤ 120 → refusal_at cfg.stream l s (frame b) ≡ 0
      → Steps cfg m tl f (frame b) [] (decode_of b cfg.stream).layout 0
  unfolding refusal_at events lanes_after
  frame_step b s a h e =
      let q = due-frame s _ h (due-block (eqb (length b) 1178) _ e) in
      record {
        does = record { state = tl; events = [] };
        item = frame-item b (subst (λ (i : ℕ). At cfg m tl f l i) q.0 a) q.1;
        runs = λ xs. refl;
        ran = unfold run in refl;
        ended = unfold state_after in refl;
        most = omega arith;
      }

  loss_step : (s : ℕ) → At cfg m tl f l s → s ≤ 120 → refusal_at cfg.stream l s lost-frame ≡ 0
      → Steps cfg m tl f lost-frame (lost ∷ []) l s
  unfolding refusal_at run
  loss_step s a h e =
      let q = due-frame s 0 h e in
      rw q.0
      (record {
        does = step tl lost;
        item = lost-frame-item cfg m tl f l (subst (λ (i : ℕ). At cfg m tl f l i) q.0 a);
        runs = λ xs. refl;
        ran = append-nil (step tl lost).events;
        ended = unfold state_after in refl;
        most = omega arith;
      })

  given-step : (d : List ℕ) (s : ℕ) → At cfg m tl f l s → s ≤ 120 → refusal_at cfg.stream l s (slot d) ≡ 0
      → Steps cfg m tl f (slot d) (arrival_by l s n (slot d)) l (suc s)
  unfolding refusal_at
  given-step d s a h e =
      let q = due-slot s _ e in
      let x = slot_step cfg m tl f l (n - 1) s d a q.0 false (λ z. due-length _ q.1) in
      record {
        does = x.does;
        item = x.item;
        runs = x.runs;
        ran = ran-alone tl _ x.does (x.runs []);
        ended = ended-alone tl _ x.does (x.ends []);
        most = omega (arith, q.0);
      }

  lost-step : (s : ℕ) → At cfg m tl f l s → s ≤ 120 → refusal_at cfg.stream l s lost-slot ≡ 0
      → Steps cfg m tl f lost-slot (arrival_by l s n lost-slot) l (suc s)
  unfolding refusal_at
  lost-step s a h e =
      let q = due-slot s 0 e in
      let x = slot_step cfg m tl f l (n - 1) s [] a q.0 true (λ z. let y : ◌≡◌ {A = ℕ} 0 1 = cc in absurd (omega arith)) in
      record {
        does = x.does;
        item = x.item;
        runs = x.runs;
        ran = ran-alone tl _ x.does (x.runs []);
        ended = ended-alone tl _ x.does (x.ends []);
        most = omega (arith, q.0);
      }

  pub call_step : (w : Letter) (b : List ℕ) (s : ℕ) → fits Reading w ≡ true → At cfg m tl f l s → s ≤ 120
      → refusal_at cfg.stream l s (command_call w b) ≡ 0
      → Steps cfg m tl f (command_call w b) (arrival_by l s n (command_call w b)) (layout_after cfg.stream l (command_call w b))
      (slot_after s (command_call w b))
  call_step Start b s h a g e = let y : ◌≡◌ {A = ℕ} 0 1 = cc in absurd (omega arith)
  call_step Frame b s h a g e = frame_step (drop 1 b) s a g e
  call_step LostFrame b s h a g e = loss_step s a g e
  call_step Slot b s h a g e = given-step (drop 3 b) s a g e
  call_step LostSlot b s h a g e = lost-step s a g e
  call_step Unknown b s h a g e = let y : ◌≡◌ {A = ℕ} 0 1 = cc in absurd (omega arith)
