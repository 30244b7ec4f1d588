-- With memories that do not suffice a capture has no event, and is refused at the first slot that is due or after the first X.
use Prim.Native.Nat.{ℕ, zero, suc, ◌-◌, ◌%◌, ◌^◌}
use mathlib.Core.Path.{◌≡◌, refl, sym, ap, ◌∙◌}
use mathlib.Core.Bool.{Bool, true, false, cond, and-false, or-false}
use mathlib.Core.List.{List, [], ◌∷◌}
use native.Mathlib.Omega.{arith}
use lib.Dec.{eqb, ltb, leb}
use lib.ListN.{length, get_or, take, drop}
use borrow.Author.Tests.{eqb-true, eqb-false, ne_eqb, ltb-false}
use Rattle.tmcc.specs.Block.{decode_of}
use Rattle.reassembly.specs.declared.config.Config.{Config}
use Rattle.wire.proofs.Choice.{neither}
use Rattle.words.specs.Config.{kept_config}
use Rattle.state.specs.State.{Called, State, with_frame, refused as refusedWith, accepted as acceptedAs}
use Rattle.state.specs.Start.{fresh_state}
use Rattle.frames.specs.Frame.{frame_busy, frame_of, loss_of, lost_frame_of}
use Rattle.frames.proofs.FrameLaws.{frame-short, frame-busy, frame_refused, frame-accepted, lost-frame-busy, lost-frame-accepted}
use Rattle.frames.specs.Slot.{short_by, slot_refusal}
use Rattle.frames.proofs.SlotLaws.{slot-refused, lost-refused}
use Rattle.receiver.proofs.NextLaws.{next-short}
use Rattle.capture.specs.declared.command.Letter.{Letter}
use Rattle.capture.specs.declared.command.Letter.TheVariants.{Start, Frame, LostFrame, Slot, LostSlot, Unknown}
use Rattle.capture.specs.declared.session.Phase.TheVariants.{Reading, Ended}
use Rattle.capture.specs.Session.{Session, fresh_session}
use Rattle.capture.specs.declared.session.Tally.{Tally}
use Rattle.capture.specs.Command.{letter_of, size_of, whole}
use Rattle.capture.specs.Capture.{fits, call_of, closed, tallied, drained_by, drained_of}
use Rattle.capture.proofs.Drains.{drain-idle}
use Rattle.capture.proofs.Texts.{whole-size}
use Rattle.broadcast.proofs.Demand3.{start-accepted}
use Rattle.capture_account.specs.Events.{Meaning, Waited, waited_by, waited_of, meaning_by, meaning_of}
use Rattle.broadcast.specs.Calls.{Call, frame, lost-frame, slot, lost-slot}
use Rattle.capture_account.specs.Calls.{call_then, command_calls_by, command_calls, slot_after, short_at, short_refusals_by, short_frames_by}
use Rattle.capture_account.specs.Claims.{config_in, Begins, Suffice, NoneShown, CaptureShort}
use Rattle.capture_account.proofs.Drains.{session}
use Rattle.capture_account.proofs.Steps.{command_call, tally_after}
use Rattle.capture_account.proofs.Accounts.{front-letter, done-unfit, done_refused, done-accepted, after-reads, behind-fits, behind-unfit, calls-none, calls-some, onward, onward_stops, idle_waited, mean_step, start_means, started-session}

-- no event, these refusals, and so many frames
abbrev Says : Meaning → List ℕ → ℕ → Type 0
Says m rs n = (m.events ≡ []) × (m.refusal ≡ rs) × (m.tally.frames ≡ n % 2 ^ 64)

-- an accepted call, and a refused one
module _ (stream s : ℕ) (k : Call) (ks : List Call) where
  short_on : short_at stream s k ≡ 0 → short_refusals_by stream s (k ∷ ks) ≡ short_refusals_by stream (slot_after s k) ks
  unfolding short_refusals_by
  short_on e = rw e

  short-stops : short_at stream s k ≡ 22 → short_refusals_by stream s (k ∷ ks) ≡ 22 ∷ []
  unfolding short_refusals_by
  short-stops e = rw e

loss_at : (stream s : ℕ) (z : Bool) → ltb s 120 ≡ z → short_at stream s lost-frame ≡ cond z 11 22
unfolding short_at
loss_at stream s z e = rw e

-- and the frames
module _ (stream s n : ℕ) (ks : List Call) where
  frames-on : (b : List ℕ) → short_at stream s (frame b) ≡ 0
      → short_frames_by stream s n (frame b ∷ ks) ≡ short_frames_by stream 0 (suc n) ks
  unfolding short_frames_by
  frames-on b e = rw e

  frames_stop : (b : List ℕ) (m : ℕ) → short_at stream s (frame b) ≡ m → eqb m 0 ≡ false → short_frames_by stream s n (frame b ∷ ks) ≡ n
  unfolding short_frames_by
  frames_stop b m e z = rw (e, z)

  loss_frames : (z : Bool) → ltb s 120 ≡ z → short_frames_by stream s n (lost-frame ∷ ks) ≡ cond z n (suc n)
  unfolding short_frames_by
  loss_frames z e = rw e

  slot-frames : (d : List ℕ) → short_frames_by stream s n (slot d ∷ ks) ≡ n
  unfolding short_frames_by
  slot-frames d = refl

  lost-frames : short_frames_by stream s n (lost-slot ∷ ks) ≡ n
  unfolding short_frames_by
  lost-frames = refl

module _ (p c : List ℕ) where
  abbrev Lacks : State → Type 0
  Lacks st = short_by st.config (length p) (length c) ≡ true

  -- next is owed: it is refused, and the capture ends
  module _ (st : State) (t : Tally) (h : Lacks st) (o : st.owed ≡ true) where
    waited_refused : waited_of (session st t) p c ≡ record { events = []; refusals = 22 ∷ [] }
    unfolding waited_of waited_by
    waited_refused = rw (next-short st p c h, o)

    drained_ended : (drained_of (session st t) p c).session.phase ≡ Ended
    unfolding drained_of drained_by closed
    drained_ended = rw (next-short st p c h, o)

    drained_frames : (drained_of (session st t) p c).session.tally.frames ≡ t.frames
    unfolding drained_of drained_by closed tallied
    drained_frames = rw (next-short st p c h, o)

    owed-says : (f : ℕ) (b : List ℕ) (n : ℕ) → t.frames ≡ n % 2 ^ 64 → Says (meaning_by f (session st t) p c b) (22 ∷ []) n
    unfolding meaning_by
    owed-says zero b n e = rw waited_refused (refl, refl, drained_frames ∙ e)
    owed-says (suc f) b n e = rw (waited_refused, drained_ended, and-false (whole b)) (refl, refl, drained_frames ∙ e)

  -- from a session that owes nothing
  abbrev Again : ℕ → Type 0
  Again f =
      (st : State) (t : Tally) (b : List ℕ) (n : ℕ) → Lacks st → st.owed ≡ false → t.frames ≡ n % 2 ^ 64
      → Says (meaning_by f (session st t) p c b) (short_refusals_by st.config.stream st.frame.at (command_calls_by f b))
      (short_frames_by st.config.stream st.frame.at n (command_calls_by f b))

  module _ (f : ℕ) (again : Again f) (st : State) (t : Tally) (b : List ℕ) (n : ℕ) (h : Lacks st) (o : st.owed ≡ false)
      (fr : t.frames ≡ n % 2 ^ 64) (wh : whole b ≡ true) where
    x : List ℕ
    x = take (size_of b) b

    rest : List ℕ
    rest = drop (size_of b) b

    Goal : Letter → Type 0
    Goal w =
        Says (onward f (session st t) p c b) (short_refusals_by st.config.stream st.frame.at (call_then w x (command_calls_by f rest)))
        (short_frames_by st.config.stream st.frame.at n (call_then w x (command_calls_by f rest)))

    module _ (w : Letter) (lw : letter_of (get_or b 0 0) ≡ w) where
      letter : letter_of (get_or x 0 0) ≡ w
      unfolding x
      letter = ap letter_of (front-letter b (whole-size b wh).0) ∙ lw

      unfit : fits Reading w ≡ false → Goal w
      unfolding Goal onward x short_refusals_by short_frames_by
      unfit k =
          let d = done-unfit (session st t) p c x w letter k in
          rw (behind-unfit w x (command_calls_by f rest) k, wh, d.0, d.1) (refl, refl, fr)

      module _ (k : fits Reading w ≡ true) (r : Called) (e : call_of w st p c x ≡ (r, p)) where
        refuses : (eqb r.refusal 0 ≡ false) → short_at st.config.stream st.frame.at (command_call w x) ≡ r.refusal
            → short_frames_by st.config.stream st.frame.at n (command_call w x ∷ command_calls_by f rest) ≡ n → Goal w
        unfolding Goal onward x short_refusals_by
        refuses z m a =
            let d = done_refused (session st t) p c x w letter k r p e z in
            rw (behind-fits w x (command_calls_by f rest) k, a, wh, d.0, d.1, m, z) (refl, refl, fr)

        goes_on_lem : r.refusal ≡ 0 → onward f (session st t) p c b ≡ meaning_by f (session r.state (tally_after w r.state t)) p c rest
        unfolding onward x rest
        goes_on_lem z =
            let d = done-accepted (session st t) p c x w letter k r p e (rw z refl)
            ∙ ap (λ (y : Session). record { text = []; session = y; packet = p }) (after-reads w r.state t) in
            rw (wh, d)

        goes-says : r.refusal ≡ 0 → (rs : List ℕ) (m : ℕ)
            → short_refusals_by st.config.stream st.frame.at (command_call w x ∷ command_calls_by f rest) ≡ rs
            → short_frames_by st.config.stream st.frame.at n (command_call w x ∷ command_calls_by f rest) ≡ m
            → Says (meaning_by f (session r.state (tally_after w r.state t)) p c rest) rs m → Goal w
        unfolding Goal
        goes-says z rs m u v a = rw (behind-fits w x (command_calls_by f rest) k, goes_on_lem z, u, v) a

    busy-is : frame_busy st ≡ ltb st.frame.at 120
    unfolding frame_busy
    busy-is = rw o (or-false (ltb st.frame.at 120))

    slot-number : slot_refusal st (length p) (length c) ≡ cond (leb 120 st.frame.at) 20 22
    unfolding slot_refusal
    slot-number = rw (o, h)

    some_number : (y : Bool) → ◌≡◌ {A = ℕ} (cond y 20 22) 0 → ⊥
    some_number true e = omega arith
    some_number false e = omega arith

    refuses-slot : slot_refusal st (length p) (length c) ≡ 0 → ⊥
    refuses-slot e = some_number (leb 120 st.frame.at) (sym slot-number ∙ e)

    -- F
    module _ (lw : letter_of (get_or b 0 0) ≡ Frame) where
      block : List ℕ
      block = drop 1 x

      by-frame : (r : Called) → frame_of st block ≡ r → call_of Frame st p c x ≡ (r, p)
      unfolding call_of block
      by-frame r e = rw e

      frame-says : (y z d : Bool) → eqb (length block) 1178 ≡ y → frame_busy st ≡ z
          → eqb (decode_of block st.config.stream).refusal 0 ≡ d → Goal Frame
      unfolding block
      frame-says false z d ey ez ed =
          let m : short_at st.config.stream st.frame.at (frame block) ≡ 10 = unfold short_at in rw ey in
          refuses Frame lw refl (refusedWith 10 st) (by-frame _ (frame-short st block (eqb-false _ _ ey))) refl m
          (frames_stop _ _ n (command_calls_by f rest) block 10 m refl)
      frame-says true true d ey ez ed =
          let m : short_at st.config.stream st.frame.at (frame block) ≡ 11 =
          unfold short_at in rw (ey, sym busy-is ∙ ez) in
          refuses Frame lw refl (refusedWith 11 st) (by-frame _ (frame-busy st block (eqb-true _ _ ey) ez)) refl m
          (frames_stop _ _ n (command_calls_by f rest) block 11 m refl)
      frame-says true false false ey ez ed =
          let k = (decode_of block st.config.stream).refusal in
          let m : short_at st.config.stream st.frame.at (frame block) ≡ k =
          unfold short_at in rw (ey, sym busy-is ∙ ez) in
          refuses Frame lw refl (refusedWith k st) (by-frame _ (frame_refused st block (eqb-true _ _ ey) ez (eqb-false _ _ ed))) ed m
          (frames_stop _ _ n (command_calls_by f rest) block k m ed)
      frame-says true false true ey ez ed =
          let st' = with_frame st (record { layout = (decode_of block st.config.stream).layout; at = 0 }) in
          let e = by-frame _ (frame-accepted st block (eqb-true _ _ ey) ez (eqb-true _ _ ed)) in
          let m : short_at st.config.stream st.frame.at (frame block) ≡ 0 =
          unfold short_at in rw (ey, sym busy-is ∙ ez) (eqb-true _ _ ed) in
          goes-says Frame lw refl (acceptedAs st') e refl _ _ (short_on _ _ _ (command_calls_by f rest) m)
          (frames-on _ _ n (command_calls_by f rest) block m)
          (again st' (tally_after Frame st' t) rest (suc n) h o (omega (arith, fr)))

    -- X
    by_loss : (r : Called) → lost_frame_of st ≡ r → call_of LostFrame st p c x ≡ (r, p)
    unfolding call_of
    by_loss r e = rw e

    loss_lacks : Lacks (loss_of st)
    unfolding loss_of
    loss_lacks = h

    loss_owes : (loss_of st).owed ≡ true
    unfolding loss_of
    loss_owes = refl

    loss_says : letter_of (get_or b 0 0) ≡ LostFrame → (z : Bool) → frame_busy st ≡ z → Goal LostFrame
    loss_says lw true ez =
        let q : ltb st.frame.at 120 ≡ true = sym busy-is ∙ ez in
        refuses LostFrame lw refl (refusedWith 11 st) (by_loss _ (lost-frame-busy st ez)) refl (loss_at _ _ true q)
        (loss_frames _ _ n (command_calls_by f rest) true q)
    loss_says lw false ez =
        let q : ltb st.frame.at 120 ≡ false = sym busy-is ∙ ez in
        goes-says LostFrame lw refl (acceptedAs (loss_of st)) (by_loss _ (lost-frame-accepted st ez)) refl _ _
        (short-stops _ _ _ (command_calls_by f rest) (loss_at _ _ false q)) (loss_frames _ _ n (command_calls_by f rest) false q)
        (owed-says (loss_of st) (tally_after LostFrame (loss_of st) t) loss_lacks loss_owes f rest (suc n) (omega (arith, fr)))

    -- S and L
    slot-says : letter_of (get_or b 0 0) ≡ Slot → Goal Slot
    slot-says lw =
        refuses Slot lw refl (refusedWith (slot_refusal st (length p) (length c)) st)
        (unfold call_of in slot-refused st p c (drop 3 x) refuses-slot) (ne_eqb _ _ refuses-slot) (unfold short_at in sym slot-number)
        (slot-frames _ _ n (command_calls_by f rest) (drop 3 x))

    lost-says : letter_of (get_or b 0 0) ≡ LostSlot → Goal LostSlot
    lost-says lw =
        refuses LostSlot lw refl (refusedWith (slot_refusal st (length p) (length c)) st)
        (unfold call_of in ap (λ (r : Called). (r, p)) (lost-refused st (length p) (length c) refuses-slot)) (ne_eqb _ _ refuses-slot)
        (unfold short_at in sym slot-number) (lost-frames _ _ n (command_calls_by f rest))

    command-says : (w : Letter) → letter_of (get_or b 0 0) ≡ w → Goal w
    command-says Start lw = unfit Start lw refl
    command-says Frame lw = frame-says lw _ _ _ refl refl refl
    command-says LostFrame lw = loss_says lw _ refl
    command-says Slot lw = slot-says lw
    command-says LostSlot lw = lost-says lw
    command-says Unknown lw = unfit Unknown lw refl

  onward-says : (f : ℕ) → Again f → (st : State) (t : Tally) (b : List ℕ) (n : ℕ) → Lacks st → st.owed ≡ false
      → t.frames ≡ n % 2 ^ 64 → (wb : Bool) → whole b ≡ wb
      → Says (onward f (session st t) p c b) (short_refusals_by st.config.stream st.frame.at (command_calls_by (suc f) b))
      (short_frames_by st.config.stream st.frame.at n (command_calls_by (suc f) b))
  unfolding Goal x rest
  onward-says f again st t b n h o fr false e =
      rw (onward_stops f st t p c b e, calls-none f b e)
      (refl, unfold short_refusals_by in refl, unfold short_frames_by in fr)
  onward-says f again st t b n h o fr true e =
      rw (calls-some f b e) (command-says f again st t b n h o fr e (letter_of (get_or b 0 0)) refl)

  says : (f : ℕ) → Again f
  unfolding short_refusals_by short_frames_by
  says zero st t b n h o fr =
      unfold meaning_by in unfold command_calls_by in
      rw (idle_waited st t p c o, drain-idle (session st t) p c o) (refl, refl, fr)
  says (suc f) st t b n h o fr =
      let g = idle_waited st t p c o in
      rw (mean_step f (session st t) p c b (ap (λ (y : Waited). y.refusals) g), g, drain-idle (session st t) p c o)
      (onward-says f (says f) st t b n h o fr (whole b) refl)

pub short-shows : (p c b : List ℕ) → Begins b → short_by (kept_config (config_in b)) (length p) (length c) ≡ true → NoneShown p c b
unfolding meaning_of command_calls started-session fresh_state
short-shows p c b s h =
    let n : length b ≡ suc (length b - 1) = omega (arith, s.has_c.long) in
    let k = (start-accepted (config_in b) s.accepted).1 in
    let e = ap (λ (i : ℕ). meaning_by i fresh_session p c b) n ∙ start_means p c b s (length b - 1)
    ∙ ap (λ (st : State). meaning_by (length b - 1) (session st fresh_session.tally) p c (drop (size_of b) b)) k in
    let a = says p c (length b - 1) (fresh_state (config_in b)) fresh_session.tally (drop (size_of b) b) 0 h refl
    (unfold fresh_session in omega arith) in
    record {
      events = ap (λ (m : Meaning). m.events) e ∙ a.0;
      refusal = ap (λ (m : Meaning). m.refusal) e ∙ a.1;
      frames = ap (λ (m : Meaning). m.tally.frames) e ∙ a.2;
    }

pub enough : (cfg : Config) (p c : List ℕ) → short_by (kept_config cfg) (length p) (length c) ≡ false → Suffice cfg p c
unfolding short_by
enough cfg p c h = let w = neither _ _ h in record { packet = ltb-false _ _ w.0; collecting = ltb-false _ _ w.1 }

pub capture_short : CaptureShort
capture_short p c b s n = go (short_by (kept_config (config_in b)) (length p) (length c)) refl
  where
    go : (x : Bool) → short_by (kept_config (config_in b)) (length p) (length c) ≡ x → NoneShown p c b
    go true h = short-shows p c b s h
    go false h = absurd (n (enough (config_in b) p c h))
