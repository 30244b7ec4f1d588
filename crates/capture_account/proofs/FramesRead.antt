-- A capture of frames: its commands are read back, and what arrives by them is what arrives of the frames, whole or damaged.
use Prim.Native.Nat.{ℕ, suc, ◌+◌, ◌-◌, ◌<◌, ◌≤◌}
use mathlib.Core.Path.{◌≡◌, refl, sym, ap, ◌∙◌}
use mathlib.Core.Bool.{Bool, true, false, cond}
use mathlib.Core.List.{List, [], ◌∷◌, ◌++◌, map, append_assoc}
use native.Mathlib.Omega.{arith}
use lib.Dec.{eqb, leb}
use lib.ListN.{length, get_or, drop, length-append, get_or-append}
use lib.Seq.{take_at, drop_at, take_all}
use borrow.Author.Tests.{eq-eqb, eqb-true, lt-leb}
use Rattle.tmcc.specs.Layout.{Layout}
use Rattle.tmcc.specs.Layout.{blank_layout}
use Rattle.tmcc.specs.Block.{decode_of}
use Rattle.tmcc.proofs.Laws.{accepted as tmcc-accepted}
use Rattle.tlv.specs.Run.{Arrival, lost}
use Rattle.frames.specs.Slot.{wrong_length}
use Rattle.capture.specs.declared.command.Letter.TheVariants.{Start}
use Rattle.capture.specs.Command.{letter_of}
use Rattle.capture.proofs.CommandLaws.{size-by}
use Rattle.broadcast.specs.Account.{account}
use Rattle.broadcast.specs.Drains.{strip}
use Rattle.broadcast.specs.Calls.{Call, frame, lost-frame, slot, Todo}
use Rattle.broadcast.specs.Frames.{Frame, Whole, Damage, none, slot_call, slot_at, if_own, slots_todo, frame_todo, reading, arriving, slots_arrive, layout_in, frame_arrives, arrivals}
use Rattle.broadcast.proofs.SlotCalls.{SlotsFit}
use Rattle.broadcast.proofs.Reading.{FramesFit}
use Rattle.capture_account.specs.Events.{meaning_of, shown_in}
use Rattle.capture_account.specs.Calls.{command_calls, refusal_at, layout_after, slot_after, frames_after, arrival_by, arrivals_by, refusals_by}
use Rattle.capture_account.specs.Written.{calls_bytes, CanWriteAll, calls_in, frames_calls, CanWriteFrames, capture_bytes}
use Rattle.capture_account.specs.Claims.{config_in, Begins, Suffice}
use Rattle.capture_account.proofs.Accounts.{capture_accounts}
use Rattle.capture_account.proofs.Written.{calls-parsed}

-- an accepted call, and a refused one
module _ (stream : ℕ) (l : Layout) (s n : ℕ) (k : Call) (ks : List Call) where
  abbrev On : Type 0
  On =
      (arrivals_by stream l s n (k ∷ ks)
      ≡ arrival_by l s n k ++ arrivals_by stream (layout_after stream l k) (slot_after s k) (frames_after n k) ks)
      × (refusals_by stream l s (k ∷ ks) ≡ refusals_by stream (layout_after stream l k) (slot_after s k) ks)

  call-on : refusal_at stream l s k ≡ 0 → On
  unfolding arrivals_by refusals_by
  call-on e = let z = eq-eqb (refusal_at stream l s k) 0 e in (rw z, rw z)

  call_passes : refusals_by stream l s (k ∷ ks) ≡ [] → refusal_at stream l s k ≡ 0
  unfolding refusals_by
  call_passes e = go (eqb (refusal_at stream l s k) 0) refl e
    where
      go : (b : Bool) → eqb (refusal_at stream l s k) 0 ≡ b
          → cond b (refusals_by stream (layout_after stream l k) (slot_after s k) ks) (refusal_at stream l s k ∷ []) ≡ []
          → refusal_at stream l s k ≡ 0
      go true q h = eqb-true _ 0 q
      go false q h = let y : ◌≡◌ {A = ℕ} 0 1 = cc in absurd (omega arith)

-- a slot that is due, given with its length, or lost
slot_passes : (stream : ℕ) (l : Layout) (s : ℕ) (gone : Bool) (d : List ℕ) → s < 120
    → wrong_length (get_or l.lengths s 0) (length d) ≡ false
    → refusal_at stream l s (slot_call gone d) ≡ 0
unfolding refusal_at
slot_passes stream l s true d h w = rw (lt-leb 120 s h)
slot_passes stream l s false d h w = rw (lt-leb 120 s h, w)

slot-length : (stream : ℕ) (l : Layout) (s : ℕ) (d : List ℕ) → refusal_at stream l s (slot d) ≡ 0
    → wrong_length (get_or l.lengths s 0) (length d) ≡ false
unfolding refusal_at
slot-length stream l s d e = go (leb 120 s) (wrong_length (get_or l.lengths s 0) (length d)) e
  where
    go : (x y : Bool) → ◌≡◌ {A = ℕ} (cond x 20 (cond y 23 0)) 0 → y ≡ false
    go true y h = absurd (omega arith)
    go false true h = absurd (omega arith)
    go false false h = refl

slot_arrives : (l : Layout) (s i : ℕ) (gone : Bool) (d : List ℕ)
    → arrival_by l s (suc i) (slot_call gone d) ≡ if_own l s (arriving gone (i, s) (slot_at l s d))
slot_arrives l s i true d = refl
slot_arrives l s i false d = ap (λ (k : ℕ). if_own l s (arriving false (k, s) (slot_at l s d))) (omega arith)

slot-after : (stream : ℕ) (l : Layout) (s n : ℕ) (gone : Bool) (d : List ℕ)
    → (layout_after stream l (slot_call gone d) ≡ l) × (slot_after s (slot_call gone d) ≡ suc s) × (frames_after n (slot_call gone d) ≡ n)
slot-after stream l s n true d = (refl, refl, refl)
slot-after stream l s n false d = (refl, refl, refl)

module _ (stream : ℕ) where
  -- the slots of a frame
  slots_carry : (gone : ℕ → Bool) (i : ℕ) (l : Layout) (s : ℕ) (ds : List (List ℕ)) (ts : List Todo) → s + length ds ≡ 120 → SlotsFit l s ds
      → (arrivals_by stream l s (suc i) (calls_in (slots_todo gone s ds ++ ts))
      ≡ slots_arrive l gone i s ds ++ arrivals_by stream l 120 (suc i) (calls_in ts))
      × (refusals_by stream l s (calls_in (slots_todo gone s ds ++ ts)) ≡ refusals_by stream l 120 (calls_in ts))
  unfolding calls_in slots_todo slots_arrive
  slots_carry gone i l s [] ts n w = let e : s ≡ 120 = omega (arith, n) in (rw e, rw e)
  slots_carry gone i l s (d ∷ ds) ts n w =
      let c = call-on stream l s (suc i) (slot_call (gone s) d) (calls_in (slots_todo gone (suc s) ds ++ ts))
      (slot_passes stream l s (gone s) d (omega (arith, n)) w.0) in
      let a = slot-after stream l s (suc i) (gone s) d in
      let r = slots_carry gone i l (suc s) ds ts (omega (arith, n)) w.1 in (
        c.0 ∙ rw (a.0, a.1, a.2, slot_arrives l s i (gone s) d, r.0)
            (sym (append_assoc (if_own l s (arriving (gone s) (i, s) (slot_at l s d))) (slots_arrive l gone i (suc s) ds)
            (arrivals_by stream l 120 (suc i) (calls_in ts)))),
        c.1 ∙ rw (a.0, a.1) r.1,
      )

  slots_told : (i : ℕ) (l : Layout) (s : ℕ) (ds : List (List ℕ)) (ts : List Todo) → s + length ds ≡ 120
      → refusals_by stream l s (calls_in (slots_todo (none.slots i) s ds ++ ts)) ≡ [] → SlotsFit l s ds
  unfolding calls_in slots_todo
  slots_told i l s [] ts n e = tt
  slots_told i l s (d ∷ ds) ts n e =
      let z = call_passes stream l s 0 (slot d) (calls_in (slots_todo (none.slots i) (suc s) ds ++ ts)) e in
      let w = slot-length stream l s d z in
      let c = call-on stream l s 0 (slot d) (calls_in (slots_todo (none.slots i) (suc s) ds ++ ts)) z in
      (w, slots_told i l (suc s) ds ts (omega (arith, n)) (sym c.1 ∙ e))

  frame_passes : (l : Layout) (b : List ℕ) → (decode_of b stream).refusal ≡ 0 → refusal_at stream l 120 (frame b) ≡ 0
  unfolding refusal_at
  frame_passes l b e = rw (eq-eqb _ _ (tmcc-accepted b stream e).size, e)

  frame_decodes : (l : Layout) (b : List ℕ) → refusal_at stream l 120 (frame b) ≡ 0 → (decode_of b stream).refusal ≡ 0
  unfolding refusal_at
  frame_decodes l b e = go (eqb (length b) 1178) e
    where
      go : (x : Bool) → cond x (decode_of b stream).refusal 10 ≡ 0 → (decode_of b stream).refusal ≡ 0
      go true h = h
      go false h = absurd (omega arith)

  loss_passes : (l : Layout) → refusal_at stream l 120 lost-frame ≡ 0
  unfolding refusal_at
  loss_passes l = refl

  -- frames, whole or damaged
  abbrev pub Carries : Damage → ℕ → List Frame → Layout → List Call → Type 0
  Carries d i fs l ks =
      (arrivals_by stream l 120 i ks ≡ arrivals stream d i fs) × (refusals_by stream l 120 ks ≡ [])

  frame-carries : (d : Damage) (i : ℕ) (f : Frame) (fs : List Frame) (l : Layout) (gone : Bool) → (decode_of f.block stream).refusal ≡ 0
      → length f.slots ≡ 120 → SlotsFit (layout_in stream f) 0 f.slots
      → ((l' : Layout) → Carries d (suc i) fs l' (frames_calls d (suc i) fs))
      → (arrivals_by stream l 120 i (calls_in (frame_todo gone (d.slots i) f ++ reading d (suc i) fs))
      ≡ frame_arrives gone (layout_in stream f) (d.slots i) i f.slots ++ arrivals stream d (suc i) fs)
      × (refusals_by stream l 120 (calls_in (frame_todo gone (d.slots i) f ++ reading d (suc i) fs)) ≡ [])
  unfolding calls_in
  frame-carries d i f fs l true e n w again =
      let c = call-on stream l 120 i lost-frame (frames_calls d (suc i) fs) (loss_passes l) in
      let r = again l in
      (c.0 ∙ ap (λ (x : List (Arrival (ℕ × ℕ))). lost ∷ x) r.0, c.1 ∙ r.1)
  frame-carries d i f fs l false e n w again =
      let ts = reading d (suc i) fs in
      let l' = layout_in stream f in
      let ss = calls_in (slots_todo (d.slots i) 0 f.slots ++ ts) in
      let c = call-on stream l 120 i (frame f.block) ss (frame_passes l f.block e) in
      let s = slots_carry (d.slots i) i l' 0 f.slots ts (omega (arith, n)) w in
      let r = again l' in
      (c.0 ∙ s.0 ∙ ap (λ (x : List (Arrival (ℕ × ℕ))). slots_arrive l' (d.slots i) i 0 f.slots ++ x) r.0, c.1 ∙ s.1 ∙ r.1)

  pub frames_carry : (d : Damage) (i : ℕ) (fs : List Frame) (l : Layout) → FramesFit stream fs → Carries d i fs l (frames_calls d i fs)
  unfolding calls_in reading arrivals
  frames_carry d i [] l w = (unfold arrivals_by in refl, unfold refusals_by in refl)
  frames_carry d i (f ∷ fs) l w =
      frame-carries d i f fs l (d.frames i) w.0 w.1 w.2 (λ l'. frames_carry d (suc i) fs l' w.3)

  -- an undamaged capture that is not refused tells that they fit
  pub frames-fit : (i : ℕ) (fs : List Frame) (l : Layout) → Whole fs → refusals_by stream l 120 (frames_calls none i fs) ≡ []
      → FramesFit stream fs
  unfolding calls_in reading
  frames-fit i [] l n e = tt
  frames-fit i (f ∷ fs) l n e =
      let ts = reading none (suc i) fs in
      let l' = layout_in stream f in
      let ss = calls_in (slots_todo (none.slots i) 0 f.slots ++ ts) in
      let z = call_passes stream l 120 i (frame f.block) ss e in
      let c = call-on stream l 120 i (frame f.block) ss z in
      let h = sym c.1 ∙ e in
      let w = slots_told i l' 0 f.slots ts (omega (arith, n.0)) h in
      let s = slots_carry (none.slots i) i l' 0 f.slots ts (omega (arith, n.0)) w in
      (frame_decodes l f.block z, n.0, w, frames-fit (suc i) fs l' n.1 (sym s.1 ∙ h))

-- where the commands of frames can be written, so can those of damaged ones
slot-fits : (b : Bool) (d : List ℕ) (ks : List Call) → length d ≤ 65535 → CanWriteAll ks → CanWriteAll (slot_call b d ∷ ks)
slot-fits true d ks h k = (tt, k)
slot-fits false d ks h k = (h, k)

module _ (i : ℕ) (ts : List Todo) where
  slots-left : (s : ℕ) (ds : List (List ℕ)) → CanWriteAll (calls_in (slots_todo (none.slots i) s ds ++ ts)) → CanWriteAll (calls_in ts)
  unfolding calls_in slots_todo
  slots-left s [] h = h
  slots-left s (d ∷ ds) h = slots-left (suc s) ds h.1

  slots-fit : (gone : ℕ → Bool) (us : List Todo) (s : ℕ) (ds : List (List ℕ)) → (CanWriteAll (calls_in ts) → CanWriteAll (calls_in us))
      → CanWriteAll (calls_in (slots_todo (none.slots i) s ds ++ ts)) → CanWriteAll (calls_in (slots_todo gone s ds ++ us))
  unfolding calls_in slots_todo
  slots-fit gone us s [] k h = k h
  slots-fit gone us s (d ∷ ds) k h =
      slot-fits (gone s) d (calls_in (slots_todo gone (suc s) ds ++ us)) h.0 (slots-fit gone us (suc s) ds k h.1)

  frame-fits : (b : Bool) (gone : ℕ → Bool) (us : List Todo) (f : Frame) → (CanWriteAll (calls_in ts) → CanWriteAll (calls_in us))
      → CanWriteAll (calls_in (frame_todo false (none.slots i) f ++ ts)) → CanWriteAll (calls_in (frame_todo b gone f ++ us))
  unfolding calls_in
  frame-fits true gone us f k h = (tt, k (slots-left 0 f.slots h.1))
  frame-fits false gone us f k h = (h.0, slots-fit gone us 0 f.slots k h.1)

calls-fit : (d : Damage) (i : ℕ) (fs : List Frame) → CanWriteAll (frames_calls none i fs) → CanWriteAll (frames_calls d i fs)
unfolding reading
calls-fit d i [] h = h
calls-fit d i (f ∷ fs) h =
    frame-fits i (reading none (suc i) fs) (d.frames i) (d.slots i) (reading d (suc i) fs) f (calls-fit d (suc i) fs) h

-- a capture behind C
module _ (start : List ℕ) (size : length start ≡ 42) (s : Begins start) (d : Damage) (fs : List Frame) (z : CanWriteFrames fs) where
  pub config-same : config_in (capture_bytes start d fs) ≡ config_in start
  unfolding capture_bytes
  config-same = rw (take_at start (calls_bytes (frames_calls d 0 fs)) 42 size, take_all 42 start (omega (arith, size)))

  letter-same : letter_of (get_or (capture_bytes start d fs) 0 0) ≡ Start
  unfolding capture_bytes
  letter-same = ap letter_of (get_or-append start (calls_bytes (frames_calls d 0 fs)) 0 0 (omega (arith, size))) ∙ s.has_c.first

  pub calls_same : command_calls (capture_bytes start d fs) ≡ frames_calls d 0 fs
  unfolding command_calls
  calls_same =
      let b = capture_bytes start d fs in
      let ks = frames_calls d 0 fs in
      let e : drop 42 b ≡ calls_bytes ks = unfold capture_bytes in drop_at start (calls_bytes ks) 42 size in
      let n : length b ≡ length start + length (calls_bytes ks) = unfold capture_bytes in length-append start (calls_bytes ks) in
      rw (size-by b Start letter-same, e) (calls-parsed ks (length b - 1) (calls-fit d 0 fs z) (omega (arith, n, size)))

  long_same : 42 ≤ length (capture_bytes start d fs)
  unfolding capture_bytes
  long_same = omega (arith, length-append start (calls_bytes (frames_calls d 0 fs)), size)

  pub begins-same : Begins (capture_bytes start d fs)
  begins-same =
      record { has_c = record { first = letter-same; long = long_same }; accepted = rw config-same s.accepted }

  pub accounts-same : (p c : List ℕ) → Suffice (config_in start) p c
      → (shown_in (meaning_of p c (capture_bytes start d fs)).events
      ≡ map strip (account (config_in start) (arrivals_by (config_in start).stream blank_layout 120 0 (frames_calls d 0 fs))))
      × ((meaning_of p c (capture_bytes start d fs)).refusal
      ≡ refusals_by (config_in start).stream blank_layout 120 (frames_calls d 0 fs))
  accounts-same p c h =
      let b = capture_bytes start d fs in
      let a = capture_accounts p c b begins-same (rw config-same h) in
      (rw (config-same, calls_same) at a.accounted, rw (config-same, calls_same) at a.refusal)
