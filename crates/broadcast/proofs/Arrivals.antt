-- What arrives of frames beside their own live slots: undamaged, all of them; damaged, those that are not lost.
use Prim.Native.Nat.{ℕ, zero, suc, ◌+◌, ◌<◌, ◌≤◌}
use mathlib.Core.Path.{◌≡◌, refl, sym, ap, ◌∙◌, subst}
use mathlib.Core.Bool.{Bool, true, false, cond}
use mathlib.Core.List.{List, [], ◌∷◌, ◌++◌, append_assoc}
use native.Mathlib.Omega.{arith}
use lib.ListN.{length, get_or, replicate}
use Rattle.tmcc.specs.Layout.{Layout}
use Rattle.tmcc.specs.Count.{count_below}
use Rattle.tmcc.specs.Block.{decode_of, own_stream}
use Rattle.tmcc.specs.Stream.{own_slot}
use Rattle.tmcc.specs.Mode.{slot_length}
use Rattle.tmcc.proofs.Laws.{accepted, accepted-layout, layout-own, layout-length, own-live}
use Rattle.tlv.specs.Run.{Slot, Arrival, lost, given, intact, damaged, arrival}
use Rattle.tlv.specs.Claims.{Filled}
use Rattle.reassembly.specs.declared.config.Config.{Config}
use Rattle.broadcast.specs.Account.{account}
use Rattle.broadcast.specs.Frames.{
  Frame,
  Damage,
  none,
  slot_at,
  if_own,
  slots_from,
  layout_in,
  own_slots,
  arriving,
  slots_arrive,
  frame_arrives,
  arrivals,
}
use Rattle.broadcast.specs.Demand3.{kept}
use Rattle.broadcast.proofs.AccountLoss.{lost_many}
use Rattle.frames.proofs.SlotLaws.{right-length}
use Rattle.broadcast.proofs.SlotCalls.{SlotsFit}
use Rattle.broadcast.proofs.Reading.{FramesFit}

intact-append : {A : Type 0} (a b : List (A × Slot)) → intact (a ++ b) ≡ intact a ++ intact b
intact-append [] b = refl
intact-append (x ∷ a) b = ap (λ r. given x.0 x.1 ∷ r) (intact-append a b)

damaged-append : {A : Type 0} (keep : A → Bool) (a b : List (A × Slot)) → damaged keep (a ++ b) ≡ damaged keep a ++ damaged keep b
damaged-append keep [] b = refl
damaged-append keep (x ∷ a) b = ap (λ r. arrival (keep x.0) x ∷ r) (damaged-append keep a b)

filled-append : {A : Type 0} (a b : List (A × Slot)) → Filled a → Filled b → Filled (a ++ b)
filled-append [] b h k = k
filled-append (x ∷ a) b h k = (h.0, filled-append a b h.1 k)

-- undamaged
slots-intact : (l : Layout) (i s : ℕ) (ds : List (List ℕ)) → slots_arrive l (λ k. false) i s ds ≡ intact (slots_from l i s ds)
unfolding slots_arrive slots_from
slots-intact l i s [] = refl
slots-intact l i s (d ∷ ds) =
    ap (λ r. if_own l s (given (i, s) (slot_at l s d)) ++ r) (slots-intact l i (suc s) ds)
    ∙ go (get_or l.own s false)
  where
    rest : List ((ℕ × ℕ) × Slot)
    rest = slots_from l i (suc s) ds

    go : (b : Bool)
        → cond b (given (i, s) (slot_at l s d) ∷ []) [] ++ intact rest ≡ intact (cond b (((i, s), slot_at l s d) ∷ []) [] ++ rest)
    go true = refl
    go false = refl

pub frames-intact : (stream i : ℕ) (fs : List Frame) → arrivals stream none i fs ≡ intact (own_slots stream i fs)
unfolding arrivals own_slots
frames-intact stream i [] = refl
frames-intact stream i (f ∷ fs) =
    let l = layout_in stream f in
    ap (λ r. r ++ arrivals stream none (suc i) fs) (slots-intact l i 0 f.slots)
    ∙ ap (λ r. intact (slots_from l i 0 f.slots) ++ r) (frames-intact stream (suc i) fs)
    ∙ sym (intact-append (slots_from l i 0 f.slots) (own_slots stream (suc i) fs))

-- a frame that is not reported lost
slots-damaged : (d : Damage) (l : Layout) (i s : ℕ) (ds : List (List ℕ)) → d.frames i ≡ false
    → slots_arrive l (d.slots i) i s ds ≡ damaged (kept d) (slots_from l i s ds)
unfolding slots_arrive slots_from
slots-damaged d l i s [] e = refl
slots-damaged d l i s (x ∷ ds) e =
    ap (λ r. if_own l s (arriving (d.slots i s) (i, s) (slot_at l s x)) ++ r) (slots-damaged d l i (suc s) ds e)
    ∙ go (get_or l.own s false) (d.slots i s) refl
  where
    rest : List ((ℕ × ℕ) × Slot)
    rest = slots_from l i (suc s) ds

    go : (b g : Bool) → d.slots i s ≡ g
        → cond b (arriving g (i, s) (slot_at l s x) ∷ []) [] ++ damaged (kept d) rest
        ≡ damaged (kept d) (cond b (((i, s), slot_at l s x) ∷ []) [] ++ rest)
    go true true q = rw (e, q)
    go true false q = rw (e, q)
    go false g q = refl

-- a frame that is reported lost
all-lost : (d : Damage) (l : Layout) (i s : ℕ) (ds : List (List ℕ)) → d.frames i ≡ true
    → damaged (kept d) (slots_from l i s ds) ≡ replicate (length (slots_from l i s ds)) lost
unfolding slots_from
all-lost d l i s [] e = refl
all-lost d l i s (x ∷ ds) e = go (get_or l.own s false) (all-lost d l i (suc s) ds e)
  where
    rest : List ((ℕ × ℕ) × Slot)
    rest = slots_from l i (suc s) ds

    go : (b : Bool) → damaged (kept d) rest ≡ replicate (length rest) lost
        → damaged (kept d) (cond b (((i, s), slot_at l s x) ∷ []) [] ++ rest)
        ≡ replicate (length (cond b (((i, s), slot_at l s x) ∷ []) [] ++ rest)) lost
    go true h = rw (e, h)
    go false h = h

-- an accepted frame has an own live slot
none-own : (l : Layout) (i s : ℕ) (ds : List (List ℕ)) → length (slots_from l i s ds) ≡ 0 → (k : ℕ) → k < length ds
    → get_or l.own (s + k) false ≡ false
unfolding slots_from
none-own l i s [] e k h = absurd (omega arith)
none-own l i s (x ∷ ds) e k h = go (get_or l.own s false) refl k (none-own l i (suc s) ds) e h
  where
    rest : List ((ℕ × ℕ) × Slot)
    rest = slots_from l i (suc s) ds

    go : (b : Bool) → get_or l.own s false ≡ b → (k : ℕ)
        → (length rest ≡ 0 → (j : ℕ) → j < length ds → get_or l.own (suc s + j) false ≡ false)
        → length (cond b (((i, s), slot_at l s x) ∷ []) [] ++ rest) ≡ 0 → k < suc (length ds) → get_or l.own (s + k) false ≡ false
    go true q k ih e h = absurd (omega arith)
    go false q zero ih e h = subst (λ (j : ℕ). get_or l.own j false ≡ false) (omega arith) q
    go false q (suc k) ih e h = subst (λ (j : ℕ). get_or l.own j false ≡ false) (omega arith) (ih e k (omega arith))

count_none : (p : ℕ → Bool) (n : ℕ) → ((k : ℕ) → k < n → p k ≡ false) → count_below p n ≡ 0
unfolding count_below
count_none p zero h = refl
count_none p (suc n) h = rw (h n (omega arith)) (count_none p n (λ k q. h k (omega arith)))

module _ (stream : ℕ) (f : Frame) (e : (decode_of f.block stream).refusal ≡ 0) where
  own : ℕ
  own = own_stream f.block stream

  own_there : (s : ℕ) → s < 120 → get_or (layout_in stream f).own s false ≡ own_slot f.block own s
  unfolding own
  own_there s h = rw (accepted-layout f.block stream e) (layout-own f.block own s h)

  length_there : (s : ℕ) → s < 120 → get_or (layout_in stream f).lengths s 0 ≡ slot_length f.block s
  unfolding own
  length_there s h = rw (accepted-layout f.block stream e) (layout-length f.block own s h)

  some-slot : (i : ℕ) → length f.slots ≡ 120 → length (slots_from (layout_in stream f) i 0 f.slots) ≡ 0 → ⊥
  unfolding own
  some-slot i n z =
      (accepted f.block stream e).some
      (count_none (own_slot f.block own) 120
      (λ k h. sym (own_there k h) ∙ subst (λ (j : ℕ). get_or (layout_in stream f).own j false ≡ false) (omega arith)
      (none-own (layout_in stream f) i 0 f.slots z k (omega (arith, n)))))

  slots_filled : (i s : ℕ) (ds : List (List ℕ)) → s + length ds ≤ 120 → SlotsFit (layout_in stream f) s ds
      → Filled (slots_from (layout_in stream f) i s ds)
  unfolding slots_from
  slots_filled i s [] n w = tt
  slots_filled i s (x ∷ ds) n w =
      filled-append (if_own l s ((i, s), slot_at l s x)) (slots_from l i (suc s) ds) (go (get_or l.own s false) refl)
      (slots_filled i (suc s) ds (omega arith) w.1)
    where
      l : Layout
      l = layout_in stream f

      go : (b : Bool) → get_or l.own s false ≡ b → Filled {A = ℕ × ℕ} (cond b (((i, s), slot_at l s x) ∷ []) [])
      go true q =
          let live = own-live f.block own s (sym (own_there s (omega arith)) ∙ q) in
          (omega (arith, (right-length _ _ w.0).1, length_there s (omega arith), live), tt)
      go false q = tt

pub frames-filled : (stream i : ℕ) (fs : List Frame) → FramesFit stream fs → Filled (own_slots stream i fs)
unfolding own_slots
frames-filled stream i [] w = tt
frames-filled stream i (f ∷ fs) w =
    filled-append (slots_from (layout_in stream f) i 0 f.slots) (own_slots stream (suc i) fs)
    (slots_filled stream f w.0 i 0 f.slots (omega (arith, w.1)) w.2) (frames-filled stream (suc i) fs w.3)

-- a lost frame's one lost slot stands for all of its own live slots
module _ (cfg : Config) (stream : ℕ) (d : Damage) where
  frame-account : (i : ℕ) (f : Frame) (gone : Bool) → d.frames i ≡ gone → (decode_of f.block stream).refusal ≡ 0
      → length f.slots ≡ 120 → (pre post : List (Arrival (ℕ × ℕ)))
      → account cfg (pre ++ (frame_arrives gone (layout_in stream f) (d.slots i) i f.slots ++ post))
      ≡ account cfg (pre ++ (damaged (kept d) (slots_from (layout_in stream f) i 0 f.slots) ++ post))
  frame-account i f false q e n pre post =
      ap (λ r. account cfg (pre ++ (r ++ post))) (slots-damaged d (layout_in stream f) i 0 f.slots q)
  frame-account i f true q e n pre post = go (length (slots_from l i 0 f.slots)) refl
    where
      l : Layout
      l = layout_in stream f

      go : (k : ℕ) → length (slots_from l i 0 f.slots) ≡ k
          → account cfg (pre ++ (lost ∷ post)) ≡ account cfg (pre ++ (damaged (kept d) (slots_from l i 0 f.slots) ++ post))
      go zero h = absurd (some-slot stream f e i n h)
      go (suc k) h =
          sym (lost_many (ℕ × ℕ) cfg k pre post)
          ∙ ap (λ r. account cfg (pre ++ (r ++ post))) (sym (all-lost d l i 0 f.slots q ∙ ap (λ j. replicate j lost) h))

  frames-account : (i : ℕ) (fs : List Frame) → FramesFit stream fs → (pre : List (Arrival (ℕ × ℕ)))
      → account cfg (pre ++ arrivals stream d i fs) ≡ account cfg (pre ++ damaged (kept d) (own_slots stream i fs))
  unfolding arrivals own_slots
  frames-account i [] w pre = refl
  frames-account i (f ∷ fs) w pre =
      let a = damaged (kept d) (slots_from (layout_in stream f) i 0 f.slots) in
      frame-account i f (d.frames i) refl w.0 w.1 pre (arrivals stream d (suc i) fs)
      ∙ ap (account cfg) (sym (append_assoc pre a (arrivals stream d (suc i) fs)))
      ∙ frames-account (suc i) fs w.3 (pre ++ a)
      ∙ ap (account cfg) (append_assoc pre a (damaged (kept d) (own_slots stream (suc i) fs)))
      ∙ ap (λ r. account cfg (pre ++ r))
      (sym (damaged-append (kept d) (slots_from (layout_in stream f) i 0 f.slots) (own_slots stream (suc i) fs)))

  pub damage_account : (i : ℕ) (fs : List Frame) → FramesFit stream fs
      → account cfg (arrivals stream d i fs) ≡ account cfg (damaged (kept d) (own_slots stream i fs))
  damage_account i fs w = frames-account i fs w []
