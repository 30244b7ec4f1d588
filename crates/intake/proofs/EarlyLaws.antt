-- Laws of specs/Early.antt.
use Prim.Native.Nat.{ℕ, ◌+◌, ◌-◌, ◌<◌, ◌≤◌}
use Rattle.std.specs.Prelude.{◌≡◌, refl, Bool, true, false, cond, ◌||◌, List, ◌++◌, ltb, length, get_or, drop}
use Rattle.std.proofs.Common.{sym, ◌∙◌, inl, inr, ltb-true, ltb-false, length-drop, take-append-drop, ext_get_or, get_or-append-add, length-take-le}
use Rattle.std.proofs.Math.Path.{ap}
use native.Mathlib.Omega.{arith}
use Rattle.std.proofs.Math.ListN.{take, get_or-append}
use Rattle.std.proofs.Math.Seq.{get_or-take, get_or-drop, length_paste_head, drop-drop}
use Rattle.std.proofs.lemmas.List.Edits.{drop-paste}
use Rattle.wire.specs.Memory.{part_of, pasted}
use Rattle.wire.proofs.MemoryLaws.{pasted-append, length-pasted}
use Rattle.wire.specs.Words.{Beside}
use Rattle.intake.specs.declared.held.Held.{Held}
use Rattle.intake.specs.Slot.{slot_area, held_bytes, held_len, moved_mem, continued_mem}
use Rattle.intake.specs.Early.{free_part}

-- Laws.
module _ (h : Held) (n : ℕ) where
  pub free_all : h.on ≡ false → free_part h n ≡ n
  unfolding free_part
  free_all o = rw o

  module _ (o : h.on ≡ true) where
    pub free-none : (ltb h.start slot_area || ltb slot_area h.len) ≡ true → free_part h n ≡ 0
    unfolding free_part
    free-none e = rw (o, e)

    pub free-below : (ltb h.start slot_area || ltb slot_area h.len) ≡ false
        → free_part h n ≡ cond (ltb n (h.start - slot_area)) n (h.start - slot_area)
    unfolding free_part
    free-below e = rw (o, e)

-- a memory with bytes put in, byte by byte
module _ (d : List ℕ) (at : ℕ) (s : List ℕ) (n : ℕ) (hd : at + n ≤ length d) (hs : n ≤ length s) where
  pub pasted_beside : (i : ℕ) → Beside i at n → get_or (pasted d at s n) i 0 ≡ get_or d i 0
  unfolding pasted
  pasted_beside i (inl h) =
      get_or-append (take at d ++ take n s) (drop (at + n) d) 0 i
      (rw (length_paste_head d at s n (omega arith) hs) (omega arith))
      ∙ get_or-append (take at d) (take n s) 0 i (rw (length-take-le at d (omega arith)) h)
      ∙ get_or-take at d i 0 h
  pasted_beside i (inr h) =
      let j : ℕ = i - (at + n) in
      let e : i ≡ at + n + j = omega arith in
      let l = length_paste_head d at s n (omega arith) hs in
      rw e
      (rw l at (get_or-append-add (take at d ++ take n s) (drop (at + n) d) j 0) ∙ get_or-drop (at + n) d j 0)

  pub pasted-inside : (j : ℕ) → j < n → get_or (pasted d at s n) (at + j) 0 ≡ get_or s j 0
  unfolding pasted
  pasted-inside j h =
      get_or-append (take at d ++ take n s) (drop (at + n) d) 0 (at + j)
      (rw (length_paste_head d at s n (omega arith) hs) (omega arith))
      ∙ rw (length-take-le at d (omega arith)) at (get_or-append-add (take at d) (take n s) j 0)
      ∙ get_or-take n s j 0 h

-- bytes put in at two places, one below the other, in either order
module _ (m : List ℕ) (a : ℕ) (s : List ℕ) (x : ℕ) (b : ℕ) (u : List ℕ) (y : ℕ) (ab : a + x ≤ b) (hm : b + y ≤ length m)
    (hs : x ≤ length s) (hu : y ≤ length u) where
  lower : length (pasted m a s x) ≡ length m
  lower = length-pasted m a s x (omega arith) hs

  upper : length (pasted m b u y) ≡ length m
  upper = length-pasted m b u y hm hu

  in_lower : a + x ≤ length (pasted m b u y)
  in_lower = rw upper (omega arith)

  in_upper : b + y ≤ length (pasted m a s x)
  in_upper = rw lower hm

  byte : (i : ℕ) (p q r : Bool) → ltb i a ≡ p → ltb i (a + x) ≡ q → (ltb i b ≡ r) → (t : Bool) → ltb i (b + y) ≡ t
      → get_or (pasted (pasted m b u y) a s x) i 0 ≡ get_or (pasted (pasted m a s x) b u y) i 0
  byte i true q r e f g t k =
      let h = ltb-true i a e in
      pasted_beside (pasted m b u y) a s x in_lower hs i (inl h) ∙ pasted_beside m b u y hm hu i (inl (omega arith))
      ∙ sym (pasted_beside (pasted m a s x) b u y in_upper hu i (inl (omega arith)) ∙ pasted_beside m a s x (omega arith) hs i (inl h))
  byte i false true r e f g t k =
      let h = ltb-false i a e in
      let l = ltb-true i (a + x) f in
      let j : ℕ = i - a in
      let c : i ≡ a + j = omega arith in
      let o : j < x = omega arith in
      rw c
      (pasted-inside (pasted m b u y) a s x in_lower hs j o
      ∙ sym (pasted_beside (pasted m a s x) b u y in_upper hu (a + j) (inl (omega arith)) ∙ pasted-inside m a s x (omega arith) hs j o))
  byte i false false true e f g t k =
      let h = ltb-false i (a + x) f in
      let l = ltb-true i b g in
      pasted_beside (pasted m b u y) a s x in_lower hs i (inr h) ∙ pasted_beside m b u y hm hu i (inl l)
      ∙ sym (pasted_beside (pasted m a s x) b u y in_upper hu i (inl l) ∙ pasted_beside m a s x (omega arith) hs i (inr h))
  byte i false false false e f g true k =
      let h = ltb-false i (a + x) f in
      let l = ltb-false i b g in
      let z = ltb-true i (b + y) k in
      let j : ℕ = i - b in
      let c : i ≡ b + j = omega arith in
      let o : j < y = omega arith in
      rw c
      (pasted_beside (pasted m b u y) a s x in_lower hs (b + j) (inr (omega arith)) ∙ pasted-inside m b u y hm hu j o
      ∙ sym (pasted-inside (pasted m a s x) b u y in_upper hu j o))
  byte i false false false e f g false k =
      let h = ltb-false i (a + x) f in
      let z = ltb-false i (b + y) k in
      pasted_beside (pasted m b u y) a s x in_lower hs i (inr h) ∙ pasted_beside m b u y hm hu i (inr z)
      ∙ sym (pasted_beside (pasted m a s x) b u y in_upper hu i (inr z) ∙ pasted_beside m a s x (omega arith) hs i (inr h))

  pub pasted_swap : pasted (pasted m b u y) a s x ≡ pasted (pasted m a s x) b u y
  pasted_swap =
      ext_get_or 0 _ _
      (length-pasted (pasted m b u y) a s x in_lower hs ∙ upper ∙ sym (length-pasted (pasted m a s x) b u y in_upper hu ∙ lower))
      (λ i h. byte i (ltb i a) (ltb i (a + x)) (ltb i b) refl refl refl (ltb i (b + y)) refl)

-- a part that stands behind what is put in
module _ (p : List ℕ) (at : ℕ) (s : List ℕ) (k : ℕ) (hp : at + k ≤ length p) (hs : k ≤ length s) where
  drop-behind : (i : ℕ) → at + k ≤ i → drop i (pasted p at s k) ≡ drop i p
  unfolding pasted
  drop-behind i h =
      let j : ℕ = i - (at + k) in
      let e : i ≡ at + k + j = omega arith in
      rw e
      (sym (drop-drop j (at + k) (pasted p at s k)) ∙ ap (drop j) (drop-paste p at s k (omega arith) hs) ∙ drop-drop j (at + k) p)

  part-behind : (i n : ℕ) → at + k ≤ i → part_of (pasted p at s k) i n ≡ part_of p i n
  unfolding part_of
  part-behind i n h = rw (length-pasted p at s k hp hs, drop-behind i h)

-- the slot d comes to held bytes: its first k bytes may be copied first
module _ (h : Held) (p d : List ℕ) (k : ℕ) (hk : k ≤ length d) (hp : slot_area + k ≤ length p) (hh : slot_area + k ≤ h.start) where
  pub held-early : held_bytes h (pasted p slot_area d k) ≡ held_bytes h p
  held-early = part-behind p slot_area d k hp hk h.start h.len hh

  moved-early : held_len h p ≤ slot_area → held_len h p ≤ length p - h.start
      → moved_mem h (pasted p slot_area d k) ≡ pasted (moved_mem h p) slot_area d k
  unfolding moved_mem
  moved-early l r =
      rw (held-early, drop-behind p slot_area d k hp hk h.start hh)
      (pasted_swap p 0 (drop h.start p) (held_len h p) slot_area d k (omega arith) hp (rw (length-drop h.start p) r) hk)

  length_moved : held_len h p ≤ length p - h.start → length (moved_mem h p) ≡ length p
  unfolding moved_mem
  length_moved r = length-pasted p 0 (drop h.start p) (held_len h p) (omega arith) (rw (length-drop h.start p) r)

  pub continued-early : (j : ℕ) → j ≤ length d → held_len h p + j ≤ slot_area → held_len h p ≤ length p - h.start
      → continued_mem h (pasted p slot_area d k) d j ≡ pasted (continued_mem h p d j) slot_area d k
  unfolding continued_mem
  continued-early j hj l r =
      rw (held-early, moved-early (omega arith) r)
      (pasted_swap (moved_mem h p) (held_len h p) d j slot_area d k (omega arith) (rw (length_moved r) hp) hj hk)

-- the rest of the slot behind its first k bytes
pub pasted-rest : (p : List ℕ) (at : ℕ) (d : List ℕ) (k : ℕ) → k ≤ length d → at + length d ≤ length p
    → pasted (pasted p at (take k d) (length (take k d))) (at + k) (drop k d) (length (drop k d)) ≡ pasted p at d (length d)
pasted-rest p at d k h l =
    let t = length-take-le k d h in
    let r = length-drop k d in
    let n : k + (length d - k) ≡ length d = omega arith in
    rw (t, r) (rw (t, r, take-append-drop k d, n) at (pasted-append p at (take k d) (drop k d) (rw (t, r) (omega arith))))
