-- Why a slot may be copied in two parts, the first of them before the held bytes are moved.
use Prim.Native.Nat.{ℕ, ◌+◌, ◌-◌, ◌≤◌}
use mathlib.Core.Path.{◌≡◌, refl, sym, ◌∙◌, ap}
use mathlib.Core.Bool.{Bool, true, false, cond, ◌||◌}
use mathlib.Core.List.{List}
use native.Mathlib.Omega.{arith}
use borrow.Author.Tests.{ltb-true, ltb-false}
use lib.Dec.{ltb}
use lib.ListN.{length, take, drop, length-drop}
use Rattle.wire.specs.Memory.{pasted}
use Rattle.wire.proofs.MemoryLaws.{pasted-zero, pasted-take, part_length, length-pasted}
use Rattle.wire.proofs.Choice.{neither}
use Rattle.tmcc.specs.declared.layout.Pointers.{Pointers}
use Rattle.tlv.specs.declared.held.Continuation.{Continuation}
use Rattle.tlv.specs.declared.held.Continuation.TheVariants.{Dropped, Ends, GoesOn}
use Rattle.tlv.specs.Slot.{sound}
use Rattle.tlv.specs.Held.{continuation_of}
use Rattle.intake.specs.declared.held.Held.{Held}
use Rattle.intake.specs.Slot.{slot_area, packet_memory, held_bytes, held_len, moved_mem, continued_mem, resumed_mem, resumed_of, taken_by, copied, intake_of, IntakeOut}
use Rattle.intake.proofs.SlotFacts.{resumed}
use Rattle.intake.specs.Early.{free_part}
use Rattle.intake.proofs.EarlyLaws.{free_all, free-none, free-below, held-early, continued-early, pasted-rest}
use Rattle.intake.proofs.SlotLaws.{Room, part_room, ends-room, goes-on-room, held_fits}

-- bytes of the slot were put in before
abbrev early : IntakeOut → List ℕ → ℕ → IntakeOut
early r d k = (r.0, pasted r.1 slot_area d k)

module _ (h : Held) (p d : List ℕ) (t : Pointers) (k : ℕ) (hk : k ≤ length d) (hp : slot_area + k ≤ length p)
    (hh : slot_area + k ≤ h.start) (hl : h.len ≤ slot_area) (s : sound d t.0 t.1 ≡ true) where
  -- the memory, case by case
  memory-early : (c : Continuation) → continuation_of (held_bytes h p) d t.0 t.1 ≡ c
      → resumed_mem c h (pasted p slot_area d k) d ≡ pasted (resumed_mem c h p d) slot_area d k
  unfolding resumed_mem
  memory-early (Dropped x) e = refl
  memory-early (Ends j) e =
      let r = ends-room (held_bytes h p) d t.0 t.1 j s e in
      let m = part_length p h.start h.len in
      continued-early h p d k hk hp hh j r.within (r.fits slot_area (omega arith) (omega arith)) (part_room p h.start h.len)
  memory-early GoesOn e =
      let r = goes-on-room (held_bytes h p) d t.0 t.1 e in
      let m = part_length p h.start h.len in
      continued-early h p d k hk hp hh (length d) r.within (r.fits slot_area (omega arith) (omega arith))
      (part_room p h.start h.len)

  resumed-early : resumed_of h (pasted p slot_area d k) d t ≡ early (resumed_of h p d t) d k
  resumed-early =
      let c = continuation_of (held_bytes h p) d t.0 t.1 in
      let b = held-early h p d k hk hp hh in
      resumed h (pasted p slot_area d k) d t c (rw b refl)
      ∙ rw (resumed h p d t c refl, b, memory-early c refl)

-- packet memory keeps its length
module _ (h : Held) (p d : List ℕ) (t : Pointers) (hp : packet_memory ≤ length p) where
  length-continued : (j : ℕ) → Room (held_bytes h p) d j → length (continued_mem h p d j) ≡ length p
  unfolding continued_mem moved_mem
  length-continued j r =
      let o = part_room p h.start h.len in
      let m = length-pasted p 0 (drop h.start p) (held_len h p) (omega arith) (rw (length-drop h.start p) o) in
      length-pasted (pasted p 0 (drop h.start p) (held_len h p)) (held_len h p) d j
      (rw m (held_fits h p d j (omega arith) r)) r.within
      ∙ m

  length-memory : (c : Continuation) → continuation_of (held_bytes h p) d t.0 t.1 ≡ c → sound d t.0 t.1 ≡ true
      → length (resumed_mem c h p d) ≡ length p
  unfolding resumed_mem
  length-memory (Dropped x) e s = refl
  length-memory (Ends j) e s = length-continued j (ends-room (held_bytes h p) d t.0 t.1 j s e)
  length-memory GoesOn e s = length-continued (length d) (goes-on-room (held_bytes h p) d t.0 t.1 e)

  length-resumed : sound d t.0 t.1 ≡ true → length (resumed_of h p d t).1 ≡ length p
  length-resumed s =
      let c = continuation_of (held_bytes h p) d t.0 t.1 in
      ap (λ (r : IntakeOut). length r.1) (resumed h p d t c refl) ∙ length-memory c refl s

  length_taken : let x = sound d t.0 t.1 in length (taken_by x h.on h p d t).1 ≡ length p
  length_taken = go (sound d t.0 t.1) h.on refl
    where
      go : (x o : Bool) → sound d t.0 t.1 ≡ x → length (taken_by x o h p d t).1 ≡ length p
      go false o s = refl
      go true false s = refl
      go true true s = length-resumed s

-- the smaller of two numbers
smaller : (n m : ℕ) → (cond (ltb n m) n m ≤ n) × (cond (ltb n m) n m ≤ m)
smaller n m = go (ltb n m) refl
  where
    go : (b : Bool) → ltb n m ≡ b → (cond b n m ≤ n) × (cond b n m ≤ m)
    go true e = let l = ltb-true n m e in (omega arith, omega arith)
    go false e = let l = ltb-false n m e in (omega arith, omega arith)

-- whichever slot it is
module _ (h : Held) (p d : List ℕ) (t : Pointers) (hp : packet_memory ≤ length p) (hd : length d ≤ 5049) where
  pub free-most : free_part h (length d) ≤ length d
  free-most = go h.on (ltb h.start slot_area || ltb slot_area h.len) refl refl
    where
      go : (a b : Bool) → h.on ≡ a → (ltb h.start slot_area || ltb slot_area h.len) ≡ b → free_part h (length d) ≤ length d
      go false b o e = rw (free_all h (length d) o) (omega arith)
      go true true o e = rw (free-none h (length d) o e) (omega arith)
      go true false o e = rw (free-below h (length d) o e) (smaller (length d) (h.start - slot_area)).0

  held-taken : h.on ≡ true → sound d t.0 t.1 ≡ true
      → resumed_of h (pasted p slot_area d (free_part h (length d))) d t ≡ early (resumed_of h p d t) d (free_part h (length d))
  held-taken o s = go (ltb h.start slot_area || ltb slot_area h.len) refl
    where
      go : (b : Bool) → (ltb h.start slot_area || ltb slot_area h.len) ≡ b
          → resumed_of h (pasted p slot_area d (free_part h (length d))) d t ≡ early (resumed_of h p d t) d (free_part h (length d))
      go true e =
          rw (free-none h (length d) o e, ← pasted-zero p slot_area d)
          (ap (λ (m : List ℕ). ((resumed_of h p d t).0, m)) (pasted-zero (resumed_of h p d t).1 slot_area d))
      go false e =
          let x = neither (ltb h.start slot_area) (ltb slot_area h.len) e in
          let a = ltb-false h.start slot_area x.0 in
          let b = ltb-false slot_area h.len x.1 in
          let f = free-below h (length d) o e in
          let m = smaller (length d) (h.start - slot_area) in
          rw f (resumed-early h p d t (cond (ltb (length d) (h.start - slot_area)) (length d) (h.start - slot_area))
          m.0 (omega (arith, m.0)) (omega (arith, m.1)) b s)

  pub taken-early : let k = free_part h (length d) in let x = sound d t.0 t.1 in
      taken_by x h.on h (pasted p slot_area d k) d t ≡ early (taken_by x h.on h p d t) d k
  taken-early = go (sound d t.0 t.1) h.on refl refl
    where
      go : (x o : Bool) → sound d t.0 t.1 ≡ x → h.on ≡ o → let k = free_part h (length d) in
          taken_by x o h (pasted p slot_area d k) d t ≡ early (taken_by x o h p d t) d k
      go false o s e = refl
      go true false s e = refl
      go true true s e = held-taken e s

  -- the first bytes, what the slot does, and the other bytes: the slot is taken
  pub taken_in_parts : let k = free_part h (length d) in let x = sound d t.0 t.1 in
      (r : IntakeOut) → r ≡ taken_by x h.on h (pasted p slot_area (take k d) (length (take k d))) d t
      → (r.0, pasted r.1 (slot_area + k) (drop k d) (length (drop k d))) ≡ intake_of h p d t
  unfolding intake_of copied
  taken_in_parts r e =
      let k = free_part h (length d) in
      let w = taken_by (sound d t.0 t.1) h.on h p d t in
      let q : r ≡ early w d k = rw (pasted-take p slot_area d k free-most) at e ∙ taken-early in
      let l = length_taken h p d t hp in
      ap (λ (x : IntakeOut). (x.0, pasted x.1 (slot_area + k) (drop k d) (length (drop k d)))) q
      ∙ ap (λ (m : List ℕ). (w.0, pasted m (slot_area + k) (drop k d) (length (drop k d)))) (sym (pasted-take w.1 slot_area d k free-most))
      ∙ ap (λ (m : List ℕ). (w.0, m)) (pasted-rest w.1 slot_area d k free-most (rw l (omega arith)))
