-- What continues a held packet fits behind it in packet memory.
use Prim.Native.Nat.{ℕ, ◌+◌, ◌-◌, ◌<◌, ◌≤◌}
use mathlib.Core.Path.{◌≡◌, refl, sym, ◌∙◌}
use mathlib.Core.Bool.{Bool, true, false, cond}
use mathlib.Core.List.{List, []}
use native.Mathlib.Omega.{arith}
use lib.ListN.{length, take, drop, length-take, length-drop}
use lib.Dec.{eqb, ltb, leb}
use borrow.Author.Tests.{eqb-true, eqb-false, ltb-true, ltb-false}
use Rattle.wire.specs.Memory.{part_of}
use Rattle.tlv.specs.declared.note.SlotNote.TheVariants.{Misfit, TooLong}
use Rattle.tlv.specs.declared.held.Continuation.TheVariants.{Dropped, Ends, GoesOn}
use Rattle.tlv.specs.Slot.{none, sound}
use Rattle.tlv.proofs.SlotLaws.{unsound_outside}
use Rattle.tlv.specs.Held.{end_within, end_beyond, held_total, held_end, continuation_of}
use Rattle.intake.specs.declared.held.Held.{Held}
use Rattle.intake.specs.Slot.{held_bytes, held_len}

-- two constructors differ, and so do the two truth values
differ : {A : Type 0} → ◌≡◌ {A = ℕ} 0 1 → A
differ e = absurd (omega arith)

-- a part lies within the memory from its start
pub part_room : (s : List ℕ) (start len : ℕ) → length (part_of s start len) ≤ length s - start
unfolding part_of
part_room s start len = go (leb start (length s)) (leb len (length s - start))
  where
    go : (a b : Bool) → length (cond a (cond b (take len (drop start s)) []) []) ≤ length s - start
    go true true = simp (length-take, length-drop) (omega arith)
    go true false = omega arith
    go false b = omega arith

-- what it tells that a held packet ends at t, or at the slot's end, or goes on past it
within-ends : (x t e : ℕ) → end_within x t ≡ Ends e → (x ≡ e) × (x ≡ t)
unfolding end_within
within-ends x t e q = go (eqb x t) refl q
  where
    go : (b : Bool) → eqb x t ≡ b → cond b (Ends x) (Dropped Misfit) ≡ Ends e → (x ≡ e) × (x ≡ t)
    go true h q = (cc, eqb-true _ _ h)
    go false h q = differ (cc)

within-stays : (x t : ℕ) → end_within x t ≡ GoesOn → ⊥
unfolding end_within
within-stays x t q = go (eqb x t) q
  where
    go : (b : Bool) → cond b (Ends x) (Dropped Misfit) ≡ GoesOn → ⊥
    go true q = differ (cc)
    go false q = differ (cc)

beyond-ends : (x l last e : ℕ) → end_beyond x l last ≡ Ends e → (x ≡ e) × (x ≡ l)
unfolding end_beyond
beyond-ends x l last e q = go (ltb x l) (eqb x l) (eqb last l) refl q
  where
    go : (a b c : Bool) → eqb x l ≡ b
        → cond a (Dropped Misfit) (cond b (cond c (Ends x) (Dropped Misfit)) (cond c (Dropped Misfit) GoesOn)) ≡ Ends e → (x ≡ e) × (x ≡ l)
    go true b c h q = differ (cc)
    go false true true h q = (cc, eqb-true _ _ h)
    go false true false h q = differ (cc)
    go false false true h q = differ (cc)
    go false false false h q = differ (cc)

beyond-goes-on : (x l last : ℕ) → end_beyond x l last ≡ GoesOn → l < x
unfolding end_beyond
beyond-goes-on x l last q = go (ltb x l) (eqb x l) (eqb last l) refl refl q
  where
    go : (a b c : Bool) → ltb x l ≡ a → eqb x l ≡ b
        → cond a (Dropped Misfit) (cond b (cond c (Ends x) (Dropped Misfit)) (cond c (Dropped Misfit) GoesOn)) ≡ GoesOn → l < x
    go true b c g h q = differ (cc)
    go false true true g h q = differ (cc)
    go false true false g h q = differ (cc)
    go false false true g h q = differ (cc)
    go false false false g h q = omega (arith, ltb-false x l g, eqb-false x l h)

-- a packet that starts in a sound slot starts below its length
sound-top : (d : List ℕ) (t l : ℕ) → (t ≡ none → ⊥) → sound d t l ≡ true → t < length d
sound-top d t l n s = go (ltb t (length d)) refl
  where
    go : (b : Bool) → ltb t (length d) ≡ b → t < length d
    go true h = ltb-true _ _ h
    go false h = let e = sym s ∙ unsound_outside d t l n (ltb-false _ _ h) in differ (cc)

-- k bytes of the slot d fit behind the held bytes h, in any memory that holds these and has 16,384 bytes
pub record Room (h d : List ℕ) (k : ℕ) : Type 0 where
  pub within : k ≤ length d
  pub fits : (m : ℕ) → length h ≤ m → 16384 ≤ m → length h + k ≤ m

module _ (h d : List ℕ) (t l : ℕ) where
  -- the held packet ends in a sound slot
  pub ends-room : (e : ℕ) → sound d t l ≡ true → continuation_of h d t l ≡ Ends e → Room h d e
  unfolding continuation_of held_end
  ends-room e s q = go (eqb (length h) 0) (ltb 16384 (held_total h d)) (eqb t none) refl refl refl q
    where
      x : ℕ
      x = held_end h d

      go : (a b c : Bool) → eqb (length h) 0 ≡ a → ltb 16384 (held_total h d) ≡ b → eqb t none ≡ c
          → cond a (end_within 0 t) (cond b (Dropped TooLong) (cond c (end_beyond x (length d) l) (end_within x t))) ≡ Ends e → Room h d e
      go true b c f g i q =
          let p = within-ends 0 t e q in
          record { within = omega arith; fits = λ m r y. omega (arith, eqb-true (length h) 0 f) }
      go false true c f g i q = differ (cc)
      go false false true f g i q =
          let p = beyond-ends x (length d) l e q in
          record { within = omega arith; fits = λ m r y. omega (arith, ltb-false 16384 (held_total h d) g) }
      go false false false f g i q =
          let p = within-ends x t e q in
          let o = sound-top d t l (eqb-false _ _ i) s in
          record { within = omega arith; fits = λ m r y. omega (arith, ltb-false 16384 (held_total h d) g) }

  -- it goes on past the slot
  pub goes-on-room : continuation_of h d t l ≡ GoesOn → Room h d (length d)
  unfolding continuation_of held_end
  goes-on-room q = go (eqb (length h) 0) (ltb 16384 (held_total h d)) (eqb t none) refl q
    where
      x : ℕ
      x = held_end h d

      go : (a b c : Bool) → ltb 16384 (held_total h d) ≡ b
          → cond a (end_within 0 t) (cond b (Dropped TooLong) (cond c (end_beyond x (length d) l) (end_within x t))) ≡ GoesOn
          → Room h d (length d)
      go true b c g q = absurd (within-stays 0 t q)
      go false true c g q = differ (cc)
      go false false true g q =
          let p = beyond-goes-on x (length d) l q in
          record { within = omega arith; fits = λ m r y. omega (arith, ltb-false 16384 (held_total h d) g) }
      go false false false g q = absurd (within-stays x t q)

-- behind held bytes that stand in the memory itself
pub held_fits : (h : Held) (p d : List ℕ) (k : ℕ) → 16384 ≤ length p → Room (held_bytes h p) d k → held_len h p + k ≤ length p
held_fits h p d k l r = let o = part_room p h.start h.len in r.fits (length p) (omega arith) l
