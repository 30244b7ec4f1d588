-- Laws of where packets start and end, by where they lie beside the slot.
use Prim.Native.Nat.{ℕ, ◌+◌, ◌-◌, ◌≤◌, ◌<◌}
use mathlib.Core.Path.{◌≡◌, refl}
use mathlib.Core.Bool.{Bool, true, false, cond, and-eq-true_iff}
use mathlib.Core.List.{List, [], ◌∷◌, ◌++◌}
use native.Mathlib.Nat.{add-zero, add_assoc}
use native.Mathlib.Omega.{arith}
use lib.ListN.{length, length-append}
use lib.Dec.{eqb, leb, ltb}
use borrow.Author.Tests.{le-leb, lt-leb, lt-ltb, le-ltb, eqb-true, eq-eqb, ne_eqb, leb-true, ltb-true}
use Rattle.wire.specs.Lists.{put, sift}
use Rattle.wire.proofs.ListsLaws.{sift-append}
use Rattle.tlv.specs.Cuts.{AllSized}
use Rattle.tlv.proofs.CutsLaws.{row}
use Rattle.tlv.specs.Slot.{none, last_pointer}
use Rattle.cutter.specs.Pointers.{starts, ends, in_slot, ends_in, first_offset, last_offset, top_with, last_with}

-- the places of packets behind others
pub starts-append : (at : ℕ) (ps qs : List (List ℕ)) → starts at (ps ++ qs) ≡ starts at ps ++ starts (at + length (row ps)) qs
unfolding starts
starts-append at [] qs = rw (add-zero at)
starts-append at (p ∷ ps) qs =
    rw (length-append p (row ps), ← add_assoc at (length p) (length (row ps)), starts-append (at + length p) ps qs)

pub ends-append : (at : ℕ) (ps qs : List (List ℕ)) → ends at (ps ++ qs) ≡ ends at ps ++ ends (at + length (row ps)) qs
unfolding ends
ends-append at [] qs = rw (add-zero at)
ends-append at (p ∷ ps) qs =
    rw (length-append p (row ps), ← add_assoc at (length p) (length (row ps)), ends-append (at + length p) ps qs)

offset-append : (from p : ℕ) (xs ys : List ℕ) → last_offset from p (xs ++ ys) ≡ last_offset from (last_offset from p xs) ys
offset-append from p [] ys = refl
offset-append from p (x ∷ xs) ys = offset-append from (x - from) xs ys

-- the last pointer of an end that is not the slot's first byte
pub pointer-end : (end : ℕ) → 0 < end → last_pointer end ≡ end
unfolding last_pointer
pointer-end end h = rw (ne_eqb end 0 (omega arith))

module _ (from l : ℕ) where
  -- a byte before the slot, past it, and in it
  pub in_before : (i : ℕ) → i < from → in_slot from l i ≡ false
  unfolding in_slot
  in_before i h = rw (lt-leb _ _ h)

  pub in_past : (i : ℕ) → from + l ≤ i → in_slot from l i ≡ false
  unfolding in_slot
  in_past i h = rw (le-leb from i (omega arith), le-ltb _ _ h)

  pub in_there : (i : ℕ) → from ≤ i → i < from + l → in_slot from l i ≡ true
  unfolding in_slot
  in_there i h k = rw (le-leb _ _ h, lt-ltb _ _ k)

  pub in_bounds : (i : ℕ) → in_slot from l i ≡ true → (from ≤ i) × (i < from + l)
  unfolding in_slot
  in_bounds i e =
      let b = (and-eq-true_iff (leb from i) (ltb i (from + l))).0 e in
      (leb-true _ _ b.0, ltb-true _ _ b.1)

  -- one packet more, by where it lies
  module _ (last end : ℕ) where
    pub last-before : end ≤ from → 0 < end → last_with last from l end ≡ last
    unfolding last_with
    last-before h p = rw (in_before (end - 1) (omega arith))

    pub last-past : from + l < end → last_with last from l end ≡ last
    unfolding last_with
    last-past h = rw (in_past (end - 1) (omega arith))

    pub last_there : from < end → end ≤ from + l → last_with last from l end ≡ end - from
    unfolding last_with
    last_there h k = rw (in_there (end - 1) (omega arith) (omega arith))

  module _ (top start : ℕ) where
    pub top-stays : (top ≡ none → ⊥) → top_with top from l start ≡ top
    unfolding top_with
    top-stays t = rw (ne_eqb _ _ t)

    pub top-before : top ≡ none → start < from → top_with top from l start ≡ none
    unfolding top_with
    top-before t h = rw (eq-eqb _ _ t, in_before start h)

    pub top_there : top ≡ none → from ≤ start → start < from + l → top_with top from l start ≡ start - from
    unfolding top_with
    top_there t h k = rw (eq-eqb _ _ t, in_there start h k)

  -- packets past the slot
  pub starts-past : (at : ℕ) (ps : List (List ℕ)) → from + l ≤ at → sift (in_slot from l) (starts at ps) ≡ []
  unfolding starts
  starts-past at [] h = refl
  starts-past at (p ∷ ps) h = rw (in_past at h, starts-past (at + length p) ps (omega arith))

  pub ends-past : (at : ℕ) (ps : List (List ℕ)) → AllSized ps → from + l ≤ at → sift (ends_in from l) (ends at ps) ≡ []
  unfolding ends
  ends-past at [] z h = refl
  ends-past at (p ∷ ps) z h =
      rw (in_past (at + length p - 1) (omega (arith, z.0.long)), ends-past (at + length p) ps z.1 (omega arith))

  -- the pointers, from those of the packets so far and the packets that follow
  abbrev pub top_from : ℕ → ℕ → List (List ℕ) → ℕ
  top_from top at ps = cond (eqb top none) (first_offset from none (sift (in_slot from l) (starts at ps))) top

  abbrev pub last_from : ℕ → ℕ → List (List ℕ) → ℕ
  last_from last at ps = last_offset from last (sift (ends_in from l) (ends at ps))

  -- one packet more
  pub top-step : l < none → (top at : ℕ) (p : List ℕ) (ps : List (List ℕ))
      → top_from (top_with top from l at) (at + length p) ps ≡ top_from top at (p ∷ ps)
  unfolding starts top_with
  top-step h top at p ps = go (eqb top none) (in_slot from l at) refl refl
    where
      rest : List ℕ
      rest = sift (in_slot from l) (starts (at + length p) ps)

      with : Bool → Bool → ℕ
      with t b = cond t (cond b (at - from) none) top

      go : (t b : Bool) → eqb top none ≡ t → in_slot from l at ≡ b
          → cond (eqb (with t b) none) (first_offset from none rest) (with t b)
          ≡ cond t (first_offset from none (put b at rest)) top
      go true true t e =
          let k = in_bounds at e in
          rw (ne_eqb (at - from) none (omega arith))
      go true false t e = refl
      go false b t e = rw t

  pub last_step : (last at : ℕ) (p : List ℕ) (ps : List (List ℕ))
      → last_from (last_with last from l (at + length p)) (at + length p) ps ≡ last_from last at (p ∷ ps)
  unfolding ends last_with
  last_step last at p ps = go (ends_in from l (at + length p))
    where
      go : (b : Bool) → last_from (cond b (at + length p - from) last) (at + length p) ps
          ≡ last_offset from last (put b (at + length p) (sift (ends_in from l) (ends (at + length p) ps)))
      go true = refl
      go false = refl

  -- none that lies in the slot
  pub top-done : (top at : ℕ) (ps : List (List ℕ)) → from + l ≤ at → top_from top at ps ≡ top
  top-done top at ps h = rw (starts-past at ps h) (go (eqb top none) refl)
    where
      go : (b : Bool) → eqb top none ≡ b → cond b none top ≡ top
      go true e = let q : top ≡ none = eqb-true _ _ e in cc
      go false e = refl

  pub last_done : (last at : ℕ) (ps : List (List ℕ)) → AllSized ps → from + l ≤ at → last_from last at ps ≡ last
  last_done last at ps z h = rw (ends-past at ps z h)

  -- packets before the slot
  pub starts-before : (at : ℕ) (ps : List (List ℕ)) → AllSized ps → at + length (row ps) ≤ from
      → sift (in_slot from l) (starts at ps) ≡ []
  unfolding starts
  starts-before at [] z h = refl
  starts-before at (p ∷ ps) z h =
      let e = length-append p (row ps) in
      rw (in_before at (omega (arith, z.0.long)), starts-before (at + length p) ps z.1 (omega arith))

  pub ends-before : (at : ℕ) (ps : List (List ℕ)) → AllSized ps → at + length (row ps) ≤ from
      → sift (ends_in from l) (ends at ps) ≡ []
  unfolding ends
  ends-before at [] z h = refl
  ends-before at (p ∷ ps) z h =
      let e = length-append p (row ps) in
      rw (in_before (at + length p - 1) (omega (arith, z.0.long)), ends-before (at + length p) ps z.1 (omega arith))

  -- packets in the slot: their end is the last pointer
  pub last_within : (at : ℕ) (ps : List (List ℕ)) → AllSized ps → from ≤ at → at + length (row ps) ≤ from + l
      → last_from (last_pointer (at - from)) at ps ≡ last_pointer (at + length (row ps) - from)
  unfolding ends
  last_within at [] z h k = rw (add-zero at)
  last_within at (p ∷ ps) z h k =
      let e = length-append p (row ps) in
      let n = z.0.long in
      let q : at + length p + length (row ps) ≡ at + length (p ++ row ps) = omega arith in
      rw (in_there (at + length p - 1) (omega arith) (omega arith), ← q)
      (rw (pointer-end (at + length p - from) (omega arith)) at
      (last_within (at + length p) ps z.1 (omega arith) (omega arith)))

  -- packets behind others
  pub last-append : (last at : ℕ) (ps qs : List (List ℕ))
      → last_from last at (ps ++ qs) ≡ last_from (last_from last at ps) (at + length (row ps)) qs
  last-append last at ps qs =
      rw (ends-append at ps qs, sift-append (ends_in from l) (ends at ps) (ends (at + length (row ps)) qs))
      (offset-append from last (sift (ends_in from l) (ends at ps)) (sift (ends_in from l) (ends (at + length (row ps)) qs)))

  pub starts-behind : (at : ℕ) (ps qs : List (List ℕ)) → sift (in_slot from l) (starts at ps) ≡ []
      → sift (in_slot from l) (starts at (ps ++ qs)) ≡ sift (in_slot from l) (starts (at + length (row ps)) qs)
  starts-behind at ps qs e =
      rw (starts-append at ps qs, sift-append (in_slot from l) (starts at ps) (starts (at + length (row ps)) qs), e)
