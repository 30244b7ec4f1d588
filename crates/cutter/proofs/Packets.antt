-- Laws of a place of a run from which on it is whole packets: the packet there, and the pointers with it.
use Prim.Native.Nat.{ℕ, ◌+◌, ◌-◌, ◌≤◌, ◌<◌}
use mathlib.Core.Path.{◌≡◌, refl, ap}
use mathlib.Core.Bool.{Bool, true, false, and-eq-true_iff}
use mathlib.Core.List.{List, [], ◌∷◌}
use native.Mathlib.Omega.{arith}
use native.Mathlib.Decide.{dec_le}
use lib.ListN.{length, take, drop, length-drop}
use lib.Seq.{length-take-le, drop-drop}
use lib.Dec.{eqb}
use borrow.Author.Tests.{eqb-true, eq-eqb, ne_eqb}
use Rattle.tlv.specs.Packet.{total, complete, cut}
use Rattle.tlv.proofs.CutsLaws.{complete-fits, cut-end, cut-more, cut-tail-length}
use Rattle.tlv.specs.Slot.{none}
use Rattle.cutter.specs.Pointers.{top_with, last_with}
use Rattle.cutter.specs.Slot.{whole}
use Rattle.cutter.proofs.Places.{top_from, last_from, top-step, last_step}

-- whole packets with good first bytes leave no tail
pub whole-good : (run : List ℕ) → whole run ≡ true → ((cut run).good ≡ true) × ((cut run).tail ≡ [])
unfolding whole
whole-good run e =
    let b = (and-eq-true_iff (cut run).good (eqb (length (cut run).tail) 0)).0 e in
    (b.0, go (cut run).tail (eqb-true _ _ b.1))
  where
    go : (t : List ℕ) → length t ≡ 0 → t ≡ []
    go [] h = refl
    go (x ∷ t) h = absurd (omega arith)

-- where the cut comes to
module _ (run : List ℕ) where
  pub bad-whole : (cut run).good ≡ false → whole run ≡ false
  unfolding whole
  bad-whole g = rw g

  pub end_whole : (end : ℕ) → (cut run).good ≡ true → length run - length (cut run).tail ≡ end → whole run ≡ eqb end (length run)
  unfolding whole
  end_whole end g e = rw g (go (dec_le (length (cut run).tail) 0))
    where
      go : Dec (length (cut run).tail ≤ 0) → eqb (length (cut run).tail) 0 ≡ eqb end (length run)
      go (yes t) = rw (eq-eqb (length (cut run).tail) 0 (omega arith), eq-eqb end (length run) (omega arith))
      go (no t) =
          let l = cut-tail-length run in
          rw (ne_eqb (length (cut run).tail) 0 (omega arith), ne_eqb end (length run) (omega arith))

-- whole packets that are not empty begin with one
pub whole-complete : (b : List ℕ) → (cut b).tail ≡ [] → 0 < length b → complete b ≡ true
whole-complete b w h = go (complete b) refl
  where
    go : (c : Bool) → complete b ≡ c → c ≡ true
    go true e = refl
    go false e = absurd (omega (arith, ap length (rw (cut-end b e) at w)))

module _ (run : List ℕ) (at : ℕ) (h : at < length run) (w : (cut (drop at run)).tail ≡ []) where
  abbrev here : List ℕ
  here = drop at run

  abbrev next : ℕ
  next = at + total here

  complete-here : complete here ≡ true
  complete-here = whole-complete here w (rw length-drop (omega arith))

  pub fits-here : (4 ≤ total here) × (next ≤ length run)
  fits-here = omega (arith, complete-fits here complete-here, length-drop at run)

  pub whole-next : (cut (drop next run)).tail ≡ []
  whole-next = rw (← drop-drop (total here) at run) (rw (cut-more here complete-here) at w)

  packets-here : (cut here).packets ≡ take (total here) here ∷ (cut (drop next run)).packets
  packets-here = rw (cut-more here complete-here, drop-drop (total here) at run)

  length-first : length (take (total here) here) ≡ total here
  length-first = length-take-le (total here) here (complete-fits here complete-here).1

  module _ (from l : ℕ) where
    pub top-next : l < none → (top : ℕ)
        → top_from from l (top_with top from l at) next (cut (drop next run)).packets ≡ top_from from l top at (cut here).packets
    top-next k top =
        rw packets-here (rw length-first at (top-step from l k top at (take (total here) here) (cut (drop next run)).packets))

    pub last-next : (last : ℕ)
        → last_from from l (last_with last from l next) next (cut (drop next run)).packets
        ≡ last_from from l last at (cut here).packets
    last-next last =
        rw packets-here (rw length-first at (last_step from l last at (take (total here) here) (cut (drop next run)).packets))
