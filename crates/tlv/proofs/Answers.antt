-- What each answer on held bytes says of them and of the slot, by whether there is no top pointer.
use Prim.Native.Nat.{ℕ, ◌+◌, ◌≤◌, ◌<◌}
use mathlib.Core.Path.{◌≡◌, refl, sym, ◌∙◌}
use mathlib.Core.Bool.{Bool, true, false, cond, true≢false, and-eq-true_iff}
use mathlib.Core.List.{List, [], ◌∷◌, ◌++◌}
use native.Mathlib.Omega.{arith}
use native.Mathlib.Decide.{dec_le}
use lib.ListN.{length, take, length-append}
use lib.Seq.{take-append-add, length-take-le}
use lib.Dec.{eqb, ltb}
use borrow.Author.Tests.{eqb-true, eqb-false, ltb-true, ltb-false, ne_eqb}
use Rattle.tlv.specs.declared.held.Continuation.{Continuation}
use Rattle.tlv.specs.declared.note.SlotNote.TheVariants.{Misfit, TooLong}
use Rattle.tlv.specs.declared.held.Continuation.TheVariants.{Dropped, Ends, GoesOn}
use Rattle.tlv.specs.Packet.{total, complete, max_packet}
use Rattle.tlv.specs.Cuts.{Sized}
use Rattle.tlv.proofs.CutsLaws.{total-bytes, total-append, total-take, complete_if, short-packet, short-header}
use Rattle.tlv.specs.Slot.{none, sound}
use Rattle.tlv.specs.Held.{end_within, end_beyond, held_total, held_end, continuation_of}

-- where the held packet ends in the slot; at 0 if nothing is held
abbrev pub end_of : List ℕ → List ℕ → ℕ
end_of [] b = 0
end_of (x ∷ h) b = held_end (x ∷ h) b

abbrev pub Says : Continuation → Bool → List ℕ → List ℕ → ℕ → Type 0
Says (Dropped x) n h b top = Unit {0}
Says (Ends e) n h b top = (end_of h b ≡ e) × (e ≡ cond n (length b) top)
Says GoesOn true h b top = (0 < length h) × (length b < held_end h b)
Says GoesOn false h b top = ⊥

-- a packet starts in the slot, or nothing is held
within : (h b : List ℕ) (top : ℕ) (n : Bool) → eqb top none ≡ n → end_of h b < none → Says (end_within (end_of h b) top) n h b top
unfolding end_within
within h b top n m l = go n (eqb (end_of h b) top) m refl
  where
    go : (n z : Bool) → eqb top none ≡ n → eqb (end_of h b) top ≡ z → Says (cond z (Ends (end_of h b)) (Dropped Misfit)) n h b top
    go n false m e = tt
    go true true m e = absurd (omega (arith, eqb-true))
    go false true m e = (refl, eqb-true _ _ e)

-- a packet is held, and none starts in the slot
module _ (x : ℕ) (h b : List ℕ) (top last : ℕ) where
  abbrev end : ℕ
  end = held_end (x ∷ h) b

  beyond : Says (end_beyond end (length b) last) true (x ∷ h) b top
  unfolding end_beyond
  beyond = go (ltb end (length b)) (eqb end (length b)) (eqb last (length b)) refl refl
    where
      go : (i z l : Bool) → ltb end (length b) ≡ i → eqb end (length b) ≡ z
          → Says (cond i (Dropped Misfit) (cond z (cond l (Ends end) (Dropped Misfit)) (cond l (Dropped Misfit) GoesOn))) true (x ∷ h) b top
      go true z l u v = tt
      go false true true u v = (refl, eqb-true _ _ v)
      go false true false u v = tt
      go false false true u v = tt
      go false false false u v = (omega arith, omega (arith, ltb-false, eqb-false))

pub says : (h b : List ℕ) (top last : ℕ) → Says (continuation_of h b top last) (eqb top none) h b top
unfolding continuation_of
says [] b top last = within [] b top (eqb top none) refl (omega arith)
says (x ∷ h) b top last =
    rw (ne_eqb (length (x ∷ h)) 0 (omega arith)) (go (ltb max_packet (held_total (x ∷ h) b)) (eqb top none) refl refl)
  where
    go : (l n : Bool) → ltb max_packet (held_total (x ∷ h) b) ≡ l → eqb top none ≡ n
        → Says (cond l (Dropped TooLong) (cond n (end_beyond (held_end (x ∷ h) b) (length b) last) (end_within (held_end (x ∷ h) b) top)))
        n (x ∷ h) b top
    go true n l m = tt
    go false true l m = beyond x h b top last
    go false false l m = within (x ∷ h) b top false m (unfold held_end in omega (arith, ltb-false))

-- a sound slot with a top pointer has a byte there
pub top-inside : (b : List ℕ) (top last : ℕ) → sound b top last ≡ true → eqb top none ≡ false → top < length b
unfolding sound
top-inside b top last e n = ltb-true _ _ ((and-eq-true_iff _ _).0 (rw n at e)).0

-- the packet that unfinished bytes begin goes on past them
open-longer : (h b : List ℕ) → complete h ≡ false → length h < total (h ++ b)
open-longer h b o = go (dec_le 4 (length h)) (dec_le (total h) (length h))
  where
    go : Dec (4 ≤ length h) → Dec (total h ≤ length h) → length h < total (h ++ b)
    go (yes f) (yes t) = absurd (true≢false (sym (complete_if h f t) ∙ o))
    go (yes f) (no t) = omega (arith, total-append h b f)
    go (no f) t = omega (arith, total-bytes (h ++ b))

-- it ends in the bytes that follow, and they complete it
module _ (h b : List ℕ) (e : ℕ) (o : complete h ≡ false) (w : held_end h b ≡ e) where
  pub ends-past : (total (h ++ b) ≡ length h + e) × (0 < e)
  ends-past = let l = open-longer h b o in unfold held_end held_total in omega arith

  pub ends-sized : e ≤ length b → Sized (h ++ take e b)
  ends-sized f =
      let t : total (h ++ b) ≡ length h + e = ends-past.0 in
      let l : length (h ++ take e b) ≡ length h + e = rw (length-append, length-take-le e b f) in
      let m : 4 ≤ length h + e = omega (arith, total-bytes (h ++ b)) in
      let u : total (h ++ take e b) ≡ total (h ++ b) = rw (← take-append-add h b e) (total-take (length h + e) (h ++ b) m) in
      record { long = omega arith; exact = omega arith }

-- it goes on past them, too
pub goes-open : (h b : List ℕ) → length b < held_end h b → complete (h ++ b) ≡ false
unfolding held_end held_total
goes-open h b p = go (dec_le 4 (length (h ++ b)))
  where
    go : Dec (4 ≤ length (h ++ b)) → complete (h ++ b) ≡ false
    go (yes f) = short-packet (h ++ b) f (omega (arith, length-append h b))
    go (no f) = short-header (h ++ b) (omega arith)
