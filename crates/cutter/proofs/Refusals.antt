-- Why a refused call leaves the output, and a call that gives a slot is not refused.
use Prim.Native.Nat.{ℕ, ◌≤◌}
use mathlib.Core.Path.{◌≡◌, refl, sym, ap}
use mathlib.Core.Bool.{Bool, true, false, cond}
use mathlib.Core.List.{List}
use native.Mathlib.Omega.{arith}
use lib.ListN.{length}
use lib.Dec.{eqb}
use borrow.Author.Tests.{eqb-true, eqb-false}
use Rattle.tmcc.specs.declared.layout.Pointers.{Pointers}
use Rattle.cutter.specs.Cut.{CutSlot}
use Rattle.cutter.specs.Cut.{Cut, Refused}
use Rattle.cutter.specs.Slot.{cut_refusal, slot_at, pointed, slot_cut}
use Rattle.cutter.proofs.SlotLaws.{refusal_bounds}
use Rattle.cutter.specs.Claims.{CutRefused}

module _ (run : List ℕ) (l s : ℕ) (output : List ℕ) where
  abbrev r : ℕ
  r = cut_refusal run l s (length output)

  -- by the test for a refusal
  abbrev answer : Bool → CutSlot × List ℕ
  answer t = cond t (pointed (slot_at run l s), (slot_at run l s).bytes) (Refused r, output)

  pub cut-accepted : (p : Pointers) (after : List ℕ) → slot_cut run l s output ≡ (Cut p, after) → r ≡ 0
  unfolding slot_cut
  cut-accepted p after e = go (eqb r 0) refl e
    where
      go : (t : Bool) → eqb r 0 ≡ t → answer t ≡ (Cut p, after) → r ≡ 0
      go true t e = eqb-true _ _ t
      go false t e = let z : ◌≡◌ {A = ℕ} 0 1 = cc (ap (λ x. x.0) e) in omega arith

  refused-with : (n : ℕ) (after : List ℕ) → slot_cut run l s output ≡ (Refused n, after) → (75 ≤ n) × (n ≤ 78) × (after ≡ output)
  unfolding slot_cut
  refused-with n after e = go (eqb r 0) refl e
    where
      go : (t : Bool) → eqb r 0 ≡ t → answer t ≡ (Refused n, after) → (75 ≤ n) × (n ≤ 78) × (after ≡ output)
      go true t e = let z : ◌≡◌ {A = ℕ} 0 1 = cc (ap (λ x. x.0) e) in (omega arith, omega arith, absurd (omega arith))
      go false t e =
          let b = refusal_bounds run l s (length output) (eqb-false _ _ t) in
          let q : r ≡ n = cc (ap (λ x. x.0) e) in
          (omega arith, omega arith, sym (ap (λ x. x.1) e))

pub cut-refused : CutRefused
cut-refused run l s output = refused-with run l s output
