-- Laws of specs/Slot.antt.
use Rattle.std.specs.Prelude.{ℕ, ◌+◌, ◌*◌, ◌≤◌, ◌<◌, ◌≡◌, refl, Bool, true, false, cond, List, length, eqb, ltb}
use Rattle.std.proofs.Common.{suc-mul, add-one, arith}
use borrow.Author.Tests.{lt-ltb, le-ltb, eq-eqb, ne_eqb, ltb-false, eqb-true}
use Rattle.wire.proofs.Choice.{either}
use Rattle.refusal.specs.declared.Refusal.{Refusal}
use Rattle.refusal.proofs.Numbers.{number-some}
use Rattle.refusal.specs.Refusal.{number_of}
use Rattle.cutter.specs.Cut.{Refused}
use Rattle.cutter.specs.Slot.{whole, unlisted, cut_refusal, slot_at, pointed, slot_cut, Accepted}

-- by cases: the four refusals
module _ (run : List ℕ) (l s n : ℕ) where
  pub refused-run : whole run ≡ false → cut_refusal run l s n ≡ 75
  unfolding cut_refusal
  refused-run w = rw w

  module _ (w : whole run ≡ true) where
    pub refused-length : unlisted l ≡ true → cut_refusal run l s n ≡ 76
    unfolding cut_refusal
    refused-length u = rw (w, u)

    module _ (u : unlisted l ≡ false) where
      pub refused-past : length run < (s + 1) * l → cut_refusal run l s n ≡ 77
      unfolding cut_refusal
      refused-past h = rw (w, u, lt-ltb _ _ h)

      pub refused-output : (s + 1) * l ≤ length run → (n ≡ l → ⊥) → cut_refusal run l s n ≡ 78
      unfolding cut_refusal
      refused-output h e = rw (w, u, le-ltb _ _ h, ne_eqb _ _ e)

pub accepts : (run : List ℕ) (l s n : ℕ) → Accepted run l s n → cut_refusal run l s n ≡ 0
unfolding cut_refusal
accepts run l s n a = rw (a.packets, a.listed, le-ltb _ _ a.within, eq-eqb _ _ a.fits)

-- and what no refusal says
if_zero : (t : Bool) (a b : ℕ) → cond t a b ≡ 0 → (b ≡ 0 → ⊥) → (t ≡ true) × (a ≡ 0)
if_zero true a b e n = (refl, e)
if_zero false a b e n = absurd (n e)

else_zero : (t : Bool) (a b : ℕ) → cond t a b ≡ 0 → (a ≡ 0 → ⊥) → (t ≡ false) × (b ≡ 0)
else_zero true a b e n = absurd (n e)
else_zero false a b e n = (refl, e)

pub accepted : (run : List ℕ) (l s n : ℕ) → cut_refusal run l s n ≡ 0 → Accepted run l s n
unfolding cut_refusal
accepted run l s n e =
    let p = if_zero (whole run) _ _ e (λ z. omega arith) in
    let q = else_zero (unlisted l) _ _ p.1 (λ z. omega arith) in
    let r = else_zero (ltb (length run) ((s + 1) * l)) _ _ q.1 (λ z. omega arith) in
    let t = if_zero (eqb n l) _ _ r.1 (λ z. omega arith) in
    record { packets = p.0; listed = q.0; within = ltb-false _ _ r.0; fits = eqb-true _ _ t.0 }

-- a refusal is 75 to 78
pub refusal_bounds : (run : List ℕ) (l s n : ℕ) → let r = cut_refusal run l s n in (r ≡ 0 → ⊥) → (75 ≤ r) × (r ≤ 78)
unfolding cut_refusal
refusal_bounds run l s n =
    let P : ℕ → Type 0 = λ r. (r ≡ 0 → ⊥) → (75 ≤ r) × (r ≤ 78) in
    either P (whole run)
    (either P (unlisted l) (λ z. (omega arith, omega arith))
    (either P (ltb (length run) ((s + 1) * l)) (λ z. (omega arith, omega arith))
    (either P (eqb n l) (λ z. absurd (z refl)) (λ z. (omega arith, omega arith)))))
    (λ z. (omega arith, omega arith))

-- the slot lies in the run
pub slot-within : (run : List ℕ) (l s n : ℕ) → Accepted run l s n → s * l + l ≤ length run
slot-within run l s n a = rw (add-one, suc-mul) at a.within

-- the call, refused and accepted
module _ (run : List ℕ) (l s : ℕ) (output : List ℕ) where
  pub slot-refused : (cut_refusal run l s (length output) ≡ 0 → ⊥)
      → slot_cut run l s output ≡ (Refused (cut_refusal run l s (length output)), output)
  unfolding slot_cut
  slot-refused n = rw (ne_eqb _ _ n)

  pub refused-with : (e : Refusal) → number_of e ≡ cut_refusal run l s (length output)
      → slot_cut run l s output ≡ (Refused (number_of e), output)
  refused-with e h = rw h (slot-refused (rw h at (number-some e)))

  pub slot-cut : cut_refusal run l s (length output) ≡ 0
      → slot_cut run l s output ≡ (pointed (slot_at run l s), (slot_at run l s).bytes)
  unfolding slot_cut
  slot-cut z = rw z
