-- Why a refused call of C linkage leaves all that it was lent, and why 0 says that it was not refused.
use Prim.Native.Nat.{ℕ, ◌≤◌}
use mathlib.Core.Path.{◌≡◌, refl, sym, ◌∙◌, ap}
use mathlib.Core.Bool.{Bool, true, false}
use mathlib.Core.Logic.{◌⊎◌, inl, inr}
use mathlib.Core.List.{List}
use native.Mathlib.Omega.{arith}
use Rattle.reassembly.specs.declared.unit.Unit.{Unit}
use Rattle.words.specs.Channel.{read_unit}
use Rattle.calls.specs.Record.{is_unit_record}
use Rattle.packer.specs.Packed.{Packed}
use Rattle.packer.specs.Packed.{Written, Refused as NotPacked}
use Rattle.packer.specs.Packer.{pack_of}
use Rattle.packer.proofs.Refusals.{pack_refused}
use Rattle.cutter.specs.Cut.{CutSlot}
use Rattle.cutter.specs.Cut.{Cut, Refused as NotCut}
use Rattle.cutter.specs.Slot.{slot_cut}
use Rattle.cutter.proofs.Refusals.{cut-refused}
use Rattle.ixohuemil.specs.Answers.{pack_call}
use Rattle.ixohuemil.proofs.AnswersLaws.{pack_unit, pack_other, pack_taken, pack_left, cut-taken, cut_left}
use Rattle.ixohuemil.specs.Claims.{PackRecordRefused, CutCallRefused, PackRecordTaken, CutCallTaken}

pack_call-refused : (u : Unit) (cid sn m : ℕ) (s out : List ℕ) (len : ℕ) (n len' : ℕ) (out' : List ℕ)
    → pack_call u cid sn m s out len ≡ (n, len', out') → (n ≡ 0 → ⊥)
    → (70 ≤ n) × (n ≤ 74) × (len' ≡ len) × (out' ≡ out)
pack_call-refused u cid sn m s out len n len' out' e z = go (pack_of u cid sn m s out).0 (pack_of u cid sn m s out).1 refl
  where
    go : (a : Packed) (b : List ℕ) → (a, b) ≡ pack_of u cid sn m s out
        → (70 ≤ n) × (n ≤ 74) × (len' ≡ len) × (out' ≡ out)
    go (Written k) b q = absurd (z (ap (λ x. x.0) (sym e ∙ pack_taken u cid sn m s out len k b q)))
    go (NotPacked k) b q =
        let g = sym e ∙ pack_left u cid sn m s out len k b q in
        let r = pack_refused u cid sn m s out k b (sym q) in
        let o : n ≡ k = ap (λ x. x.0) g in
        (omega arith, omega arith, ap (λ x. x.1) g, ap (λ x. x.2) g ∙ r.2)

pack_call-taken : (u : Unit) (cid sn m : ℕ) (s out : List ℕ) (len : ℕ) (len' : ℕ) (out' : List ℕ)
    → pack_call u cid sn m s out len ≡ (0, len', out') → pack_of u cid sn m s out ≡ (Written len', out')
pack_call-taken u cid sn m s out len len' out' e = go (pack_of u cid sn m s out).0 (pack_of u cid sn m s out).1 refl
  where
    go : (a : Packed) (b : List ℕ) → (a, b) ≡ pack_of u cid sn m s out → pack_of u cid sn m s out ≡ (Written len', out')
    go (Written k) b q =
        let g = sym e ∙ pack_taken u cid sn m s out len k b q in
        sym q ∙ rw (ap (λ x. x.1) g, ap (λ x. x.2) g)
    go (NotPacked k) b q =
        let o : 0 ≡ k = ap (λ x. x.0) (sym e ∙ pack_left u cid sn m s out len k b q) in
        let r = pack_refused u cid sn m s out k b (sym q) in
        absurd (omega arith)

pub pack_record_refused : PackRecordRefused
pack_record_refused t cid sn m s out len n len' out' e z = go (is_unit_record t) refl
  where
    go : (b : Bool) → is_unit_record t ≡ b → ((n ≡ 92) ⊎ ((70 ≤ n) × (n ≤ 74))) × (len' ≡ len) × (out' ≡ out)
    go true u =
        let r = pack_call-refused (read_unit t 5) cid sn m s out len n len' out' (sym (pack_unit t cid sn m s out len u) ∙ e) z in
        (inr (r.0, r.1), r.2, r.3)
    go false u =
        let g = sym e ∙ pack_other t cid sn m s out len u in
        (inl (ap (λ x. x.0) g), ap (λ x. x.1) g, ap (λ x. x.2) g)

pub pack_record_taken : PackRecordTaken
pack_record_taken t cid sn m s out len len' out' e = go (is_unit_record t) refl
  where
    go : (b : Bool) → is_unit_record t ≡ b
        → (is_unit_record t ≡ true) × (pack_of (read_unit t 5) cid sn m s out ≡ (Written len', out'))
    go true u = (u, pack_call-taken (read_unit t 5) cid sn m s out len len' out' (sym (pack_unit t cid sn m s out len u) ∙ e))
    go false u =
        let o : ◌≡◌ {A = ℕ} 0 92 = ap (λ x. x.0) (sym e ∙ pack_other t cid sn m s out len u) in
        absurd (omega arith)

pub cut-call-refused : CutCallRefused
cut-call-refused run l s output top last n top' last' output' e z = go (slot_cut run l s output).0 (slot_cut run l s output).1 refl
  where
    go : (a : CutSlot) (b : List ℕ) → (a, b) ≡ slot_cut run l s output
        → (75 ≤ n) × (n ≤ 78) × (top' ≡ top) × (last' ≡ last) × (output' ≡ output)
    go (Cut p) b q = absurd (z (ap (λ x. x.0) (sym e ∙ cut-taken run l s output top last b p q)))
    go (NotCut k) b q =
        let g = sym e ∙ cut_left run l s output top last b k q in
        let r = cut-refused run l s output k b (sym q) in
        let o : n ≡ k = ap (λ x. x.0) g in
        (omega arith, omega arith, ap (λ x. x.1) g, ap (λ x. x.2) g, ap (λ x. x.3) g ∙ r.2)

pub cut-call-taken : CutCallTaken
cut-call-taken run l s output top last top' last' output' e = go (slot_cut run l s output).0 (slot_cut run l s output).1 refl
  where
    go : (a : CutSlot) (b : List ℕ) → (a, b) ≡ slot_cut run l s output
        → slot_cut run l s output ≡ (Cut (record { 0 = top'; 1 = last' }), output')
    go (Cut p) b q =
        let g = sym e ∙ cut-taken run l s output top last b p q in
        sym q ∙ rw (ap (λ x. x.1) g, ap (λ x. x.2) g, ap (λ x. x.3) g)
    go (NotCut k) b q =
        let o : 0 ≡ k = ap (λ x. x.0) (sym e ∙ cut_left run l s output top last b k q) in
        let r = cut-refused run l s output k b (sym q) in
        absurd (omega arith)
