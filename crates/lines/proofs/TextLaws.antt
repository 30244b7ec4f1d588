-- Laws of specs/Text.antt.
use Prim.Native.Nat.{ℕ, ◌+◌, ◌≤◌, ◌<◌}
use Rattle.std.specs.Prelude.{◌≡◌, length, set}
use Rattle.std.proofs.Math.Path.{refl, ap}
use Rattle.std.proofs.Common.{◌∙◌, add_assoc, add-zero, arith, length-set}
use mathlib.Core.List.{List, [], ◌∷◌, ◌++◌}
use Rattle.std.proofs.Math.ListN.{length-append}
use Rattle.wire.specs.Memory.{pasted}
use Rattle.wire.proofs.MemoryLaws.{pasted-zero, pasted-one, pasted-append, length-pasted}
use Rattle.lines.specs.Text.{wrote, Put}

-- Laws.
module _ (out : List ℕ) (at : ℕ) where
  pub wrote-end : (s : List ℕ) → (wrote out at s).0 ≡ at + length s
  unfolding wrote
  wrote-end s = refl

  pub length-wrote : (s : List ℕ) → at + length s ≤ length out → length (wrote out at s).1 ≡ length out
  unfolding wrote
  length-wrote s h = length-pasted out at s (length s) h (omega arith)

  -- nothing
  pub wrote_none : wrote out at [] ≡ (at, out)
  unfolding wrote
  wrote_none = rw (add-zero at, ← pasted-zero out at [])

  -- one byte
  pub wrote-byte : (b : ℕ) → at < length out → (at + 1, set out at b) ≡ wrote out at (b ∷ [])
  unfolding wrote
  wrote-byte b h =
      let z = pasted-zero out at (b ∷ []) in
      let p = pasted-one out at (b ∷ []) 0 (omega arith) (omega arith) in
      ap (λ (l : List ℕ). (at + 1, l)) (rw (add-zero at, ← z) at p)

  -- a copy
  pub wrote_copy : (o s : List ℕ) → o ≡ pasted out at s (length s) → (at + length s, o) ≡ wrote out at s
  unfolding wrote
  wrote_copy o s e = rw e

  -- one text behind another
  pub wrote-append : (s t : List ℕ) → at + length s + length t ≤ length out
      → wrote (wrote out at s).1 (wrote out at s).0 t ≡ wrote out at (s ++ t)
  unfolding wrote
  wrote-append s t h = rw (pasted-append out at s t h, length-append, add_assoc)

-- what was written, and then more behind it
module _ (out o : List ℕ) (at r : ℕ) (s : List ℕ) (e : (r, o) ≡ wrote out at s) where
  pub written-end : r ≡ at + length s
  unfolding wrote
  written-end = ap (λ (x : ℕ × List ℕ). x.0) e

  pub written-length : at + length s ≤ length out → length o ≡ length out
  written-length h = ap (λ (x : ℕ × List ℕ). length x.1) e ∙ length-wrote out at s h

  -- room is left behind it
  pub written-room : (k : ℕ) → at + length s + k ≤ length out → r + k ≤ length o
  written-room k h = let l = written-length (omega arith) in let i = written-end in omega arith

  pub written-more : (o' : List ℕ) (r' : ℕ) (t : List ℕ) → (r', o') ≡ wrote o r t → at + length s + length t ≤ length out
      → (r', o') ≡ wrote out at (s ++ t)
  written-more o' r' t f h = f ∙ ap (λ (x : ℕ × List ℕ). wrote x.1 x.0 t) e ∙ wrote-append out at s t h

-- two bytes
pub wrote_two : (out : List ℕ) (at a b : ℕ) → at + 2 ≤ length out → (at + 2, set (set out at a) (at + 1) b) ≡ wrote out at (a ∷ b ∷ [])
wrote_two out at a b h =
    let e = wrote-byte out at a (omega arith) in
    let i : at + 1 + 1 ≡ at + 2 = omega arith in
    let w = wrote-byte (set out at a) (at + 1) b (rw length-set (omega arith)) in
    written-more out _ at _ (a ∷ []) e _ _ (b ∷ []) (rw i at w) (omega arith)

-- or at most some more
pub put-within : {out o : List ℕ} {at r k l : ℕ} {s : List ℕ} → Put out at s k r o → k ≤ l → Put out at s l r o
put-within p h = record { written = p.written; within = omega (arith, p.within) }

-- and then more behind it
pub put-more : {out o o' : List ℕ} {at r r' : ℕ} {s t : List ℕ} {k l : ℕ} → Put out at s k r o → Put o r t l r' o'
    → at + (k + l) ≤ length out → Put out at (s ++ t) (k + l) r' o'
put-more {out} {o} {o'} {at} {r} {r'} {s} {t} p q h =
    let e = written-end out o at r s p.written in
    let f = written-end o o' r r' t q.written in
    let b = p.within in
    let d = q.within in
    record { written = written-more out o at r s p.written o' r' t q.written (omega arith); within = omega arith }

-- four texts, one behind the other
pub put_four : {out o₁ o₂ o₃ o₄ s₁ s₂ s₃ s₄ : List ℕ} {at r₁ r₂ r₃ r₄ k₁ k₂ k₃ k₄ : ℕ} → Put out at s₁ k₁ r₁ o₁
    → Put o₁ r₁ s₂ k₂ r₂ o₂ → Put o₂ r₂ s₃ k₃ r₃ o₃ → Put o₃ r₃ s₄ k₄ r₄ o₄ → at + (k₁ + k₂ + k₃ + k₄) ≤ length out
    → Put out at (((s₁ ++ s₂) ++ s₃) ++ s₄) (k₁ + k₂ + k₃ + k₄) r₄ o₄
put_four p q v w h = put-more (put-more (put-more p q (omega arith)) v (omega arith)) w h
