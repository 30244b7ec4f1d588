-- Bytes put into a memory, list behind list.
use Rattle.std.proofs.Common.{◌≡◌, ℕ, ◌+◌, ◌≤◌, List, ◌++◌, length, ap, ◌∙◌, arith, length-append}
use Rattle.wire.specs.Memory.{pasted}
use Rattle.wire.proofs.MemoryLaws.{pasted-append}

-- `e` is `d` with the `n` bytes of `s` put in from `at` on
pub record Wrote (d : List ℕ) (at : ℕ) (e s : List ℕ) (n : ℕ) : Type 0 where
  pub is : e ≡ pasted d at s n
  pub long : length s ≡ n

pub wrote : (d : List ℕ) (at : ℕ) (e s : List ℕ) (n : ℕ) → e ≡ pasted d at s n → length s ≡ n → Wrote d at e s n
wrote d at e s n p l = record { is = p; long = l }

module _ {d : List ℕ} {at : ℕ} {e s : List ℕ} {n : ℕ} (w : Wrote d at e s n) (f t : List ℕ) (j k : ℕ) where
  -- and then those of `t` behind them
  pub behind : f ≡ pasted e k t j → length t ≡ j → k ≡ at + n → at + n + j ≤ length d → Wrote d at f (s ++ t) (n + j)
  behind p l q h =
      let a : pasted (pasted d at s (length s)) (at + length s) t (length t) ≡ pasted d at (s ++ t) (length s + length t) =
      pasted-append d at s t (omega (arith, w.long)) in
      let b : pasted (pasted d at s n) (at + n) t j ≡ pasted d at (s ++ t) (n + j) = rw (w.long, l) at a in
      record {
        is = p ∙ ap (λ (x : List ℕ). pasted x k t j) w.is ∙ ap (λ (x : ℕ). pasted (pasted d at s n) x t j) q ∙ b;
        long = rw (length-append, w.long, l);
      }

-- a turn of a loop that writes `l`, of which `s` comes first: what is left is put in behind `s`
pub turn : (d e s t l : List ℕ) (at k : ℕ) → l ≡ s ++ t → e ≡ pasted d at s (length s) → k ≡ at + length s
    → at + length l ≤ length d → pasted e k t (length t) ≡ pasted d at l (length l)
turn d e s t l at k p q r h =
    let n : length l ≡ length s + length t = ap length p ∙ length-append s t in
    rw (q, r, p, length-append s t) (pasted-append d at s t (omega arith))
