-- Parts of memories: of a part, and of a memory with bytes put into it.
use Prim.Native.Nat.{ℕ, ◌+◌, ◌-◌, ◌*◌, ◌≤◌, ◌<◌}
use mathlib.Core.Path.{◌≡◌, refl, sym, ◌∙◌, ap}
use mathlib.Core.Bool.{Bool, true, false, cond}
use mathlib.Core.List.{List, [], ◌++◌}
use native.Mathlib.Nat.{mul-le-mul_right, add_assoc}
use native.Mathlib.Omega.{arith}
use borrow.Author.Tests.{leb-true}
use lib.Dec.{leb}
use lib.ListN.{length, take, drop, length-drop}
use lib.Seq.{take-take, drop-drop, drop-append-le, take-append-le, length-take-le, take-paste, drop-paste}
use Rattle.wire.specs.Memory.{part_of, pasted}
use Rattle.wire.proofs.MemoryLaws.{part-inside}
use Rattle.mmtp.proofs.Take.{drop-take}

-- a part that lies in the memory
module _ (s : List ℕ) (i n : ℕ) (h : i + n ≤ length s) where
  pub length_part : length (part_of s i n) ≡ n
  length_part = rw (part-inside s i n h) (length-take-le n (drop i s) (omega (arith, length-drop i s)))

-- a part from a later start
pub part-from : (s : List ℕ) (i e k : ℕ) → i + k ≤ e → e ≤ length s → part_of s (i + k) (e - (i + k)) ≡ drop k (part_of s i (e - i))
part-from s i e k h l =
    let n : ℕ = e - (i + k) in
    let z : e - i ≡ k + n = omega arith in
    rw (part-inside s (i + k) n (omega arith), part-inside s i (e - i) (omega arith), z, drop-take k n (drop i s), drop-drop k i s)

part-zero : (s : List ℕ) (i : ℕ) → part_of s i 0 ≡ []
unfolding part_of
part-zero s i = go (leb i (length s)) (leb 0 (length s - i))
  where
    go : (t v : Bool) → cond t (cond v (take 0 (drop i s)) []) [] ≡ []
    go true true = refl
    go true false = refl
    go false v = refl

part-past : (s : List ℕ) (i n : ℕ) → leb i (length s) ≡ false → part_of s i n ≡ []
unfolding part_of
part-past s i n x = rw x

part-long : (s : List ℕ) (i n : ℕ) → leb i (length s) ≡ true → leb n (length s - i) ≡ false → part_of s i n ≡ []
unfolding part_of
part-long s i n x y = rw (x, y)

-- a part of a part
pub part-part : (s : List ℕ) (i n a len : ℕ) → a + len ≤ length (part_of s i n)
    → part_of s (i + a) len ≡ take len (drop a (part_of s i n))
part-part s i n a len h = go (leb i (length s)) refl (leb n (length s - i)) refl
  where
    outside : part_of s i n ≡ [] → part_of s (i + a) len ≡ take len (drop a (part_of s i n))
    outside e =
        let l = ap length e in
        let z : len ≡ 0 = omega arith in
        rw (z, part-zero s (i + a))

    go : (t : Bool) → leb i (length s) ≡ t → (v : Bool) → leb n (length s - i) ≡ v
        → part_of s (i + a) len ≡ take len (drop a (part_of s i n))
    go true x true y =
        let p = leb-true i (length s) x in
        let q = leb-true n (length s - i) y in
        let l = length_part s i n (omega arith) in
        let b : ℕ = n - a in
        let z : n ≡ a + b = omega arith in
        let d : drop a (take n (drop i s)) ≡ take b (drop (i + a) s) =
        ap (λ (k : ℕ). drop a (take k (drop i s))) z ∙ drop-take a b (drop i s) ∙ ap (take b) (drop-drop a i s) in
        part-inside s (i + a) len (omega arith)
        ∙ sym (ap (λ (r : List ℕ). take len (drop a r)) (part-inside s i n (omega arith))
        ∙ ap (take len) d
        ∙ take-take len b (drop (i + a) s) (omega arith))
    go true x false y = outside (part-long s i n x y)
    go false x v y = outside (part-past s i n x)

-- bytes put in behind `at` bytes from `base`, and what then stands from `base`
module _ (c src : List ℕ) (n : ℕ) (hs : n ≤ length src) where
  pub pasted-behind : (base at : ℕ) → base + at + n ≤ length c
      → take (at + n) (drop base (pasted c (base + at) src n)) ≡ take at (drop base c) ++ take n src
  unfolding pasted
  pasted-behind base at h =
      let x : List ℕ = pasted c (base + at) src n in
      let m : length (take (base + at) c) ≡ base + at = length-take-le (base + at) c (omega arith) in
      sym (drop-take base (at + n) x)
      ∙ ap (λ (k : ℕ). drop base (take k x)) (sym (add_assoc base at n))
      ∙ ap (drop base) (take-paste c (base + at) src n (omega arith) hs)
      ∙ drop-append-le base (take (base + at) c) (take n src) (omega arith)
      ∙ ap (λ (l : List ℕ). l ++ take n src) (drop-take base at c)

  -- what stands before, or after, is untouched
  pub pasted-before : (to i len : ℕ) → to ≤ length c → i + len ≤ to → take len (drop i (pasted c to src n)) ≡ take len (drop i c)
  unfolding pasted
  pasted-before to i len h k =
      let x : List ℕ = pasted c to src n in
      let m : length (take to c) ≡ to = length-take-le to c h in
      sym (drop-take i len x)
      ∙ ap (drop i) (sym (take-take (i + len) (to + n) x (omega arith))
      ∙ ap (take (i + len)) (take-paste c to src n h hs)
      ∙ take-append-le (i + len) (take to c) (take n src) (omega arith)
      ∙ take-take (i + len) to c k)
      ∙ drop-take i len c

  pub pasted-after : (to i : ℕ) → to ≤ length c → to + n ≤ i → drop i (pasted c to src n) ≡ drop i c
  unfolding pasted
  pasted-after to i h k =
      let x : List ℕ = pasted c to src n in
      let z : to + n + (i - (to + n)) ≡ i = omega arith in
      ap (λ (j : ℕ). drop j x) (sym z)
      ∙ sym (drop-drop (i - (to + n)) (to + n) x)
      ∙ ap (drop (i - (to + n))) (drop-paste c to src n h hs)
      ∙ drop-drop (i - (to + n)) (to + n) c
      ∙ ap (λ (j : ℕ). drop j c) z

-- the places of two packet_ids do not meet
pub regions : (r j k : ℕ) → j < k → j * r + r ≤ k * r
regions r j k h = omega (arith, mul-le-mul_right r h)
