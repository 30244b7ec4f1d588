-- Laws of specs/Memory.antt.
use Rattle.std.specs.Prelude.{ℕ, zero, suc, ◌+◌, ◌-◌, ◌<◌, ◌≤◌, ◌≡◌, Bool, true, false, cond, List, [], ◌++◌, length, get_or, set, take, drop, leb}
use Rattle.std.proofs.Math.Path.{refl}
use Rattle.std.proofs.Common.{sym, ◌∙◌, ap, append_assoc, add_assoc, add-one, arith, length-take, length-drop, le-leb, leb-true, drop-drop, take_all, take-take, length-take-le}
use Rattle.std.proofs.lemmas.Bool.{lt-leb}
use Rattle.std.proofs.Math.Seq.{paste, paste-zero, paste-suc, take-length, take-append-add}
use Rattle.std.proofs.lemmas.List.Edits.{length-paste, take-paste, drop-paste}
use Rattle.wire.specs.Memory.{pasted, part_of}

-- by where it lies
pub part-inside : (s : List ℕ) (start len : ℕ) → start + len ≤ length s → part_of s start len ≡ take len (drop start s)
unfolding part_of
part-inside s start len h = rw (le-leb start (length s) (omega arith), le-leb len (length s - start) (omega arith))

pub part-outside : (s : List ℕ) (start len : ℕ) → length s < start + len → part_of s start len ≡ []
unfolding part_of
part-outside s start len h = go (leb start (length s)) refl
  where
    go : (b : Bool) → leb start (length s) ≡ b → cond b (cond (leb len (length s - start)) (take len (drop start s)) []) [] ≡ []
    go true e = let i : start ≤ length s = leb-true _ _ e in rw (lt-leb len (length s - start) (omega arith))
    go false e = refl

-- a list from `n` to its end
pub slice-rest : (b : List ℕ) (n : ℕ) → take (length b - n) (drop n b) ≡ drop n b
slice-rest b n = take_all (length b - n) (drop n b) (rw (length-drop n b) (omega arith))

-- nothing put in
pub pasted-zero : (d : List ℕ) (at : ℕ) (s : List ℕ) → d ≡ pasted d at s 0
unfolding pasted
pasted-zero d at s = paste-zero d at s

-- one byte more
pub pasted-one : (d : List ℕ) (at : ℕ) (s : List ℕ) (n : ℕ) → at + n < length d → n < length s
    → set (pasted d at s n) (at + n) (get_or s n 0) ≡ pasted d at s (n + 1)
unfolding pasted
pasted-one d at s n hd hs = rw add-one (paste-suc d at s n 0 hd hs)

pub length-pasted : (d : List ℕ) (at : ℕ) (s : List ℕ) (n : ℕ) → at + n ≤ length d → n ≤ length s → length (pasted d at s n) ≡ length d
unfolding pasted
length-pasted d at s n hd hs = length-paste d at s n hd hs

-- one list and then another, put in one behind the other
pub pasted-append : (d : List ℕ) (at : ℕ) (s t : List ℕ) → at + length s + length t ≤ length d
    → pasted (pasted d at s (length s)) (at + length s) t (length t) ≡ pasted d at (s ++ t) (length s + length t)
unfolding pasted
pasted-append d at s t h =
    let m : ℕ = length s in
    let n : ℕ = length t in
    let q : drop (at + m + n) (paste d at s m) ≡ drop (at + m + n) d =
    sym (drop-drop n (at + m) (paste d at s m)) ∙ ap (drop n) (drop-paste d at s m (omega arith) (omega arith)) ∙ drop-drop n (at + m) d in
    rw (take-paste d at s m (omega arith) (omega arith), q, take-append-add s t n, take-length s, take-length t, ← add_assoc at m n)
    (ap (λ (l : List ℕ). l ++ drop (at + m + n) d) (append_assoc (take at d) s t))

-- where a part lies
module _ (s : List ℕ) (start len : ℕ) where
  abbrev Lies : List ℕ → Type 0
  Lies b = (0 < length b → start + length b ≤ length s) × (length b ≤ len)

  part_by : (a b : Bool) → leb start (length s) ≡ a → leb len (length s - start) ≡ b
      → Lies (cond a (cond b (take len (drop start s)) []) [])
  part_by false b p q = (λ h. omega arith, omega arith)
  part_by true false p q = (λ h. omega arith, omega arith)
  part_by true true p q =
      let l = leb-true start (length s) p in
      let t = length-take len (drop start s) in
      let d = length-drop start s in
      (λ h. omega arith, omega arith)

  -- it lies in the memory, unless it is empty
  pub part-within : 0 < length (part_of s start len) → start + length (part_of s start len) ≤ length s
  unfolding part_of
  part-within = (part_by (leb start (length s)) (leb len (length s - start)) refl refl).0

  pub part_length : length (part_of s start len) ≤ len
  unfolding part_of
  part_length = (part_by (leb start (length s)) (leb len (length s - start)) refl refl).1

-- so places in it are numbers, as all of the memory's are
pub part-reach : (s : List ℕ) (start len k n : ℕ) → start < n → length s < n → k ≤ length (part_of s start len) → start + k < n
part-reach s start len zero n h l e = omega arith
part-reach s start len (suc k) n h l e = let w = part-within s start len (omega arith) in omega arith

-- the first bytes of a list, put into a memory
pub pasted-take : (d : List ℕ) (at : ℕ) (s : List ℕ) (n : ℕ) → n ≤ length s
    → pasted d at (take n s) (length (take n s)) ≡ pasted d at s n
unfolding pasted
pasted-take d at s n h = let e : length (take n s) ≡ n = length-take-le n s h in rw (e, take-take n n s (omega arith))
