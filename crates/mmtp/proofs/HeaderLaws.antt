-- Laws of specs/Header.antt.
use Rattle.std.specs.Prelude.{ℕ, ◌+◌, ◌≤◌, ◌<◌, Bool, true, false, cond, ◌&&◌, List, ◌≡◌, length, eqb, Some, None}
use Rattle.std.proofs.Math.Bool.{and-false, and-eq-true_iff}
use Rattle.std.proofs.Common.{sym, ap, arith}
use borrow.Author.Tests.{leb-true, leb-false, le-leb, lt-leb, eq-eqb, ne_eqb}
use Rattle.std.proofs.Math.Dec.{leb}
use Rattle.wire.specs.Bits.{bits_at}
use Rattle.mmtp.proofs.Cases.{chose, chose-not}
use Rattle.mmtp.specs.declared.header.Header.{Header}
use Rattle.mmtp.specs.Header.{first, plain, fixed_bytes, extension_length, extension_bytes, payload_start, start_of, fields, header_of}

pub plain-good : (x : ℕ) → bits_at 6 2 x ≡ 0 → bits_at 3 2 x ≡ 0 → plain x ≡ true
unfolding plain
plain-good x v f = rw (eq-eqb _ _ v, eq-eqb _ _ f)

pub other_version : (x : ℕ) → (bits_at 6 2 x ≡ 0 → ⊥) → plain x ≡ false
unfolding plain
other_version x v = rw (ne_eqb _ _ v)

pub other_fec : (x : ℕ) → (bits_at 3 2 x ≡ 0 → ⊥) → plain x ≡ false
unfolding plain
other_fec x f = rw (ne_eqb _ _ f, and-false)

pub with-counter : (x : ℕ) → bits_at 5 1 x ≡ 1 → fixed_bytes x ≡ 16
unfolding fixed_bytes
with-counter x c = rw (eq-eqb _ _ c)

pub no_counter : (x : ℕ) → (bits_at 5 1 x ≡ 1 → ⊥) → fixed_bytes x ≡ 12
unfolding fixed_bytes
no_counter x c = rw (ne_eqb _ _ c)

pub fixed_bounds : (x : ℕ) → (12 ≤ fixed_bytes x) × (fixed_bytes x ≤ 16)
unfolding fixed_bytes
fixed_bounds x = go (eqb (bits_at 5 1 x) 1)
  where
    go : (b : Bool) → (12 ≤ cond b 16 12) × (cond b 16 12 ≤ 16)
    go true = (omega arith, omega arith)
    go false = (omega arith, omega arith)

short-not : (n : ℕ) → None ≡ Some n → ⊥
short-not n e = let z : ◌≡◌ {A = ℕ} 0 1 = cc in omega arith

malformed_not : (h : Header) → None ≡ Some h → ⊥
malformed_not h e = let z : ◌≡◌ {A = ℕ} 0 1 = cc in omega arith

module _ (m : List ℕ) where
  pub no_extension : (bits_at 1 1 (first m) ≡ 1 → ⊥) → payload_start m ≡ fixed_bytes (first m)
  unfolding payload_start extension_bytes
  no_extension x = rw (ne_eqb _ _ x) (omega arith)

  pub with_extension : bits_at 1 1 (first m) ≡ 1 → payload_start m ≡ fixed_bytes (first m) + 4 + extension_length m
  unfolding payload_start extension_bytes
  with_extension x = rw (eq-eqb _ _ x) (omega arith)

  pub start-low : 12 ≤ payload_start m
  unfolding payload_start
  start-low = omega (arith, fixed_bounds (first m))

  pub start-whole : payload_start m ≤ length m → start_of m ≡ Some (payload_start m)
  unfolding start_of
  start-whole h = rw (le-leb _ _ h)

  pub start-cut : length m < payload_start m → start_of m ≡ None
  unfolding start_of
  start-cut h = rw (lt-leb _ _ h)

  -- what its answer tells
  pub start-at : (n : ℕ) → start_of m ≡ Some n → (n ≡ payload_start m) × (payload_start m ≤ length m)
  unfolding start_of
  start-at n e =
      let a = chose (leb (payload_start m) (length m)) (Some (payload_start m)) None (Some n) e (short-not n) in
      let q : Some (payload_start m) ≡ Some n = a.1 in
      (cc, leb-true _ _ a.0)

  -- where it finds the start, the packet has the fields
  pub fields_inside : (n : ℕ) → Some n ≡ start_of m → 12 ≤ length m
  fields_inside n e = omega (arith, (start-at n (sym e)).1, start-low)

  pub start-short : start_of m ≡ None → length m < payload_start m
  unfolding start_of
  start-short e =
      let n = payload_start m in
      leb-false _ _ (chose-not (leb n (length m)) (Some n) None None e (λ q. short-not n (sym q))).0

  pub header-cut : length m < payload_start m → header_of m ≡ None
  unfolding header_of
  header-cut h = rw (lt-leb _ _ h)

  pub header-other : plain (first m) ≡ false → header_of m ≡ None
  unfolding header_of
  header-other p = rw (p, and-false)

  pub header-good : payload_start m ≤ length m → plain (first m) ≡ true → header_of m ≡ Some (fields m)
  unfolding header_of
  header-good h p = rw (le-leb _ _ h, p)

  -- what a good header tells
  pub header_is : (h : Header) → header_of m ≡ Some h → (h ≡ fields m) × (payload_start m ≤ length m) × (plain (first m) ≡ true)
  unfolding header_of
  header_is h e =
      let whole = leb (payload_start m) (length m) in
      let a = chose (whole && plain (first m)) (Some (fields m)) None (Some h) e (malformed_not h) in
      let q : Some (fields m) ≡ Some h = a.1 in
      let t = (and-eq-true_iff whole (plain (first m))).0 a.0 in
      (cc, leb-true _ _ t.0, t.1)

  -- its payload starts in the packet, past the fields
  pub start-inside : (h : Header) → header_of m ≡ Some h → (12 ≤ h.start) × (h.start ≤ length m)
  start-inside h e =
      let a = header_is h e in
      let s : h.start ≡ payload_start m = ap (λ (x : Header). x.start) a.0 in
      (omega (arith, start-low), omega arith)
