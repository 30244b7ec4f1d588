-- Laws of specs/Flow.antt.
use Rattle.std.specs.Prelude.{ℕ, ◌+◌, ◌≤◌, ◌<◌, Bool, true, false, cond, List, ◌≡◌, eqb, ltb, Option, Some, None}
use Rattle.std.proofs.Math.Path.{refl}
use native.Mathlib.Omega.{arith}
use borrow.Author.Tests.{eqb-true, ltb-false, lt-ltb, le-ltb, eq-eqb, ne_eqb}
use Rattle.std.proofs.Math.ListN.{length, get_or}
use Rattle.wire.specs.Bits.{bits_at}
use Rattle.wire.specs.Field.{be}
use Rattle.mmtp.specs.declared.note.PacketNote.TheVariants.{BadFlow}
use Rattle.mmtp.proofs.Cases.{chose, chose-not}
use Rattle.mmtp.specs.Flow.{Silent, Noted, Mmtp, compressed_header, behind, compressed_of, flow_of}

-- each header type's place is one of four
pub start_bounds : (t n : ℕ) → compressed_header t ≡ Some n → (3 ≤ n) × (n ≤ 45)
unfolding compressed_header
start_bounds t n e = go (eqb t 0x20) (eqb t 0x21) (eqb t 0x60) (eqb t 0x61) e
  where
    go : (a b c d : Bool) → cond a (Some 23) (cond b (Some 5) (cond c (Some 45) (cond d (Some 3) None))) ≡ Some n
        → (3 ≤ n) × (n ≤ 45)
    go true b c d q = let r : ◌≡◌ {A = ℕ} 23 n = cc in (omega arith, omega arith)
    go false true c d q = let r : ◌≡◌ {A = ℕ} 5 n = cc in (omega arith, omega arith)
    go false false true d q = let r : ◌≡◌ {A = ℕ} 45 n = cc in (omega arith, omega arith)
    go false false false true q = let r : ◌≡◌ {A = ℕ} 3 n = cc in (omega arith, omega arith)
    go false false false false q = let z : ◌≡◌ {A = ℕ} 0 1 = cc in (omega arith, omega arith)

-- any other header type
pub reserved : (t : ℕ) → (t ≡ 0x20 → ⊥) → (t ≡ 0x21 → ⊥) → (t ≡ 0x60 → ⊥) → (t ≡ 0x61 → ⊥) → compressed_header t ≡ None
unfolding compressed_header
reserved t a b c d = rw (ne_eqb _ _ a, ne_eqb _ _ b, ne_eqb _ _ c, ne_eqb _ _ d)

malformed_not : (n : ℕ) → Noted BadFlow ≡ Mmtp n → ⊥
malformed_not n e = let z : ◌≡◌ {A = ℕ} 0 1 = cc in omega arith

silent-not : (n : ℕ) → Silent ≡ Mmtp n → ⊥
silent-not n e = let z : ◌≡◌ {A = ℕ} 0 1 = cc in omega arith

module _ (p : List ℕ) where
  pub behind-cut : (n : ℕ) → length p < 4 + n → behind (Some n) p ≡ Noted BadFlow
  unfolding behind
  behind-cut n h = rw (lt-ltb _ _ h)

  pub behind-whole : (n : ℕ) → 4 + n ≤ length p → behind (Some n) p ≡ Mmtp (4 + n)
  unfolding behind
  behind-whole n h = rw (le-ltb _ _ h)

  behind-place : (h : Option ℕ) (n : ℕ) → ((k : ℕ) → h ≡ Some k → 3 ≤ k) → behind h p ≡ Mmtp n → (7 ≤ n) × (n ≤ length p)
  unfolding behind
  behind-place (Some k) n b e =
      let a = chose-not (ltb (length p) (4 + k)) (Noted BadFlow) (Mmtp (4 + k)) (Mmtp n) e (malformed_not n) in
      let l : 4 + k ≤ length p = ltb-false _ _ a.0 in
      let s : 4 + k ≡ n = let q : Mmtp (4 + k) ≡ Mmtp n = a.1 in cc in
      let m : 3 ≤ k = b k refl in
      (omega arith, omega arith)
  behind-place None n b e = absurd (malformed_not n e)

module _ (p : List ℕ) (cid : ℕ) where
  pub under_3-bytes : length p < 7 → compressed_of p cid ≡ Noted BadFlow
  unfolding compressed_of
  under_3-bytes h = rw (lt-ltb _ _ h)

  pub other-cid : 7 ≤ length p → (bits_at 4 12 (be 2 p 4) ≡ cid → ⊥) → compressed_of p cid ≡ Silent
  unfolding compressed_of
  other-cid h q = rw (le-ltb _ _ h, ne_eqb _ _ q)

  pub own-cid : 7 ≤ length p → bits_at 4 12 (be 2 p 4) ≡ cid → compressed_of p cid ≡ behind (compressed_header (get_or p 6 0)) p
  unfolding compressed_of
  own-cid h q = rw (le-ltb _ _ h, eq-eqb _ _ q)

  pub other-type : (get_or p 1 0 ≡ 3 → ⊥) → flow_of p cid ≡ Silent
  unfolding flow_of
  other-type q = rw (ne_eqb _ _ q)

  pub type-3 : get_or p 1 0 ≡ 3 → flow_of p cid ≡ compressed_of p cid
  unfolding flow_of
  type-3 q = rw (eq-eqb _ _ q)

  -- the MMTP packet lies in its TLV packet, of type 3, behind the header type
  pub mmtp_place : (n : ℕ) → flow_of p cid ≡ Mmtp n → (get_or p 1 0 ≡ 3) × (7 ≤ n) × (n ≤ length p)
  unfolding flow_of compressed_of
  mmtp_place n e =
      let t = get_or p 6 0 in
      let a = chose (eqb (get_or p 1 0) 3) (compressed_of p cid) Silent (Mmtp n) e (silent-not n) in
      let b = chose-not (ltb (length p) 7) (Noted BadFlow) _ (Mmtp n) a.1 (malformed_not n) in
      let d = chose (eqb (bits_at 4 12 (be 2 p 4)) cid) (behind (compressed_header t) p) Silent (Mmtp n) b.1 (silent-not n) in
      let place = behind-place p (compressed_header t) n (λ k h. (start_bounds t k h).0) d.1 in
      (eqb-true _ _ a.0, place.0, place.1)
