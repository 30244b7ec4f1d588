-- The packer's answer, case by case in the order of its tests; and why a refused call leaves the output.
use Rattle.std.proofs.Common.{◌≡◌, ℕ, ◌+◌, ◌*◌, ◌<◌, ◌≤◌, Bool, true, false, cond, eqb, ltb, List, length, take, sym, refl, ap, mul-le-mul, arith, le-ltb, lt-ltb, eq-eqb, ne_eqb}
use borrow.Author.Tests.{eqb-false}
use lib.Seq.{take-length, take-append_seam}
use Rattle.wire.proofs.Choice.{either}
use Rattle.wire.specs.Memory.{pasted}
use Rattle.reassembly.specs.declared.unit.Unit.{Unit}
use Rattle.packer.specs.Packed.{Packed}
use Rattle.packer.specs.Packed.{Written, Refused}
use Rattle.packer.specs.Pieces.{pieces, count_of, max_pieces}
use Rattle.packer.specs.Packer.{run, packed, pack_refusal, pack_of}
use Rattle.packer.specs.Writing.{head_bytes}
use Rattle.packer.specs.Refusals.{PackRefused}
use Rattle.packer.proofs.Pieces.{count-pieces, covers}
use Rattle.packer.proofs.Runs.{length_run}

-- what is no more than the most pieces, of at most 1,400 bytes each, is small
pub small : (m len head : ℕ) → 0 < m → m ≤ 1400 → count_of m len ≤ max_pieces → head ≤ 41
    → (count_of m len * head ≤ max_pieces * 41) × (len ≤ 1400 * max_pieces)
small m len head p h n k =
    let a : count_of m len * head ≤ max_pieces * 41 = mul-le-mul n k in
    let b : m * count_of m len ≤ 1400 * max_pieces = mul-le-mul h n in
    (omega arith, omega (arith, covers m len p))

module _ (u : Unit) (cid sn m : ℕ) (s out : List ℕ) where
  -- the length of the run
  abbrev total : ℕ
  total = count_of m (length s) * head_bytes u.kind + length s

  pub size-zero : m ≡ 0 → pack_of u cid sn m s out ≡ (Refused 70, out)
  unfolding pack_of pack_refusal
  size-zero e = rw (eq-eqb _ _ e)

  module _ (a : m ≡ 0 → ⊥) where
    pub size_large : 1400 < m → pack_of u cid sn m s out ≡ (Refused 70, out)
    unfolding pack_of pack_refusal
    size_large h = rw (ne_eqb _ _ a, lt-ltb _ _ h)

    module _ (b : m ≤ 1400) where
      pub kind_large : 4 < u.kind → pack_of u cid sn m s out ≡ (Refused 71, out)
      unfolding pack_of pack_refusal
      kind_large h = rw (ne_eqb _ _ a, le-ltb _ _ b, lt-ltb _ _ h)

      module _ (k : u.kind ≤ 4) where
        pub too_many : max_pieces < count_of m (length s) → pack_of u cid sn m s out ≡ (Refused 72, out)
        unfolding pack_of pack_refusal
        too_many h = rw (ne_eqb _ _ a, le-ltb _ _ b, le-ltb _ _ k, count-pieces m s, lt-ltb _ _ h)

        module _ (n : count_of m (length s) ≤ max_pieces) where
          pub output-short : length out < total
              → pack_of u cid sn m s out ≡ (Refused 73, out)
          unfolding pack_of pack_refusal
          output-short h =
              rw (ne_eqb _ _ a, le-ltb _ _ b, le-ltb _ _ k, length_run u cid sn m s, count-pieces m s, le-ltb _ _ n, lt-ltb _ _ h)

          module _ (l : total ≤ length out) where
            pub cid_large : 4095 < cid → pack_of u cid sn m s out ≡ (Refused 74, out)
            unfolding pack_of pack_refusal
            cid_large h =
                rw (
                  ne_eqb _ _ a,
                  le-ltb _ _ b,
                  le-ltb _ _ k,
                  length_run u cid sn m s,
                  count-pieces m s,
                  le-ltb _ _ n,
                  le-ltb _ _ l,
                  lt-ltb _ _ h,
                )

            pub accepted : cid ≤ 4095
                → pack_of u cid sn m s out
                ≡ (Written total, packed (run u cid sn m s) out)
            unfolding pack_of pack_refusal
            accepted h =
                rw (
                  ne_eqb _ _ a,
                  le-ltb _ _ b,
                  le-ltb _ _ k,
                  length_run u cid sn m s,
                  count-pieces m s,
                  le-ltb _ _ n,
                  le-ltb _ _ l,
                  le-ltb _ _ h,
                )

-- a refusal is 70 to 74
refusal_bounds : (m kind n len room cid : ℕ) → let r = pack_refusal m kind n len room cid in (r ≡ 0 → ⊥) → (70 ≤ r) × (r ≤ 74)
unfolding pack_refusal
refusal_bounds m kind n len room cid =
    let P : ℕ → Type 0 = λ r. (r ≡ 0 → ⊥) → (70 ≤ r) × (r ≤ 74) in
    either P (eqb m 0) (λ z. (omega arith, omega arith))
    (either P (ltb 1400 m) (λ z. (omega arith, omega arith))
    (either P (ltb 4 kind) (λ z. (omega arith, omega arith))
    (either P (ltb max_pieces n) (λ z. (omega arith, omega arith))
    (either P (ltb room len) (λ z. (omega arith, omega arith))
    (either P (ltb 4095 cid) (λ z. (omega arith, omega arith)) (λ z. absurd (z refl)))))))

module _ (u : Unit) (cid sn m : ℕ) (s out : List ℕ) where
  abbrev refusal : ℕ
  refusal = pack_refusal m u.kind (length (pieces m s)) (length (run u cid sn m s)) (length out) cid

  -- by the test for a refusal
  abbrev answer : Bool → Packed × List ℕ
  answer t = cond t (Written (length (run u cid sn m s)), packed (run u cid sn m s) out) (Refused refusal, out)

  refused-with : (n : ℕ) (after : List ℕ) → pack_of u cid sn m s out ≡ (Refused n, after)
      → (70 ≤ n) × (n ≤ 74) × (after ≡ out)
  unfolding pack_of
  refused-with n after e = go (eqb refusal 0) refl e
    where
      go : (t : Bool) → eqb refusal 0 ≡ t → answer t ≡ (Refused n, after) → (70 ≤ n) × (n ≤ 74) × (after ≡ out)
      go true t e = let z : ◌≡◌ {A = ℕ} 0 1 = cc (ap (λ x. x.0) e) in (omega arith, omega arith, absurd (omega arith))
      go false t e =
          let b = refusal_bounds m u.kind _ _ _ cid (eqb-false _ _ t) in
          let q : refusal ≡ n = cc (ap (λ x. x.0) e) in
          (rw (← q) b.0, rw (← q) b.1, sym (ap (λ x. x.1) e))

pub pack_refused : PackRefused
pack_refused u cid sn m s out = refused-with u cid sn m s out

-- the run stands in the output from byte 0 on
pub run-written : (r out : List ℕ) → take (length r) (packed r out) ≡ r
unfolding packed pasted
run-written r out = rw take-length (take-append_seam r _)
