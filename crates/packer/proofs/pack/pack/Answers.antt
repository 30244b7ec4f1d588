-- Why pack meets its contract: each return is one case of the definition.
use Rattle.std.proofs.Common.{◌≡◌, ℕ, ◌*◌, ◌≤◌, length, sym, arith}
use Rattle.packer.specs.Pieces.{count_by, count_of, max_pieces}
use Rattle.packer.proofs.Pieces.{Bounded, count_bounded}
use Rattle.packer.proofs.Refusals.{small, size-zero, size_large, kind_large, too_many, output-short, cid_large, accepted}
use Rattle.packer.proofs.pack.pack.Goals as goal
use Rattle.packer.proofs.pack.pack.Goals.{then-m-eq0-via-then-m-eq0, then-m-eq0-via-else-m-eq0+then-m-gt1400}

pub returns-then-m-eq0 : goal.returns-then-m-eq0
returns-then-m-eq0 c =
    elim c.then-m-eq0.branch [
      | then-m-eq0-via-then-m-eq0 w ↦ sym (size-zero _ _ _ _ _ _ w.if-m-eq0.true)
      | then-m-eq0-via-else-m-eq0+then-m-gt1400 w ↦ sym (size_large _ _ _ _ _ _ w.if-m-eq0.false w.if-m-gt1400.true)
    ]

pub returns-then-unit-gt4 : goal.returns-then-unit-gt4
returns-then-unit-gt4 c =
    sym (kind_large _ _ _ _ _ _ c.if-m-eq0.false c.if-m-gt1400.false c.if-unit-gt4.true)

-- what was counted is all of them, or both are too many
counts : (m len n : ℕ) → (m ≡ 0 → ⊥) → n ≡ count_by max_pieces m len → Bounded max_pieces n (count_of m len)
counts m len n z e = rw e (count_bounded max_pieces m len (omega arith))

counted : (m len n : ℕ) → (m ≡ 0 → ⊥) → n ≡ count_by max_pieces m len → n ≤ max_pieces → n ≡ count_of m len
counted m len n z e f = (counts m len n z e).0 f

pub returns-then-n-gt-MAX_PIECES : goal.returns-then-n-gt-MAX_PIECES
returns-then-n-gt-MAX_PIECES c =
    let a = c.args in
    let h = (counts a.m (length a.bytes.now) _ c.if-m-eq0.false c.count-n.ensures).1 c.if-n-gt-MAX_PIECES.true in
    sym (too_many _ _ _ _ _ _ c.if-m-eq0.false c.if-m-gt1400.false c.if-unit-gt4.false h)

-- what is written is small
few : (m len n head : ℕ) → (m ≡ 0 → ⊥) → m ≤ 1400 → n ≡ count_by max_pieces m len → n ≤ max_pieces → head ≤ 41
    → (n * head ≤ max_pieces * 41) × (len ≤ 1400 * max_pieces)
few m len n head z h e f k =
    let a = counted m len n z e f in
    rw a (small m len head (omega arith) h (rw a at f) k)

pub overflow_mul-len : goal.overflow_mul-len
overflow_mul-len c =
    let a = c.args in
    let f = few a.m (length a.bytes.now) _ _ c.if-m-eq0.false c.if-m-gt1400.false c.count-n.ensures c.if-n-gt-MAX_PIECES.false c.head_bytes.ensures.1 in
    omega (arith, f)

pub overflow_add-len : goal.overflow_add-len
overflow_add-len c =
    let a = c.args in
    let f = few a.m (length a.bytes.now) _ _ c.if-m-eq0.false c.if-m-gt1400.false c.count-n.ensures c.if-n-gt-MAX_PIECES.false c.head_bytes.ensures.1 in
    omega (arith, f)

pub returns-then-output-len : goal.returns-then-output-len
returns-then-output-len c =
    let a = c.args in
    let e = counted a.m (length a.bytes.now) _ c.if-m-eq0.false c.count-n.ensures c.if-n-gt-MAX_PIECES.false in
    let n = rw e at c.if-n-gt-MAX_PIECES.false in
    let h = rw (e, c.head_bytes.ensures.0) at c.if-output-len.true in
    sym (output-short _ _ _ _ _ _ c.if-m-eq0.false c.if-m-gt1400.false c.if-unit-gt4.false n h)

pub returns-then-cid-gt4095 : goal.returns-then-cid-gt4095
returns-then-cid-gt4095 c =
    let a = c.args in
    let e = counted a.m (length a.bytes.now) _ c.if-m-eq0.false c.count-n.ensures c.if-n-gt-MAX_PIECES.false in
    let n = rw e at c.if-n-gt-MAX_PIECES.false in
    let l = rw (e, c.head_bytes.ensures.0) at c.if-output-len.false in
    sym (cid_large _ _ _ _ _ _ c.if-m-eq0.false c.if-m-gt1400.false c.if-unit-gt4.false n l c.if-cid-gt4095.true)

pub write_run-requires : goal.write_run-requires
write_run-requires c =
    let a = c.args in
    let e = counted a.m (length a.bytes.now) _ c.if-m-eq0.false c.count-n.ensures c.if-n-gt-MAX_PIECES.false in
    record {
      positive = omega (arith, c.if-m-eq0.false);
      small = c.if-m-gt1400.false;
      kinds = c.if-unit-gt4.false;
      cids = omega (arith, c.if-cid-gt4095.false);
      counted = e;
      few = c.if-n-gt-MAX_PIECES.false;
      fits = rw c.head_bytes.ensures.0 at c.if-output-len.false;
    }

pub returns : goal.returns
returns c =
    let a = c.args in
    let e = counted a.m (length a.bytes.now) _ c.if-m-eq0.false c.count-n.ensures c.if-n-gt-MAX_PIECES.false in
    let o = c.head_bytes.ensures.0 in
    let n = rw e at c.if-n-gt-MAX_PIECES.false in
    let l = rw (e, o) at c.if-output-len.false in
    rw (c.write_run.ensures, o, e)
    (sym (accepted _ _ _ _ _ _ c.if-m-eq0.false c.if-m-gt1400.false c.if-unit-gt4.false n l c.if-cid-gt4095.false))
