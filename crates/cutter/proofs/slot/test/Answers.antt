-- Why test meets its contract: the cases of its definition; the run fills no slot s if s is not below the quotient.
use Prim.Native.Nat.{ℕ, ◌+◌, ◌*◌, ◌/◌, ◌<◌, ◌≤◌}
use mathlib.Core.Path.{◌≡◌, sym, ◌∙◌}
use mathlib.Core.Bool.{false}
use native.Mathlib.Nat.{le-div_iff_mul-le, div-lt_iff_lt-mul}
use native.Mathlib.Omega.{arith}
use Rattle.cutter.specs.Slot.{unlisted}
use Rattle.cutter.proofs.SlotLaws.{refused-run, refused-length, refused-past, refused-output, accepts}
use Rattle.cutter.proofs.Table.{listed_bounds}
use Rattle.cutter.proofs.slot.test.Goals as goal

pub returns-then-not-is_whole : goal.returns-then-not-is_whole
returns-then-not-is_whole c = sym (refused-run _ _ _ _ (sym c.is_whole.ensures ∙ c.if-not-is_whole.true))

pub returns-then-is_unlisted : goal.returns-then-is_unlisted
returns-then-is_unlisted c =
    sym (refused-length _ _ _ _ (sym c.is_whole.ensures ∙ c.if-not-is_whole.false) (sym c.is_unlisted.ensures ∙ c.if-is_unlisted.true))

pub nonzero_div-run : goal.nonzero_div-run
nonzero_div-run c = omega (arith, listed_bounds c.args.l (sym c.is_unlisted.ensures ∙ c.if-is_unlisted.false))

-- a length in the table, and a slot that the quotient leaves out, or not
past : (n l s : ℕ) → unlisted l ≡ false → n / l ≤ s → n < (s + 1) * l
past n l s u h =
    let p : 0 < l = omega (arith, listed_bounds l u) in
    let q : n / l < s + 1 = omega arith in
    (div-lt_iff_lt-mul p).0 q

within : (n l s : ℕ) → unlisted l ≡ false → s < n / l → (s + 1) * l ≤ n
within n l s u h =
    let p : 0 < l = omega (arith, listed_bounds l u) in
    let q : s + 1 ≤ n / l = omega arith in
    (le-div_iff_mul-le p).0 q

pub returns-then-run-l : goal.returns-then-run-l
returns-then-run-l c =
    let w = sym c.is_whole.ensures ∙ c.if-not-is_whole.false in
    let u = sym c.is_unlisted.ensures ∙ c.if-is_unlisted.false in
    sym (refused-past _ _ _ _ w u (past _ _ _ u c.if-run-l.true))

pub returns-then-n-l : goal.returns-then-n-l
returns-then-n-l c =
    let w = sym c.is_whole.ensures ∙ c.if-not-is_whole.false in
    let u = sym c.is_unlisted.ensures ∙ c.if-is_unlisted.false in
    sym (refused-output _ _ _ _ w u (within _ _ _ u c.if-run-l.false) c.if-n-l.true)

pub returns : goal.returns
returns c =
    let w = sym c.is_whole.ensures ∙ c.if-not-is_whole.false in
    let u = sym c.is_unlisted.ensures ∙ c.if-is_unlisted.false in
    sym
    (accepts _ _ _ _
    (record { packets = w; listed = u; within = within _ _ _ u c.if-run-l.false; fits = c.if-n-l.false }))
