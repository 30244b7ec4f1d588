use Prim.Native.Nat.{ℕ, suc, ◌-◌, ◌*◌, ◌%◌}
use mathlib.Core.Path.{◌≡◌, refl, sym, ◌∙◌}
use mathlib.Core.List.{List}
use native.Mathlib.Omega.{arith}
use Rattle.lines.specs.Decimal.{four, without_groups, last_groups}
use Rattle.lines.proofs.DecimalLaws.{length-four, length-groups}
use Rattle.lines.specs.Text.{wrote}
use Rattle.lines.proofs.TextLaws.{wrote_none, written-length, written-room, written-more}
use Rattle.lines.proofs.decimal.put_groups.Goals as goal
use Rattle.lines.proofs.decimal.put_groups.Invariants.{Goes}

turn : (out₀ out o : List ℕ) (at n k left end r : ℕ) → Goes out₀ at n k out (suc left) end
    → (r, o) ≡ wrote out end (four (without_groups n left % 10000)) → Goes out₀ at n k o left r
unfolding last_groups
turn out₀ out o at n k left end r g e =
    let i = g.room in
    let s = g.same in
    let f = length-four (without_groups n left % 10000) in
    let l = written-length _ _ _ _ _ e (omega arith) in
    let m = written-more out o end r _ e _ _ (last_groups n left) refl (omega (arith, length-groups n left)) in
    record {
      within = omega (arith, g.within);
      same = l ∙ s;
      room = written-room _ _ _ _ _ e (4 * left) (omega arith);
      whole = m ∙ g.whole;
    }

pub loop-left-init : goal.loop-left-init
loop-left-init c = record { within = c.requires.0; same = refl; room = c.requires.1; whole = refl }

pub loop-left-preserved : goal.loop-left-preserved
loop-left-preserved c =
    let k = c.loop-left.left in
    let z : k ≡ suc (k - 1) = omega arith in
    turn _ _ _ _ _ _ _ _ _ (rw z at c.loop-left.invariant) (rw c.without_groups.ensures at c.put_four-end.ensures)

pub returns : goal.returns
unfolding last_groups
returns c =
    let l = c.loop-left in
    let z : l.left ≡ 0 = omega arith in
    sym (wrote_none _ _) ∙ rw z at l.invariant.whole
