use Prim.Native.Nat.{ℕ, min}
use mathlib.Core.Path.{◌≡◌, refl, sym, ◌∙◌}
use Rattle.std.specs.Prelude.{Option, Some, None, is_some}
use native.Mathlib.Omega.{arith}
use Rattle.state.specs.Start.{is_at, twice, before}
use Rattle.state.proofs.StartLaws.{twice-zero, twice-more, twice_hit}
use Rattle.state.proofs.start.has_twice.Goals as goal
use Rattle.state.proofs.start.has_twice.Goals.{After-is_some}

some : (o : Option ℕ) → is_at o ≡ is_some o
some (Some k) = refl
some None = refl

-- whether the id at place k stands before it too
stands : (d : After-is_some) → before d.args.watch.ids d.loop-k.k ≡ d.is_some.result
unfolding before
stands d = rw (← d.lookup.ensures) (some _ ∙ sym d.is_some.ensures)

pub loop-k-init : goal.loop-k-init
loop-k-init c = twice-zero _

pub returns-then-is_some : goal.returns-then-is_some
unfolding twice
returns-then-is_some c =
    let d = (goal.at.returns-then-is_some c).After-is_some in
    sym (twice_hit _ _ _ (omega arith) (stands d ∙ c.if-is_some.true))

pub loop-k-preserved : goal.loop-k-preserved
loop-k-preserved c =
    let d = (goal.at.loop-k-preserved c).After-is_some in
    twice-more _ _ c.loop-k.invariant (stands d ∙ c.if-is_some.false)

pub returns : goal.returns
unfolding twice
returns c =
    let e : min c.args.n 16 ≡ c.loop-k.k = omega arith in
    rw e (sym c.loop-k.invariant)
