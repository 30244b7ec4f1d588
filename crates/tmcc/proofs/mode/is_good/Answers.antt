-- Why is_good meets its contract: each return is one case of the rule.
use mathlib.Core.Path.{◌≡◌, sym, ◌∙◌}
use mathlib.Core.Bool.{true}
use Rattle.std.proofs.Math.Bool.{and_assoc}
use Rattle.tmcc.specs.Mode.{used_at, unused}
use Rattle.tmcc.proofs.ModeLaws.{good-unused, good-first, good-later}
use Rattle.tmcc.proofs.mode.is_good.Goals as goal
use Rattle.tmcc.proofs.mode.is_good.Goals.{Else-not-is_used}

pub returns-then-not-is_used : goal.returns-then-not-is_used
unfolding unused
returns-then-not-is_used c =
    let m = c.mode_at-mode.ensures in
    rw (good-unused _ _ (rw (m.0, m.1) at (sym c.is_used.ensures ∙ c.if-not-is_used.true)), c.eq.ensures, m.0, m.1, m.2, and_assoc)

used-here : (c : Else-not-is_used) → used_at c.args.block.now c.args.k ≡ true
used-here c =
    let m = c.mode_at-mode.ensures in
    rw (m.0, m.1) at (sym c.is_used.ensures ∙ c.if-not-is_used.false)

pub returns-then-k-eq0 : goal.returns-then-k-eq0
returns-then-k-eq0 c = sym (good-first _ _ (used-here (goal.at.returns-then-k-eq0 c).Else-not-is_used) c.if-k-eq0.true)

pub returns-then-is_used : goal.returns-then-is_used
returns-then-is_used c =
    let m = c.mode_at-mode.ensures in
    let b = c.mode_at-before.ensures in
    rw (good-later _ _ (used-here (goal.at.returns-then-is_used c).Else-not-is_used) c.if-k-eq0.false, rw (b.0, b.1) at (sym c.is_used-2.ensures ∙ c.if-is_used.true), m.0, b.0)

pub returns-else-is_used : goal.returns-else-is_used
returns-else-is_used c =
    let b = c.mode_at-before.ensures in
    rw (good-later _ _ (used-here (goal.at.returns-else-is_used c).Else-not-is_used) c.if-k-eq0.false, rw (b.0, b.1) at (sym c.is_used-2.ensures ∙ c.if-is_used.false)) c.if-is_used.false
