-- Why `has_room` meets its contract: the difference stands for the sum.
use Rattle.std.proofs.Common.{◌≡◌, ℕ, ◌+◌, ◌-◌, Bool, true, false, leb, sym, refl, arith, le-leb, leb-false, leb-true}
use borrow.Author.Tests.{lt-leb}
use Rattle.lines.specs.Line.{longest_line}
use Rattle.capture.specs.Steps.{roomy}
use Rattle.capture.proofs.pour.has_room.Goals as goal

moved : (size at : ℕ) → leb longest_line (size - at) ≡ roomy size at
moved size at = go (leb longest_line (size - at)) refl
  where
    go : (b : Bool) → leb longest_line (size - at) ≡ b → b ≡ roomy size at
    go true e = sym (le-leb (at + longest_line) size (omega (arith, leb-true longest_line (size - at) e)))
    go false e = sym (lt-leb (at + longest_line) size (omega (arith, leb-false longest_line (size - at) e)))

pub returns : goal.returns
returns c = rw c.saturating_sub.ensures (moved c.args.size c.args.at)
