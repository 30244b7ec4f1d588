-- Why is_used meets its contract: a mask takes the low half out, and a shift the high one.
use native.Mathlib.Omega.{arith}
use Rattle.std.proofs.lemmas.Grind.{common_steps}
use Rattle.wire.proofs.BitsLaws.{bits_mask}
use Rattle.tmcc.specs.Mode.{used, within}
use Rattle.tmcc.proofs.mode.is_used.Goals as goal

pub returns-then-mode-gt0 : goal.returns-then-mode-gt0
unfolding used within
returns-then-mode-gt0 c = rw (← bits_mask _ 4) (grind (arith, common_steps))

pub returns-else-mode-gt0 : goal.returns-else-mode-gt0
unfolding used within
returns-else-mode-gt0 c = rw (← bits_mask _ 4) (grind (arith, common_steps))
