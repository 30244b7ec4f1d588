-- Why is_short meets its contract: a quotient below n is a number below n times the divisor.
use mathlib.Core.Path.{sym}
use native.Mathlib.Omega.{arith}
use native.Mathlib.Nat.{mul-zero}
use Rattle.watch.specs.Words.{rising_in}
use Rattle.words.specs.Config.{read_config}
use Rattle.frames.proofs.SlotLaws.{packet-short, long-enough, short-by_quotient}
use Rattle.state.specs.Words.{state_in}
use Rattle.frames.proofs.slot.is_short.Goals as goal

pub returns-then-packet : goal.returns-then-packet
returns-then-packet c = sym (packet-short _ _ _ c.if-packet.true)

pub returns-then-limit-ne0 : goal.returns-then-limit-ne0
unfolding state_in read_config rising_in
returns-then-limit-ne0 c = sym (short-by_quotient _ _ _ c.if-packet.false c.if-limit-ne0.true)

pub returns-else-limit-ne0 : goal.returns-else-limit-ne0
unfolding state_in read_config rising_in
returns-else-limit-ne0 c =
    rw c.if-limit-ne0.false (sym (long-enough _ _ _ c.if-packet.false (rw mul-zero (omega arith))))
