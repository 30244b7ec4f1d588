use Rattle.wire.specs.Memory.{pasted}
use mathlib.Core.Path.{◌≡◌, refl}
use native.Mathlib.Omega.{arith}
use lib.ListN.{drop, length-set}
use lib.Seq.{paste-zero}
use Rattle.wire.proofs.Copy.{turn_down}
use Rattle.wire.proofs.memory.move_down.Goals as goal

pub loop-i-init : goal.loop-i-init
loop-i-init c = (refl, paste-zero c.args.mem.now c.args.to (drop c.args.from c.args.mem.now))

pub loop-i-preserved : goal.loop-i-preserved
loop-i-preserved c = (simp length-set (omega arith), turn_down _ _ _ _ _ (omega arith) (omega arith) c.loop-i.invariant.1)

pub returns : goal.returns
unfolding pasted
returns c =
    let e : c.loop-i.i ≡ c.args.n = omega arith in
    rw (← e) c.loop-i.invariant.1
