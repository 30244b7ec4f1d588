use Rattle.wire.specs.Memory.{pasted}
use mathlib.Core.Path.{◌≡◌, refl}
use native.Mathlib.Omega.{arith}
use lib.ListN.{length, length-set}
use lib.Seq.{paste-zero}
use Rattle.wire.proofs.Copy.{turn}
use Rattle.wire.proofs.memory.copy_at.Goals as goal

pub loop-i-init : goal.loop-i-init
loop-i-init c = (refl, paste-zero c.args.dst.now c.args.at c.args.src.now)

pub loop-i-preserved : goal.loop-i-preserved
loop-i-preserved c = (simp length-set (omega arith), turn _ _ _ _ _ (omega arith) (omega arith) c.loop-i.invariant.1)

pub returns : goal.returns
unfolding pasted
returns c =
    let e : c.loop-i.i ≡ length c.args.src.now = omega arith in
    rw (← e) c.loop-i.invariant.1
