use Rattle.std.proofs.Common.{◌≡◌, ◌+◌, [], length, refl, ◌∙◌, arith}
use Rattle.wire.proofs.MemoryLaws.{pasted-zero}
use Rattle.packer.specs.Packer.{packed}
use Rattle.packer.specs.Writing.{planned}
use Rattle.packer.proofs.Written.{turn}
use Rattle.packer.proofs.Runs.{left, left-fits, left-none, left_step, left-length, rest_all}
use Rattle.packer.proofs.pack.write_run.Goals as goal

pub loop-i-init : goal.loop-i-init
unfolding packed
loop-i-init c =
    let a = c.args in
    record { long = refl; room = omega (arith, left-fits a.plan a.bytes.now (length a.output.now) c.requires); whole = refl }

pub write_piece-at-requires : goal.write_piece-at-requires
write_piece-at-requires c =
    let a = c.args in
    let l = c.loop-i in
    let n = left-length a.plan a.bytes.now (length a.output.now) c.requires l.i (omega arith) in
    record { planned = rw l.invariant.long c.requires; i_lt_n = (omega arith, omega arith) }

pub loop-i-preserved : goal.loop-i-preserved
loop-i-preserved c =
    let a = c.args in
    let p = a.plan in
    let s = a.bytes.now in
    let l = c.loop-i in
    let n = left-length p s (length a.output.now) c.requires l.i (omega arith) in
    let t = left_step p s (length a.output.now) c.requires l.i (omega arith) in
    let e = c.write_piece-at.ensures in
    let r = l.invariant in
    record {
      long = omega (arith, c.write_piece-at.auto);
      room = omega (arith, n, e.ends);
      whole =
          turn l.output _ (planned p l.i s) (left p s (l.i + 1)) (left p s l.i) l.at _ t e.writes e.ends (omega arith) ∙ r.whole;
    }

pub returns : goal.returns
returns c =
    let a = c.args in
    let p = a.plan in
    let s = a.bytes.now in
    let l = c.loop-i in
    let i : l.i ≡ p.n = omega arith in
    let e : left p s l.i ≡ [] = rw i (left-none p s (length a.output.now) c.requires) in
    pasted-zero l.output l.at [] ∙ rw (e, rest_all p.unit p.cid p.sn p.m s) at l.invariant.whole
