use Rattle.std.proofs.Common.{◌≡◌, suc, ◌+◌, ◌-◌, add_comm, arith}
use Rattle.packer.proofs.Pieces.{count_stop, count-last, count_next}
use Rattle.packer.proofs.piece.count.Invariants.{stop}
use Rattle.packer.proofs.piece.count.Goals as goal
use Rattle.packer.proofs.piece.count.Goals.{else-loop-n-test, then-loop-n-test+else-left-m+else-n-lt65535}

pub loop-n-init : goal.loop-n-init
loop-n-init c = add_comm 1 _

pub loop-n-preserved : goal.loop-n-preserved
loop-n-preserved c =
    let l = c.loop-n in
    let h = c.if-left-m.false in
    let e : stop - l.n ≡ suc (stop - (l.n + 1)) = omega arith in
    let s = count_next (stop - (l.n + 1)) c.args.m l.left h in
    omega (arith, rw (e, s) at l.invariant)

pub returns-then-left-m : goal.returns-then-left-m
returns-then-left-m c =
    let l = c.loop-n in
    let o = count-last (stop - l.n) c.args.m l.left c.if-left-m.true in
    omega (arith, l.invariant, o)

pub returns : goal.returns
returns c =
    let l = c.loop-n in
    elim c.loop-n-test.branch [
      | else-loop-n-test w ↦ absurd (omega (arith, l.auto.n-end (omega arith), w.loop-n-test))
      | then-loop-n-test+else-left-m+else-n-lt65535 w ↦
          let e : stop - l.n ≡ 1 = omega arith in
          let s = count_next 0 c.args.m l.left w.if-left-m.false in
          let i = rw (e, s, count_stop c.args.m (l.left - c.args.m)) at l.invariant in
          omega (arith, i)
    ]
