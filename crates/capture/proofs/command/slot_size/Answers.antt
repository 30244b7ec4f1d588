-- Why `slot_size` meets its contract: the length is there, or not yet.
use Rattle.std.proofs.Common.{sym, arith}
use Rattle.capture.proofs.CommandLaws.{slot-size-short, slot-size-known}
use Rattle.capture.proofs.command.slot_size.Goals as goal

pub returns-then-b-lt3 : goal.returns-then-b-lt3
returns-then-b-lt3 c = (sym (slot-size-short _ c.if-b-lt3.true), omega arith)

pub returns : goal.returns
returns c =
    let k = slot-size-known c.args.b.now c.if-b-lt3.false in
    (omega arith, omega arith)
