-- Why `finish` meets its contract: there is room for the line, or not.
use Rattle.std.proofs.Common.{◌+◌, length, sym, ◌∙◌, arith, leb-true}
use Rattle.capture.proofs.StepsLaws.{finish_full, finish_line}
use Rattle.lines.specs.Line.{longest_line}
use Rattle.capture.proofs.finish.finish.Goals as goal

pub returns-then-not-has_room : goal.returns-then-not-has_room
returns-then-not-has_room c = sym (finish_full _ _ _ (sym c.has_room.ensures ∙ c.if-not-has_room.true))

pub put_end-requires : goal.put_end-requires
put_end-requires c =
    let l = leb-true (c.args.at + longest_line) (length c.args.out.now)
    (sym c.has_room.ensures ∙ c.if-not-has_room.false) in
    omega arith

pub returns : goal.returns
returns c =
    c.put_end.ensures.written ∙ sym (finish_line _ _ _ (sym c.has_room.ensures ∙ c.if-not-has_room.false))
