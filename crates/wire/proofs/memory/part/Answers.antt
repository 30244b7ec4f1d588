-- Why `part` meets its contract: inside, or outside.
use mathlib.Core.Path.{sym, ◌∙◌}
use native.Mathlib.Omega.{arith}
use Rattle.wire.proofs.MemoryLaws.{part-inside, part-outside, slice-rest}
use Rattle.wire.proofs.memory.part.Goals as goal
use Rattle.wire.proofs.memory.part.Goals.{in_default-via-in-Some+else-len-rest, in_default-via-in_default}

pub returns-in-Some : goal.returns-in-Some
returns-in-Some c =
    rw (c.in-Some.ensures.lookup.0.2 ∙ slice-rest c.args.s.now c.args.start)
    (sym (part-inside c.args.s.now c.args.start c.args.len (omega (arith, c.in-Some.ensures.lookup.0.3))))

pub returns-in_default : goal.returns-in_default
returns-in_default c =
    sym
    (part-outside c.args.s.now c.args.start c.args.len
    (elim c.in_default.branch [
      | in_default-via-in-Some+else-len-rest w ↦ omega (arith, w.in-Some.ensures.lookup.0.3)
      | in_default-via-in_default w ↦ omega (arith, w.in_default.ensures.lookup.0)
    ]))
