-- Why `ixohuemil_cut` meets its contract: refused it stores nothing, else the pointers.
use mathlib.Core.Path.{sym}
use Rattle.ixohuemil.proofs.AnswersLaws.{cut-taken, cut_left}
use Rattle.ixohuemil.proofs.cut.ixohuemil_cut.Goals as goal

pub returns-in-Ok : goal.returns-in-Ok
returns-in-Ok c = sym (cut-taken _ _ _ _ _ _ _ _ c.in-Ok.ensures)

pub returns-in-Err : goal.returns-in-Err
returns-in-Err c = rw c.into.ensures (sym (cut_left _ _ _ _ _ _ _ _ c.in-Err.ensures))
