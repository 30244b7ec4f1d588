-- Why receive meets its contract: silent, joined, or noted.
use mathlib.Core.Path.{sym}
use Rattle.delivery.specs.Arrived.{Good}
use Rattle.delivery.proofs.WithinLaws.{arrived-place, arrived-fits}
use Rattle.delivery.proofs.Joining.{receives_silent, receives_noted, receives_good}
use Rattle.words.specs.Config.{read_config}
use Rattle.delivery.proofs.packet.receive.Goals as goal

pub join-requires : goal.join-requires
join-requires c =
    let a = c.args in
    let g = read_config a.t.now a.c in
    let e = rw c.in-Ok-Some.field-0-is at (sym c.in-Ok-Some.ensures) in (
      c.requires.1,
      c.requires.2,
      (arrived-place g a.memory.now a.start a.end _ e).low,
      rw c.load_rules-rules.ensures (arrived-fits g a.memory.now a.start a.end (Good _) _ e c.requires.3),
    )

pub returns-in-Ok-None : goal.returns-in-Ok-None
returns-in-Ok-None c =
    let a = c.args in
    receives_silent (read_config a.t.now a.c) a.t.now a.i a.k a.memory.now a.collecting.now a.start a.end
    (rw c.in-Ok-None.field-0-is at (sym c.in-Ok-None.ensures))

pub returns-in-Ok-Some : goal.returns-in-Ok-Some
returns-in-Ok-Some c =
    let a = c.args in
    receives_good (read_config a.t.now a.c) a.t.now a.i a.k a.memory.now a.collecting.now a.start a.end _ _ _
    (rw c.in-Ok-Some.field-0-is at (sym c.in-Ok-Some.ensures))
    (rw c.load_rules-rules.ensures at c.join.ensures)

pub returns-in-Err : goal.returns-in-Err
returns-in-Err c =
    let a = c.args in
    receives_noted (read_config a.t.now a.c) a.t.now a.i a.k a.memory.now a.collecting.now a.start a.end _ _ _ _ c.requires.1
    (sym c.in-Err.ensures) (rw c.into.ensures at c.put_notes.ensures)
    c.put_none.ensures
