-- Why take_one meets its contract: the unit that is read, and no unit is left.
use Rattle.queue.proofs.Taking.{takes_one}
use Rattle.queue.proofs.waiting.take_one.Goals as goal

pub returns : goal.returns
returns c p =
    rw (c.from.ensures, c.load_unit-unit.ensures)
    (takes_one c.args.t.now c.args.i p _ c.requires c.put_none.ensures)
