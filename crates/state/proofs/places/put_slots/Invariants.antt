-- Why put_slots meets its contract: after s turns the first s slots are there.
use Rattle.tmcc.specs.Layout.{as_layout}
use Rattle.state.specs.Lent.{SlotsPut}
use Rattle.state.proofs.places.put_slots.Given as goal

abbrev pub invariant-loop-s : goal.invariant-loop-s
invariant-loop-s l = SlotsPut l.initial.t l.t (as_layout l.layout) l.s
