-- Why take_many meets its contract: a unit, or none is left.
use Prim.Native.Nat.{◌+◌, ◌≤◌, ◌<◌}
use mathlib.Core.Logic.{inl, inr}
use mathlib.Core.Path.{◌≡◌, sym, ◌∙◌}
use native.Mathlib.Omega.{arith}
use lib.ListN.{length, get_or}
use Rattle.mmtp.proofs.UnitLaws.{unit-inside}
use Rattle.wire.proofs.MemoryLaws.{part-reach}
use Rattle.queue.specs.Queue.{next_unit}
use Rattle.queue.proofs.Taking.{aggregate, takes_unit, takes_malformed, takes_end}
use Rattle.queue.proofs.waiting.take_many.Goals as goal
use Rattle.queue.proofs.waiting.take_many.Goals.{After-unit_at}

-- what stands at the next unit's place
steps : (d : After-unit_at) → next_unit (aggregate d.args.t.now d.args.i) d.args.memory.now ≡ d.unit_at.result
steps d =
    rw (
      d.unit_at.ensures,
      d.part-bytes.ensures,
      d.saturating_sub.ensures,
      d.load_packet-packet.ensures,
    )

pub whole-requires : goal.whole-requires
whole-requires c =
    let start = get_or c.args.t.now (c.args.i + 14) 0 in
    let u = c.in-Unit.u in
    let b = c.part-bytes in
    let i = unit-inside _ _ _ _ _ (sym c.unit_at.ensures ∙ c.in-Unit.is) in
    let w : u.start ≤ length b.result.now = omega (arith, i.ordered, i.within) in
    let k : start < 18446744073709551616 = omega arith in
    (i.ordered, part-reach _ start _ _ _ k (omega arith) (rw b.ensures at w))

pub returns-in-Unit : goal.returns-in-Unit
returns-in-Unit c =
    rw (c.whole.ensures, c.load_packet-packet.ensures)
    (takes_unit c.args.t.now c.args.i c.args.memory.now _ c.requires (steps (goal.at.returns-in-Unit c).After-unit_at ∙ c.in-Unit.is))

pub returns-in-Malformed : goal.returns-in-Malformed
returns-in-Malformed c =
    let a = c.args in
    let s = steps (goal.at.returns-in-Malformed c).After-unit_at in
    elim c.in-Malformed.is [
      | inl e ↦ takes_malformed a.t.now a.i a.memory.now _ c.requires (s ∙ e) c.put_none.ensures
      | inr e ↦ takes_end a.t.now a.i a.memory.now _ c.requires (s ∙ e) c.put_none.ensures
    ]
