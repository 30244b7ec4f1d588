-- Why layout_in meets its contract: from_fn gives each slot in its place.
use Rattle.std.proofs.Common.{rules}
use Rattle.tmcc.specs.Layout.{slot_at}
use Rattle.tmcc.proofs.Slots.{made, slots_layout}
use Rattle.tmcc.proofs.layout.layout_in.Goals as goal

pub returns : goal.returns
returns c =
    let h = slot_at c.args.block.now c.args.own in
    slots_layout _ _ _ (made _ h _ _ (λ q k y r. search rules) 120 (h 0) c.from_fn.ensures.items)
