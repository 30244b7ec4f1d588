use Rattle.std.specs.Prelude.{ℕ, ◌≡◌, List, length, get_or, map}
use Rattle.std.proofs.Math.Bool.{false}
use Rattle.std.proofs.Math.ListN.{get_or-map, length-map}
use native.Mathlib.Omega.{arith}
use borrow.Author.Rules.{rules}
use Rattle.tmcc.specs.declared.layout.Slot.{Slot}
use Rattle.tmcc.specs.declared.layout.Layout.{Layout}
use Rattle.tmcc.specs.Layout.{as_layout}
use Rattle.state.specs.Words.{SlotPut}
use Rattle.state.proofs.LentLaws.{slots-none, slots-more, slots-all}
use Rattle.state.proofs.places.put_slots.Goals as goal

abbrev blank : Slot
blank = record { pointers = record { 0 = 0; 1 = 0 }; length = 0; own = false }

-- slot s of a layout, as the definitions speak of it
slot-of : (t u : List ℕ) (l : Layout) (s : ℕ) → let x = get_or l.slots s blank in let y = as_layout l in
    SlotPut t u s x.pointers x.length x.own
    → SlotPut t u s (get_or y.pointers s (record { 0 = 0; 1 = 0 })) (get_or y.lengths s 0) (get_or y.own s false)
slot-of t u l s p =
    rw (
      get_or-map (λ (x : Slot). x.pointers) l.slots s blank,
      get_or-map (λ (x : Slot). x.length) l.slots s blank,
      get_or-map (λ (x : Slot). x.own) l.slots s blank,
    )
    p

pub loop-s-init : goal.loop-s-init
loop-s-init c = slots-none _ _

pub loop-s-preserved : goal.loop-s-preserved
loop-s-preserved c = slots-more _ _ _ _ _ c.loop-s.invariant (slot-of _ _ c.args.layout _ c.put_slot.ensures)

pub returns : goal.returns
returns c =
    let e : c.loop-s.s ≡ 120 = omega arith in
    slots-all _ _ _ (search (rules, length-map)) (search (rules, length-map)) (search (rules, length-map)) (rw e at c.loop-s.invariant)
