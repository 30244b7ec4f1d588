-- The first bytes of a slot can be copied before the held bytes are moved, as far as no held byte stands where they go.
use Prim.Native.Nat.{ℕ, ◌-◌}
use Rattle.std.specs.Prelude.{cond, ◌||◌, ltb}
use Rattle.intake.specs.declared.held.Held.{Held}
use Rattle.intake.specs.Slot.{slot_area}

-- how many of the first n bytes of a slot: all where nothing is held; those below held bytes that stand in the slot's own area
unfoldable pub free_part : Held → ℕ → ℕ
free_part h n =
    cond h.on
    (cond (ltb h.start slot_area || ltb slot_area h.len) 0 (cond (ltb n (h.start - slot_area)) n (h.start - slot_area))) n
