-- The frame's layout that a control block gives.
use Rattle.std.specs.Prelude.{ℕ, ◌+◌, ◌*◌, Bool, false, List, map, replicate}
use Rattle.wire.specs.Field.{be}
use Rattle.tmcc.specs.declared.layout.Pointers.{Pointers}
use Rattle.tmcc.specs.declared.layout.Slot.{Slot}
use Rattle.tmcc.specs.declared.layout.Layout.{Layout as ALayout}
use Rattle.wire.specs.Tab.{tab}
use Rattle.tmcc.specs.Mode.{slot_length}
use Rattle.tmcc.specs.Stream.{own_slot}

-- of each slot its pointers, its data length, 0 for a dummy, and whether it is live and of the chosen stream
pub record Layout : Type 0 where
  pub pointers : List Pointers
  pub lengths : List ℕ
  pub own : List Bool

abbrev pub as_layout : ALayout → Layout
as_layout l = record { pointers = map (λ s. s.pointers) l.slots; lengths = map (λ s. s.length) l.slots; own = map (λ s. s.own) l.slots }

-- bytes 153 to 632: top and last pointer of each slot, slot by slot, top first
unfoldable pub pointers_at : List ℕ → ℕ → Pointers
pointers_at b s = record { 0 = be 2 b (153 + 4 * s); 1 = be 2 b (155 + 4 * s) }

-- slot s, as the chosen stream's where its relative stream is `own`
abbrev pub slot_at : List ℕ → ℕ → ℕ → Slot
slot_at b own s = record { pointers = pointers_at b s; length = slot_length b s; own = own_slot b own s }

unfoldable pub layout_of : List ℕ → ℕ → Layout
layout_of b own = record { pointers = tab (pointers_at b) 120; lengths = tab (slot_length b) 120; own = tab (own_slot b own) 120 }

unfoldable pub blank_layout : Layout
blank_layout = record { pointers = replicate 120 (record { 0 = 0; 1 = 0 }); lengths = replicate 120 0; own = replicate 120 false }
