-- What the slot cutter answers, as the definitions speak of it.
use Rattle.std.specs.Prelude.{ℕ, Result, Ok, Err}
use Rattle.refusal.specs.declared.Refusal.{Refusal}
use Rattle.refusal.specs.Refusal.{number_of}
use Rattle.tmcc.specs.declared.layout.Pointers.{Pointers}

-- the pointers of the slot, which the output holds, or a refusal's number
pub data CutSlot : Type 0 where
  Cut : Pointers → CutSlot
  Refused : ℕ → CutSlot

abbrev pub as_cut : Result Pointers Refusal → CutSlot
as_cut (Ok p) = Cut p
as_cut (Err r) = Refused (number_of r)
