-- What a control block comes to, as the definitions speak of it.
use Rattle.std.specs.Prelude.{ℕ, Result, Ok, Err}
use Rattle.refusal.specs.declared.Refusal.{Refusal}
use Rattle.refusal.specs.Refusal.{number_of}
use Rattle.tmcc.specs.declared.layout.Layout.{Layout as ALayout}
use Rattle.tmcc.specs.Layout.{Layout, as_layout, blank_layout}

-- 0 and a layout, or a refusal's number and a blank layout
pub record Decoded : Type 0 where
  pub refusal : ℕ
  pub layout : Layout

abbrev pub as_decoded : Result ALayout Refusal → Decoded
as_decoded (Ok l) = record { refusal = 0; layout = as_layout l }
as_decoded (Err r) = record { refusal = number_of r; layout = blank_layout }
