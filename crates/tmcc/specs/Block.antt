-- The control block: refusals 10, 12, 13 and 14 in this order, or the layout for the stream with an id.
use Rattle.std.specs.Prelude.{ℕ, ◌≡◌, true, cond, List, length, eqb}
use Rattle.tmcc.specs.Decoded.{Decoded}
use Rattle.tmcc.specs.Count.{count_below, last_below}
use Rattle.tmcc.specs.Mode.{modes_good}
use Rattle.tmcc.specs.Stream.{chosen, own_slot}
use Rattle.tmcc.specs.Layout.{layout_of, blank_layout}

abbrev pub refused : ℕ → Decoded
refused n = record { refusal = n; layout = blank_layout }

-- the one relative stream of type TLV that has the id
abbrev pub own_stream : List ℕ → ℕ → ℕ
own_stream b id = last_below (chosen b id) 16

unfoldable pub decode_of : List ℕ → ℕ → Decoded
decode_of b id =
    cond (eqb (length b) 1178)
    (cond (modes_good b)
    (cond (eqb (count_below (chosen b id) 16) 1)
    (cond (eqb (count_below (own_slot b (own_stream b id)) 120) 0) (refused 14)
    (record { refusal = 0; layout = layout_of b (own_stream b id) }))
    (refused 13))
    (refused 12))
    (refused 10)

-- what an accepted block keeps to
pub record Accepted (b : List ℕ) (id : ℕ) : Type 0 where
  pub size : length b ≡ 1178
  pub modes : modes_good b ≡ true
  pub one : count_below (chosen b id) 16 ≡ 1
  pub some : count_below (own_slot b (own_stream b id)) 120 ≡ 0 → ⊥
