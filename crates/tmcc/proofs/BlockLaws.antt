-- Laws of specs/Block.antt.
use Rattle.std.specs.Prelude.{ℕ, ◌≡◌, true, false, List, length}
use Rattle.std.proofs.Common.{eq-eqb, ne_eqb}
use Rattle.tmcc.specs.Count.{count_below}
use Rattle.tmcc.specs.Mode.{modes_good}
use Rattle.tmcc.specs.Stream.{chosen, own_slot}
use Rattle.tmcc.specs.Layout.{layout_of}
use Rattle.tmcc.specs.Block.{refused, own_stream, decode_of, Accepted}

-- by cases: the four refusals
pub refused-length : (b : List ℕ) (id : ℕ) → (length b ≡ 1178 → ⊥) → decode_of b id ≡ refused 10
unfolding decode_of
refused-length b id l = rw (ne_eqb _ _ l)

pub refused-modes : (b : List ℕ) (id : ℕ) → length b ≡ 1178 → modes_good b ≡ false → decode_of b id ≡ refused 12
unfolding decode_of
refused-modes b id l m = rw (eq-eqb _ _ l, m)

pub refused-streams : (b : List ℕ) (id : ℕ) → length b ≡ 1178 → modes_good b ≡ true → (count_below (chosen b id) 16 ≡ 1 → ⊥)
    → decode_of b id ≡ refused 13
unfolding decode_of
refused-streams b id l m n = rw (eq-eqb _ _ l, m, ne_eqb _ _ n)

pub refused-own : (b : List ℕ) (id : ℕ) → length b ≡ 1178 → modes_good b ≡ true → count_below (chosen b id) 16 ≡ 1
    → count_below (own_slot b (own_stream b id)) 120 ≡ 0 → decode_of b id ≡ refused 14
unfolding decode_of
refused-own b id l m n o = rw (eq-eqb _ _ l, m, eq-eqb _ _ n, eq-eqb _ _ o)

-- and then its layout is given
pub accepts : (b : List ℕ) (id : ℕ) → Accepted b id → decode_of b id ≡ record { refusal = 0; layout = layout_of b (own_stream b id) }
unfolding decode_of
accepts b id a = rw (eq-eqb _ _ a.size, a.modes, eq-eqb _ _ a.one, ne_eqb _ _ a.some)
