-- Demand 1 of start.
use mathlib.Core.Path.{refl}
use mathlib.Core.Bool.{◌||◌}
use native.Mathlib.Omega.{arith}
use lib.Dec.{eqb, ltb}
use Rattle.wire.proofs.Choice.{either}
use Rattle.reassembly.specs.declared.config.Config.{Config}
use Rattle.state.specs.State.{State}
use Rattle.state.specs.Refused.{OneOf, KeepsState}
use Rattle.state.specs.Start.{twice, start_refusal, start_from}

start-row : (c : Config) → OneOf 1 4 (start_refusal c)
unfolding start_refusal
start-row c =
    either (OneOf 1 4) (ltb c.watch.n 1 || ltb 16 c.watch.n) (λ z. (omega arith, omega arith))
    (either (OneOf 1 4) (twice c.watch c.watch.n) (λ z. (omega arith, omega arith))
    (either (OneOf 1 4) (ltb 4095 c.cid) (λ z. (omega arith, omega arith))
    (either (OneOf 1 4) (ltb c.rules.limit 1 || ltb 1048576 c.rules.limit) (λ z. (omega arith, omega arith)) (λ z. absurd (z refl)))))

pub start-kept : (st : State) (c : Config) → KeepsState 1 4 st (start_from st c)
unfolding start_from
start-kept st c =
    either (KeepsState 1 4 st) (eqb (start_refusal c) 0) (λ z. absurd (z refl))
    (λ z. record { number = start-row c z; state = refl })
