-- What is claimed of the account of a broadcast: its units are those that the slots carry, less those that lost slots carry.
use Rattle.std.specs.Prelude.{ℕ, suc, ◌≡◌, Bool, List, ◌∷◌, ◌++◌, replicate}
use Rattle.tlv.specs.Run.{Slot, Arrival, lost, intact, damaged}
use Rattle.tlv.specs.Claims.{Filled}
use Rattle.reassembly.specs.declared.config.Config.{Config}
use Rattle.reassembly.specs.Run.{units, Clean}
use Rattle.broadcast.specs.Account.{account}
use Rattle.broadcast.specs.Carried.{carried_units, intact_units, Few, contents}

-- Where nothing is noted, the units are those that the slots carry.
abbrev pub AccountUnits : Type 1
AccountUnits =
    (A : Type 0) (c : Config) (xs : List (A × Slot)) → Clean (account c (intact xs)) → Filled xs
    → contents (units (account c (intact xs))) ≡ contents (carried_units c xs)

-- Then, with slots lost, they are those with no byte of a packet that carries them in a lost slot, in the same order.
abbrev pub AccountLoss : Type 1
AccountLoss =
    (A : Type 0) (keep : A → Bool) (c : Config) (xs : List (A × Slot)) → Clean (account c (intact xs)) → Filled xs → Few c xs
    → contents (units (account c (damaged keep xs))) ≡ contents (intact_units keep (carried_units c xs))

-- Lost slots one after another are one lost slot.
abbrev pub LostMany : Type 1
LostMany =
    (A : Type 0) (c : Config) (n : ℕ) (xs ys : List (Arrival A))
    → account c (xs ++ (replicate (suc n) lost ++ ys)) ≡ account c (xs ++ (lost ∷ ys))
