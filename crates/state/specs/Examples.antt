-- Examples of start, computed over the definitions: refusals in the table's order.
use Rattle.std.specs.Prelude.{ℕ, ◌≡◌, [], ◌∷◌, replicate, Some, None}
use Rattle.watch.specs.Rising.{search_of}
use Rattle.reassembly.specs.declared.config.Config.{Config}
use Rattle.tmcc.specs.Layout.{blank_layout}
use Rattle.state.specs.State.{State, with_frame}
use Rattle.state.specs.Start.{fresh_state, start_refusal}

-- n ids, the first of which stands twice if n is above 1
abbrev pub config : ℕ → ℕ → ℕ → Config
config n cid limit =
    record { stream = 0; cid = cid; watch = record { ids = replicate 16 7; n = n }; rules = record { limit = limit } }

-- with slot k due, counted from 0, one packet_id and R = 4
abbrev pub due : ℕ → State
due k = with_frame (fresh_state (config 1 0 4)) (record { layout = blank_layout; at = k })

abbrev pub Starts : Type 0
Starts =
    -- 1 before 2, 2 before 3, 3 before 4
    (start_refusal (config 0 4096 0) ≡ 1) × (start_refusal (config 17 4096 0) ≡ 1) × (start_refusal (config 2 4096 0) ≡ 2)
    × (start_refusal (config 1 4096 0) ≡ 3) × (start_refusal (config 1 4095 0) ≡ 4) × (start_refusal (config 1 4095 1048577) ≡ 4)
    × (start_refusal (config 1 4095 1048576) ≡ 0)

-- three ids in falling order; the fourth, behind n, is one of them again
abbrev falling : Config
falling =
    record { stream = 0; cid = 2; watch = record { ids = 9 ∷ 7 ∷ 3 ∷ 7 ∷ replicate 12 0; n = 3 }; rules = record { limit = 4 } }

-- start accepts them and keeps them in rising order; each is found at the place given, and an id beside them nowhere
abbrev pub Keeps : Type 0
Keeps =
    (start_refusal falling ≡ 0)
    × ((fresh_state falling).config.watch.list
    ≡ record { id = 3; place = 2 } ∷ record { id = 7; place = 1 } ∷ record { id = 9; place = 0 } ∷ [])
    × (search_of (fresh_state falling).config.watch 3 ≡ Some 2) × (search_of (fresh_state falling).config.watch 7 ≡ Some 1)
    × (search_of (fresh_state falling).config.watch 9 ≡ Some 0) × (search_of (fresh_state falling).config.watch 8 ≡ None)
