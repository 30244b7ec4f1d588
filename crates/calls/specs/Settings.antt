-- Start's settings in words: stream id, CID, n, R, sixteen packet_ids, and twelve words for later settings, which are 0.
use Rattle.std.specs.Prelude.{ℕ, ◌+◌, ◌%◌, ◌<◌, ◌≡◌, cond, List, ◌∷◌, ◌++◌, length, get_or, replicate}
use Rattle.wire.specs.Tab.{tab}
use Rattle.reassembly.specs.declared.config.Config.{Config}
use Rattle.state.specs.State.{State, Called, refused}
use Rattle.state.specs.Start.{start_from}
use Rattle.calls.specs.Bounds.{are_within}

-- the most of a field of 8, 16, 32 or 64 bits
abbrev pub most8 : ℕ
most8 = 255

abbrev pub most16 : ℕ
most16 = 65535

abbrev pub most32 : ℕ
most32 = 4294967295

abbrev pub most64 : ℕ
most64 = 18446744073709551615

-- the most that each word may be; start itself has bounds for n and R
unfoldable pub settings_most : List ℕ
settings_most = most16 ∷ most16 ∷ most64 ∷ most64 ∷ (replicate 16 most16 ++ replicate 12 0)

-- what start is given: sixteen ids, and the rest
unfoldable pub ids_in : List ℕ → List ℕ
ids_in s = tab (λ k. get_or s (4 + k) 0 % 65536) 16

unfoldable pub config_in : List ℕ → Config
config_in s =
    record {
      stream = get_or s 0 0 % 65536;
      cid = get_or s 1 0 % 65536;
      watch = record { ids = ids_in s; n = get_or s 2 0 };
      rules = record { limit = get_or s 3 0 };
    }

-- what the types of a configuration keep to
pub record SizedConfig (c : Config) : Type 0 where
  pub stream : c.stream < 65536
  pub cid : c.cid < 65536
  pub count : length c.watch.ids ≡ 16
  pub ids : (k : ℕ) → k < 16 → get_or c.watch.ids k 0 < 65536

-- 91 for settings of fewer than 32 words or with a word that its setting cannot have (docs/DECISIONS.md), before start's own refusals
unfoldable pub start_by : State → List ℕ → Called
start_by st s = cond (are_within s settings_most) (start_from st (config_in s)) (refused 91 st)
