-- What start keeps of what it is given, in words that the caller lends. Reading is total, also of words that no call writes; what is
-- written is read back.
use Rattle.std.specs.Prelude.{ℕ, ◌+◌, ◌%◌, ◌≡◌, List, [], ◌∷◌, ◌++◌, get_or}
use Rattle.wire.specs.Words.{Put}
use Rattle.watch.specs.Rising.{Rising, rising}
use Rattle.watch.specs.Words.{rising_in, rising_words}
use Rattle.reassembly.specs.declared.config.Config.{Config}
use Rattle.reassembly.specs.declared.config.Rules.{Rules}

-- as start is given it, but for the watch list, which is in rising order
pub record KeptConfig : Type 0 where
  pub stream : ℕ
  pub cid : ℕ
  pub watch : Rising
  pub rules : Rules

abbrev pub kept_config : Config → KeptConfig
kept_config c = record { stream = c.stream; cid = c.cid; watch = rising c.watch; rules = c.rules }

-- twenty words: stream, CID, n, R, and sixteen of the watch list
unfoldable pub read_config : List ℕ → ℕ → KeptConfig
read_config t i =
    record {
      stream = get_or t i 0 % 65536;
      cid = get_or t (i + 1) 0 % 65536;
      watch = rising_in t (i + 4) (get_or t (i + 2) 0);
      rules = record { limit = get_or t (i + 3) 0 };
    }

unfoldable pub config_words : KeptConfig → List ℕ
config_words c = (c.stream ∷ c.cid ∷ c.watch.n ∷ c.rules.limit ∷ []) ++ rising_words c.watch

-- what start keeps of `c` was stored from i on
pub record ConfigStored (before after : List ℕ) (i : ℕ) (c : Config) : Type 0 where
  pub read : read_config after i ≡ kept_config c
  pub put : Put before after i 20 (config_words (kept_config c))
