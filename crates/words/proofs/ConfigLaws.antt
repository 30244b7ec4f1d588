-- Laws of specs/Config.antt.
use Rattle.std.specs.Prelude.{ℕ, ◌+◌, ◌<◌, ◌≡◌, List, get_or}
use Rattle.std.proofs.Math.Path.{refl}
use Rattle.std.proofs.Common.{mod-eq_of_lt, add-zero, arith}
use Rattle.wire.specs.Words.{Holds, Same}
use Rattle.wire.proofs.WordsLaws.{same_from, same_first}
use Rattle.watch.specs.Rising.{rising}
use Rattle.watch.specs.Words.{rising_in}
use Rattle.watch.proofs.WordsLaws.{rising-same}
use Rattle.reassembly.specs.declared.config.Config.{Config}
use Rattle.words.specs.Config.{kept_config, read_config, config_words, ConfigStored}

-- Laws.
-- the same words, perhaps elsewhere, are read as the same
pub config-same : (t : List ℕ) (i : ℕ) (u : List ℕ) (k : ℕ) → Same t i u k 20 → read_config t i ≡ read_config u k
unfolding read_config
config-same t i u k s =
    rw (
      same_first t i u k 20 (omega arith) s,
      s 1 (omega arith),
      s 2 (omega arith),
      s 3 (omega arith),
      rising-same t (i + 4) u (k + 4) (get_or u (k + 2) 0) (same_from t i u k 4 16 20 (omega arith) s),
    )

-- what was stored is read back
pub config-back : (u : List ℕ) (i : ℕ) (c : Config) → c.stream < 65536 → c.cid < 65536 → rising_in u (i + 4) c.watch.n ≡ rising c.watch
    → Holds u i 20 (config_words (kept_config c)) → read_config u i ≡ kept_config c
unfolding read_config config_words
config-back u i c s d r h =
    rw (
      rw (add-zero i) at (h 0 (omega arith)),
      mod-eq_of_lt s,
      h 1 (omega arith),
      mod-eq_of_lt d,
      h 2 (omega arith),
      h 3 (omega arith),
      r,
    )

-- the words stored are those of what is read there
pub config-clean : (t u : List ℕ) (i : ℕ) (c : Config) → ConfigStored t u i c → Holds u i 20 (config_words (read_config u i))
config-clean t u i c p = rw p.read p.put.holds

-- the watch list
module _ (t : List ℕ) (i : ℕ) where
  pub watch-is : (read_config t i).watch ≡ rising_in t (i + 4) (get_or t (i + 2) 0)
  unfolding read_config
  watch-is = refl
