-- Why store_config meets its contract: four stores, and the watch list behind them.
use mathlib.Core.Path.{refl}
use mathlib.Core.List.{[], ◌∷◌}
use native.Mathlib.Nat.{add-zero}
use native.Mathlib.Omega.{arith}
use Rattle.wire.specs.Words.{put_from}
use Rattle.wire.proofs.WordsLaws.{stores, put_on}
use Rattle.words.specs.Config.{config_words}
use Rattle.words.proofs.ConfigLaws.{config-back}
use Rattle.watch.specs.Rising.{rising}
use Rattle.watch.specs.Words.{rising_words}
use Rattle.words.proofs.config.store_config.Goals as goal

pub returns : goal.returns
unfolding config_words put_from
returns c =
    let t = c.args.t.now in
    let i = c.args.i in
    let g = c.args.config in
    let xs = g.stream ∷ g.cid ∷ g.watch.n ∷ g.rules.limit ∷ [] in
    let d = c.keep in
    let put =
    put_on t _ _ i 4 16 20 xs (rising_words (rising g.watch)) refl refl
    (rw (add-zero i) at (stores t i 4 xs refl (omega (arith, c.requires)))) d.ensures.put in
    record {
      read = config-back _ i g (omega (arith, c.well_formed)) (omega (arith, c.well_formed)) d.ensures.read put.holds;
      put = put;
    }
