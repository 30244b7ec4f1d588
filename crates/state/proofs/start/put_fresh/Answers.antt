-- Why put_fresh meets its contract: 0 in every word, then what start keeps, and no slot is due.
use mathlib.Core.Path.{◌∙◌}
use lib.ListN.{length-set}
use Rattle.state.proofs.LentLaws.{state-fresh}
use Rattle.state.proofs.Clean.{exact-fresh, fresh-clean}
use Rattle.state.proofs.start.put_fresh.Goals as goal

pub shape_of-words : goal.shape_of-words
shape_of-words c =
    simp length-set (c.store_config.ensures.put.size ∙ c.clear.ensures.size)

pub returns : goal.returns
returns c =
    record {
      sets =
          record {
            state = state-fresh _ _ _ _ c.requires c.clear.ensures c.store_config.ensures;
            exact = exact-fresh _ _ _ _ c.clear.ensures c.store_config.ensures;
          };
      clean = fresh-clean _ _ _ _ c.clear.ensures c.store_config.ensures;
    }
