-- Why settle meets its contract: the held bytes and the cursor are stored.
use Rattle.state.proofs.Leaves.{state_intake}
use Rattle.frames.proofs.frame.settle.Goals as goal

pub returns : goal.returns
returns c =
    state_intake _ _ _ _ c.store_held.ensures c.store_cursor.ensures
