-- Why blank meets its contract: both sides are the same three lists.
use mathlib.Core.Path.{refl}
use Rattle.tmcc.specs.Layout.{blank_layout}
use Rattle.tmcc.proofs.layout.blank.Goals as goal

pub returns : goal.returns
unfolding blank_layout
returns c = refl
