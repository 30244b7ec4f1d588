-- Why good_first meets its contract: it is the test of the definition.
use mathlib.Core.Path.{refl}
use Rattle.tlv.specs.Packet.{good_first}
use Rattle.tlv.proofs.packet.good_first.Goals as goal

pub returns : goal.returns
unfolding good_first
returns c = refl
