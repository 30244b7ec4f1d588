-- Why total_at meets its contract: the field of the rest is a field of the slice.
use Rattle.std.proofs.Common.{arith}
use Rattle.wire.proofs.FieldLaws.{be-drop}
use Rattle.tlv.specs.Packet.{total}
use Rattle.tlv.proofs.packet.total_at.Goals as goal

pub returns : goal.returns
unfolding total
returns c = (rw be-drop (cc), omega arith)
