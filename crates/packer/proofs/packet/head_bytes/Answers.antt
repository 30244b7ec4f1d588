-- Why head_bytes meets its contract: the sum of the parts.
use Rattle.std.proofs.Common.{arith}
use Rattle.packer.proofs.Lengths.{sizes}
use Rattle.packer.proofs.packet.head_bytes.Goals as goal

pub overflow_add-result-2 : goal.overflow_add-result-2
overflow_add-result-2 c = omega (arith, sizes c.args.kind)

pub returns : goal.returns
returns c = let z = sizes c.args.kind in (omega arith, omega arith)
