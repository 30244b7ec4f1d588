-- Why write_fields meets its contract: the other kinds have no fields.
use Rattle.std.proofs.Common.{◌≢◌, [], arith, ne_eqb}
use Rattle.wire.proofs.MemoryLaws.{pasted-zero}
use Rattle.mmtp.specs.Unit.{field_bytes}
use Rattle.packer.specs.Packet.{fields_written}
use Rattle.packer.proofs.packet.write_fields.Goals as goal

pub returns-in_default : goal.returns-in_default
unfolding fields_written field_bytes
returns-in_default c =
    let two : c.args.unit.kind ≢ 2 = omega arith in
    let three : c.args.unit.kind ≢ 3 = omega arith in
    rw (ne_eqb _ _ two, ne_eqb _ _ three) (pasted-zero _ _ [])
