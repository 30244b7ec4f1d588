-- Laws of specs/Examples.antt.
use Rattle.std.specs.Prelude.{refl}
use Rattle.wire.specs.Memory.{part_of, pasted}
use Rattle.mmtp.specs.Unit.{field_bytes, fields_of, single_fits, single_unit, single_at}
use Rattle.reassembly.specs.Unit.{agrees}
use Rattle.reassembly.specs.Channel.{next_psn, heard, gap, unheard}
use Rattle.reassembly.specs.Join.{interrupted, begun, counter_follows, grown, extended, followed, acted, join_of}
use Rattle.delivery.specs.Packet.{first_unit, collected, give_of, joined_of, received_of}
use Rattle.delivery.specs.Examples.{Examples}

pub examples : Examples
unfolding part_of pasted field_bytes fields_of single_fits single_unit single_at agrees next_psn heard gap unheard interrupted begun counter_follows
    grown extended followed acted join_of first_unit collected give_of joined_of received_of
examples = (refl, refl, refl, refl, refl, refl, refl)
