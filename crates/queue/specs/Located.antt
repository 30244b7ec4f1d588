-- A whole unit in packet memory.
use Rattle.std.specs.Prelude.{ℕ, ◌+◌, ◌-◌}
use Rattle.mmtp.specs.declared.unit.DataUnit.{DataUnit}
use Rattle.reassembly.specs.Unit.{carried}
use Rattle.queue.specs.declared.event.Memory.TheVariants.{Packet as PacketMemory}
use Rattle.queue.specs.declared.event.Given.{Given}
use Rattle.queue.specs.declared.located.Located.{Located}

abbrev pub unit_len : DataUnit → ℕ
unit_len u = u.end - u.start

-- a whole unit stands in packet memory
abbrev pub whole_given : Located → DataUnit → Given
whole_given l u =
    record {
      unit = carried l.packet u.fields;
      place = record { memory = PacketMemory; start = l.start + u.start; len = unit_len u };
    }
