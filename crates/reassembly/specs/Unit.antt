-- What a unit carries beside its bytes, and when a further piece agrees with an open unit.
use Rattle.std.specs.Prelude.{Bool, ◌&&◌, ◌==◌}
use Rattle.mmtp.specs.declared.packet.Packet.{Packet}
use Rattle.mmtp.specs.declared.unit.Fields.{Fields}
use Rattle.reassembly.specs.declared.unit.Unit.{Unit}

-- "A unit carries packet_id, kind, first psn, MPU number and first piece's fields"
abbrev pub carried : Packet → Fields → Unit
carried p f =
    record { packet_id = p.packet_id; kind = p.payload.kind; psn = p.psn; mpu = p.payload.mpu; fields = f }

-- "must agree in kind, MPU number, movie fragment and sample (or item)"
unfoldable pub agrees : Unit → Unit → Bool
agrees unit piece =
    (unit.kind == piece.kind) && unit.mpu == piece.mpu
    && (unit.fields.movie_fragment == piece.fields.movie_fragment && unit.fields.sample == piece.fields.sample
    && unit.fields.item == piece.fields.item)
