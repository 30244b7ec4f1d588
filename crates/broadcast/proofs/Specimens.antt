-- All starred specimens hold.
use Rattle.tmcc.proofs.Specimens.{specimens as tmcc}
use Rattle.tlv.proofs.SpecimensLaws.{specimens as tlv}
use Rattle.mmtp.proofs.SpecimensLaws.{header-specimens}
use Rattle.mmtp.proofs.PayloadSpecimensLaws.{payload_specimens}
use Rattle.reassembly.proofs.SpecimensLaws.{specimens as reassembly}
use Rattle.broadcast.specs.Specimens.{Specimens}

pub specimens : Specimens
specimens = (tmcc, tlv, header-specimens, payload_specimens, reassembly)
