-- Why the packer takes the record of a unit as next writes it.
use mathlib.Core.Path.{◌∙◌, ap}
use Rattle.reassembly.specs.declared.unit.Unit.{Unit}
use Rattle.calls.proofs.RecordLaws.{unit-taken, unit-read}
use Rattle.ixohuemil.specs.Answers.{pack_call}
use Rattle.ixohuemil.proofs.AnswersLaws.{pack_unit}
use Rattle.ixohuemil.specs.Claims.{PackGiven}

pub pack_given : PackGiven
pack_given g cid sn m s out len z a b =
    pack_unit _ cid sn m s out len (unit-taken g z a b) ∙ ap (λ (u : Unit). pack_call u cid sn m s out len) (unit-read g z)
