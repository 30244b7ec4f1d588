-- Laws of specs/Specimens.antt.
use Rattle.std.specs.Prelude.{refl}
use Rattle.reassembly.specs.Unit.{agrees}
use Rattle.reassembly.specs.Channel.{next_psn, heard, gap, unheard}
use Rattle.reassembly.specs.Join.{interrupted, begun, counter_follows, grown, extended, followed, acted, join_of, notes_of}
use Rattle.reassembly.specs.Specimens.{seen, Specimens, Examples}

pub specimens : Specimens
unfolding next_psn heard gap unheard agrees interrupted begun counter_follows grown extended followed acted join_of notes_of seen
specimens = (refl, refl, refl)

pub examples : Examples
unfolding next_psn heard gap unheard agrees interrupted begun counter_follows grown extended followed acted join_of notes_of seen
examples =
    (refl, refl, refl, refl, refl, refl, refl, refl, refl, refl, refl, refl, refl, refl, refl, refl, refl, refl, refl)
