-- Laws of specs/Hole.antt.
use Rattle.std.specs.Prelude.{refl}
use Rattle.reassembly.specs.Unit.{agrees}
use Rattle.reassembly.specs.Channel.{next_psn, heard, gap, unheard}
use Rattle.reassembly.specs.Join.{interrupted, begun, counter_follows, grown, extended, followed, acted, join_of, notes_of}
use Rattle.reassembly.specs.Run.{step, run}
use Rattle.reassembly.specs.Sent.{open_unit, sent_after, sent}
use Rattle.reassembly.specs.Hole.{Examples}

pub examples : Examples
unfolding next_psn heard gap unheard agrees interrupted begun counter_follows grown extended followed acted join_of notes_of step run
    open_unit sent_after sent
examples = (
  record { comes = refl; fits = refl; absent = refl; left = refl },
  record { comes = refl; fits = refl; absent = refl; left = refl },
)
