-- Laws of specs/Examples.antt.
use Rattle.std.specs.Prelude.{refl}
use Rattle.wire.specs.Memory.{part_of}
use Rattle.state.specs.Start.{fresh_state}
use Rattle.frames.specs.Slot.{short_by}
use Rattle.receiver.specs.Next.{next_of}
use Rattle.receiver.specs.Show.{show_of}
use Rattle.receiver.specs.Examples.{Nexts}

pub nexts : Nexts
unfolding next_of short_by fresh_state show_of part_of
nexts = (refl, refl, refl, refl)
