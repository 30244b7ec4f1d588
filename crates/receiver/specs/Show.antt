-- Show: "a part of packet memory for a whole unit, of collecting memory for a joined one".
use Rattle.std.specs.Prelude.{ℕ, List}
use Rattle.wire.specs.Memory.{part_of}
use Rattle.queue.specs.declared.event.Memory.{Memory}
use Rattle.queue.specs.declared.event.Memory.TheVariants.{Packet, Collecting}
use Rattle.queue.specs.declared.event.Place.{Place}

abbrev pub memory_of : Memory → List ℕ → List ℕ → List ℕ
memory_of Packet p c = p
memory_of Collecting p c = c

unfoldable pub show_of : List ℕ → List ℕ → Place → List ℕ
show_of p c place = part_of (memory_of place.memory p c) place.start place.len
