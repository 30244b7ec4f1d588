-- Examples of next and show, computed over the definitions.
use Rattle.std.specs.Prelude.{◌≡◌, [], ◌∷◌}
use Rattle.queue.specs.Event.{Refused}
use Rattle.queue.specs.declared.event.Memory.TheVariants.{Packet, Collecting}
use Rattle.state.specs.Examples.{due}
use Rattle.receiver.specs.Next.{answered, next_of}
use Rattle.receiver.specs.Show.{show_of}

abbrev pub Nexts : Type 0
Nexts =
    -- 22 is tested in any case
    (next_of (due 0) [] [] ≡ answered (Refused 22) (due 0) [])
    -- a part of packet memory, of collecting memory, and a place one byte of which is outside
    × (show_of (1 ∷ 2 ∷ 3 ∷ []) (4 ∷ 5 ∷ []) (record { memory = Packet; start = 1; len = 2 }) ≡ 2 ∷ 3 ∷ [])
    × (show_of (1 ∷ 2 ∷ 3 ∷ []) (4 ∷ 5 ∷ []) (record { memory = Collecting; start = 0; len = 1 }) ≡ 4 ∷ [])
    × (show_of (1 ∷ 2 ∷ 3 ∷ []) (4 ∷ 5 ∷ []) (record { memory = Packet; start = 2; len = 2 }) ≡ [])
