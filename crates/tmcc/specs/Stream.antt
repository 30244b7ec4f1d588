-- The relative streams of a control block, and the slots of the chosen one.
use Rattle.std.specs.Prelude.{ℕ, ◌+◌, ◌*◌, ◌/◌, ◌%◌, Bool, cond, ◌&&◌, List, Option, Some, None, get_or, eqb, ltb}
use Rattle.wire.specs.Bits.{bits_at}
use Rattle.wire.specs.Field.{be}
use Rattle.tmcc.specs.declared.stream.Streams.{Streams}
use Rattle.tmcc.specs.Count.{count_below, last_below}
use Rattle.tmcc.specs.Mode.{slot_length}

-- bytes 25 to 40: type of relative streams 0 to 15 (2 = TLV); bytes 693 to 724: their stream ids
unfoldable pub chosen : List ℕ → ℕ → ℕ → Bool
chosen b id r = eqb (get_or b (25 + r) 0) 2 && eqb (be 2 b (693 + 2 * r)) id

-- how many relative streams are chosen, and the last of them
abbrev pub streams_of : List ℕ → ℕ → Streams
streams_of b id = record { count = count_below (chosen b id) 16; last = last_below (chosen b id) 16 }

-- the chosen relative stream, if there is just one
unfoldable pub one_stream : List ℕ → ℕ → Option ℕ
one_stream b id = cond (eqb (count_below (chosen b id) 16) 1) (Some (last_below (chosen b id) 16)) None

-- bytes 633 to 692: the relative stream of each slot, 4 bits
unfoldable pub relative_stream : List ℕ → ℕ → ℕ
relative_stream b s = cond (eqb (s % 2) 0) (bits_at 4 4 (get_or b (633 + s / 2) 0)) (bits_at 0 4 (get_or b (633 + s / 2) 0))

-- slot s is live and of relative stream `own`
unfoldable pub own_slot : List ℕ → ℕ → ℕ → Bool
own_slot b own s = ltb 0 (slot_length b s) && eqb (relative_stream b s) own
