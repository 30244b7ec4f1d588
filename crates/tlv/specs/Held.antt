-- What a sound slot does to held bytes: 43 is decided before 42.
use Rattle.std.specs.Prelude.{ℕ, ◌-◌, cond, List, ◌++◌, length, eqb, ltb}
use Rattle.tlv.specs.declared.held.Continuation.{Continuation}
use Rattle.tlv.specs.declared.note.SlotNote.TheVariants.{Misfit, TooLong}
use Rattle.tlv.specs.declared.held.Continuation.TheVariants.{Dropped, Ends, GoesOn}
use Rattle.tlv.specs.Packet.{total, max_packet}
use Rattle.tlv.specs.Slot.{none}
use Rattle.tlv.specs.Notes.{number_of}

-- the first packet starts at t: an end that differs from t is a misfit
unfoldable pub end_within : ℕ → ℕ → Continuation
end_within end t = cond (eqb end t) (Ends end) (Dropped Misfit)

-- no packet starts in a slot of length l: "an end inside the slot, or at L without last = L, or after L with last = L"
unfoldable pub end_beyond : ℕ → ℕ → ℕ → Continuation
end_beyond end l last =
    cond (ltb end l) (Dropped Misfit)
    (cond (eqb end l) (cond (eqb last l) (Ends end) (Dropped Misfit)) (cond (eqb last l) (Dropped Misfit) GoesOn))

-- the total of the held packet; its header is completed from the slot, before or past t
unfoldable pub held_total : List ℕ → List ℕ → ℕ
held_total held s = total (held ++ s)

-- where it ends in the slot
unfoldable pub held_end : List ℕ → List ℕ → ℕ
held_end held s = held_total held s - length held

unfoldable pub continuation_of : List ℕ → List ℕ → ℕ → ℕ → Continuation
continuation_of held s top last =
    cond (eqb (length held) 0) (end_within 0 top)
    (cond (ltb max_packet (held_total held s)) (Dropped TooLong)
    (cond (eqb top none) (end_beyond (held_end held s) (length s) last) (end_within (held_end held s) top)))

-- the note that each case gives; 0 for none
abbrev pub note_of : Continuation → ℕ
note_of (Dropped n) = number_of n
note_of (Ends end) = 0
note_of GoesOn = 0
