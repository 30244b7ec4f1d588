-- Sound slots (document 01, "A slot is sound exactly if"; document 02, item 2, for the first bytes).
use Rattle.std.specs.Prelude.{ℕ, ◌-◌, Bool, cond, ◌&&◌, ◌||◌, List, length, drop, eqb, ltb}
use Rattle.tlv.specs.Packet.{cut}
use Rattle.tlv.specs.declared.note.SlotNote.TheVariants.{Unsound}
use Rattle.tlv.specs.Notes.{number_of}

-- the pointer that says "none"
abbrev pub none : ℕ
none = 0xffff

-- the end of the last packet complete from t, or t if there is none
unfoldable pub end_from : List ℕ → ℕ → ℕ
end_from s t = length s - length (cut (drop t s)).tail

-- "last is the end of the last packet complete from t, else t, or 0xFFFF if t is 0": that end is 0 only in the last case
unfoldable pub last_pointer : ℕ → ℕ
last_pointer end = cond (eqb end 0) none end

unfoldable pub sound : List ℕ → ℕ → ℕ → Bool
sound s top last =
    cond (eqb top none) (eqb last none || eqb last (length s))
    (ltb top (length s) && ((cut (drop top s)).good && eqb last (last_pointer (end_from s top))))

-- the note of an own live slot by itself: 41 if it is unsound; 0 for none
unfoldable pub slot_note : List ℕ → ℕ → ℕ → ℕ
slot_note s top last = cond (sound s top last) 0 (number_of Unsound)
