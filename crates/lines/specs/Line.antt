-- "Lines: `frame slot unit id kind psn mpu length`, `frame slot note number id`, .. last `end frames units notes`".
use Rattle.std.specs.Prelude.{ℕ, ◌+◌, Bool, true, false, cond, List, [], ◌∷◌, ◌++◌, leb}
use Rattle.reassembly.specs.declared.unit.Unit.{Unit}
use Rattle.queue.specs.declared.event.Given.{Given}
use Rattle.queue.specs.Event.{Event}
use Rattle.queue.specs.Event.{Nothing, Note, Unit as AUnit, Refused}
use Rattle.lines.specs.Decimal.{decimal}

-- an event that has a line of its own: a note or a unit
abbrev pub is_line : Event → Bool
is_line Nothing = false
is_line (Note n id) = true
is_line (AUnit g) = true
is_line (Refused n) = false

abbrev pub space : ℕ
space = 32

abbrev pub newline : ℕ
newline = 10

-- a number, and the character behind it
unfoldable pub field : ℕ → ℕ → List ℕ
field n end = decimal n ++ (end ∷ [])

-- `unit`, `note`, `refused`, `end`, each with a space behind it
abbrev pub unit_word : List ℕ
unit_word = 117 ∷ 110 ∷ 105 ∷ 116 ∷ 32 ∷ []

abbrev pub note_word : List ℕ
note_word = 110 ∷ 111 ∷ 116 ∷ 101 ∷ 32 ∷ []

abbrev pub refused_word : List ℕ
refused_word = 114 ∷ 101 ∷ 102 ∷ 117 ∷ 115 ∷ 101 ∷ 100 ∷ 32 ∷ []

abbrev pub end_word : List ℕ
end_word = 101 ∷ 110 ∷ 100 ∷ 32 ∷ []

-- the frame and the slot of an event
unfoldable pub place_text : ℕ → ℕ → List ℕ
place_text frame slot = field frame space ++ field slot space

-- id, kind, psn and MPU number of a unit
unfoldable pub carried_text : Unit → List ℕ
carried_text u =
    field u.packet_id space ++ field u.kind space ++ field u.psn.0 space ++ field u.mpu space

-- the line of a unit of len bytes
abbrev pub unit_text : ℕ → ℕ → Unit → ℕ → List ℕ
unit_text frame slot u len = place_text frame slot ++ unit_word ++ carried_text u ++ field len newline

unfoldable pub unit_line : ℕ → ℕ → Given → List ℕ
unit_line frame slot g = unit_text frame slot g.unit g.place.len

-- "id `-` for notes up to 51"
unfoldable pub id_text : ℕ → ℕ → List ℕ
id_text n id = cond (leb n 51) (45 ∷ newline ∷ []) (field id newline)

unfoldable pub note_line : ℕ → ℕ → ℕ → ℕ → List ℕ
note_line frame slot n id = place_text frame slot ++ note_word ++ field n space ++ id_text n id

unfoldable pub refused_line : ℕ → List ℕ
refused_line n = refused_word ++ field n newline

unfoldable pub end_line : ℕ → ℕ → ℕ → List ℕ
end_line frames units notes = end_word ++ field frames space ++ field units space ++ field notes newline

-- the longest line's bytes
abbrev pub longest_line : ℕ
longest_line = 152
