-- Examples of lines, computed: each number in its place, and which notes have an id.
use Rattle.std.specs.Prelude.{◌≡◌, [], ◌∷◌}
use Rattle.mmtp.specs.Unit.{no_fields}
use Rattle.queue.specs.declared.event.Given.{Given}
use Rattle.queue.specs.declared.event.Memory.TheVariants.{Collecting}
use Rattle.lines.specs.Line.{unit_line, note_line, refused_line, end_line}

-- packet_id 9, kind 2, psn 7, MPU number 5, and 3 bytes from byte 1 of collecting memory on
abbrev given : Given
given =
    record {
      unit = record { packet_id = 9; kind = 2; psn = record { 0 = 7 }; mpu = 5; fields = no_fields };
      place = record { memory = Collecting; start = 1; len = 3 };
    }

abbrev pub Examples : Type 0
Examples =
    -- "4 6 unit 9 2 7 5 3"
    (unit_line 4 6 given ≡ 52 ∷ 32 ∷ 54 ∷ 32 ∷ 117 ∷ 110 ∷ 105 ∷ 116 ∷ 32 ∷ 57 ∷ 32 ∷ 50 ∷ 32 ∷ 55 ∷ 32 ∷ 53 ∷ 32 ∷ 51 ∷ 10 ∷ [])
    -- "2 6 note 51 -", "2 6 note 52 17"
    × (note_line 2 6 51 17 ≡ 50 ∷ 32 ∷ 54 ∷ 32 ∷ 110 ∷ 111 ∷ 116 ∷ 101 ∷ 32 ∷ 53 ∷ 49 ∷ 32 ∷ 45 ∷ 10 ∷ [])
    × (note_line 2 6 52 17 ≡ 50 ∷ 32 ∷ 54 ∷ 32 ∷ 110 ∷ 111 ∷ 116 ∷ 101 ∷ 32 ∷ 53 ∷ 50 ∷ 32 ∷ 49 ∷ 55 ∷ 10 ∷ [])
    -- "refused 22"
    × (refused_line 22 ≡ 114 ∷ 101 ∷ 102 ∷ 117 ∷ 115 ∷ 101 ∷ 100 ∷ 32 ∷ 50 ∷ 50 ∷ 10 ∷ [])
    -- four frames, three units, two notes: "end 4 3 2"
    × (end_line 4 3 2 ≡ 101 ∷ 110 ∷ 100 ∷ 32 ∷ 52 ∷ 32 ∷ 51 ∷ 32 ∷ 50 ∷ 10 ∷ [])
