-- An event as a record of 24 words: what it is, a note's number, the place of a unit's bytes, what a unit carries (of a note its
-- packet_id), and words for later fields, which are 0. Reading is total; what is written is read back.
use Rattle.std.specs.Prelude.{ℕ, ◌+◌, ◌<◌, Bool, ◌&&◌, List, [], ◌∷◌, ◌++◌, eqb, replicate}
use Rattle.std.proofs.Math.ListN.{get_or}
use Rattle.wire.specs.Words.{Put}
use Rattle.words.specs.Channel.{unit_words, SizedUnit}
use Rattle.queue.specs.Words.{memory_at, memory_word}
use Rattle.queue.specs.declared.event.Place.{Place}
use Rattle.queue.specs.declared.event.Given.{Given}
use Rattle.queue.specs.Event.{Event}
use Rattle.queue.specs.Event.{Nothing, Note, Unit as UnitGiven, Refused}
use Rattle.calls.specs.Bounds.{are_within}
use Rattle.calls.specs.Settings.{most8, most16, most32, most64}

abbrev pub record_words : ℕ
record_words = 24

-- a note: its number and its packet_id
unfoldable pub note_record : ℕ → ℕ → List ℕ
note_record n id = (1 ∷ n ∷ 0 ∷ 0 ∷ 0 ∷ id ∷ []) ++ replicate 18 0

-- a unit: its place, and what it carries
abbrev pub place_words : Place → List ℕ
place_words p = 2 ∷ 0 ∷ memory_word p.memory ∷ p.start ∷ p.len ∷ []

unfoldable pub unit_record : Given → List ℕ
unit_record g = (place_words g.place ++ unit_words g.unit) ++ replicate 9 0

-- nothing waits: zeros. A refused call writes no record.
unfoldable pub event_record : Event → List ℕ
event_record Nothing = replicate 24 0
event_record (Note n id) = note_record n id
event_record (UnitGiven g) = unit_record g
event_record (Refused n) = replicate 24 0

-- the record whose words begin at i
unfoldable pub read_place : List ℕ → ℕ → Place
read_place t i = record { memory = memory_at (get_or t (i + 2) 0); start = get_or t (i + 3) 0; len = get_or t (i + 4) 0 }

-- the most that each word of a unit's record may be; where its bytes stood does not count
unfoldable pub unit_most : List ℕ
unit_most =
    2 ∷ most64 ∷ most64 ∷ most64 ∷ most64 ∷ most16 ∷ most8 ∷ most32 ∷ most32 ∷ most32 ∷ most32 ∷ most32 ∷ most8 ∷ most8 ∷ most32
    ∷ replicate 9 0

-- a record that the packer takes
unfoldable pub is_unit_record : List ℕ → Bool
is_unit_record t = are_within t unit_most && eqb (get_or t 0 0) 2

-- what the types keep to
abbrev pub SizedEvent : Event → Type 0
SizedEvent Nothing = Unit {0}
SizedEvent (Note n id) = (n < 256) × (id < 65536)
SizedEvent (UnitGiven g) = SizedUnit g.unit
SizedEvent (Refused n) = Unit {0}

-- words after a note's, a unit's or an event's record was stored from i on
pub record NoteStored (before after : List ℕ) (i n id : ℕ) : Type 0 where
  pub put : Put before after i 24 (note_record n id)
  pub sized : (n < 256) × (id < 65536)

pub record UnitRecordStored (before after : List ℕ) (i : ℕ) (g : Given) : Type 0 where
  pub put : Put before after i 24 (unit_record g)
  pub sized : SizedUnit g.unit

pub record EventStored (before after : List ℕ) (i : ℕ) (e : Event) : Type 0 where
  pub put : Put before after i 24 (event_record e)
  pub sized : SizedEvent e
