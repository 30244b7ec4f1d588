-- Laws of specs/Record.antt.
use Rattle.std.specs.Prelude.{ℕ, ◌+◌, ◌%◌, ◌<◌, ◌≤◌, ◌≡◌, true, false, cond, List, ◌++◌, eqb, leb, length, replicate}
use Rattle.std.proofs.Math.Path.{refl, ap}
use Rattle.std.proofs.Math.Bool.{and-eq-true_iff}
use Rattle.std.proofs.Common.{add-zero, zero-add, arith, length-append}
use Rattle.std.proofs.Math.Nat.{mod-eq_of_lt}
use borrow.Author.Tests.{le-leb}
use Rattle.std.proofs.Math.ListN.{get_or}
use Rattle.wire.proofs.WordsLaws.{holds-front, holds-behind, holds-put}
use Rattle.words.specs.Channel.{read_unit, unit_words, field_words, SizedUnit}
use Rattle.words.proofs.ChannelLaws.{length-unit, unit-put}
use Rattle.queue.specs.declared.event.Memory.{Memory}
use Rattle.queue.specs.declared.event.Memory.TheVariants.{Packet, Collecting}
use Rattle.queue.specs.Words.{memory_word}
use Rattle.queue.proofs.WordsLaws.{memory-back}
use Rattle.queue.specs.declared.event.Given.{Given}
use Rattle.queue.specs.Event.{Event}
use Rattle.queue.specs.Event.{Nothing, Note, Unit as UnitGiven, Refused}
use Rattle.calls.specs.Bounds.{are_within}
use Rattle.calls.proofs.BoundsLaws.{within-enough}
use Rattle.calls.specs.Settings.{most8, most16, most32, most64}
use Rattle.calls.specs.Record.{note_record, place_words, unit_record, event_record, read_place, unit_most, is_unit_record, EventStored}

unfoldable pub read_event : List ℕ → ℕ → Event
read_event t i =
    cond (eqb (get_or t i 0) 0) Nothing
    (cond (eqb (get_or t i 0) 1) (Note (get_or t (i + 1) 0 % 256) (get_or t (i + 5) 0 % 65536))
    (UnitGiven (record { unit = read_unit t (i + 5); place = read_place t i })))

-- Laws.
pub length_record : (e : Event) → length (event_record e) ≡ 24
unfolding event_record note_record unit_record unit_words field_words
length_record Nothing = refl
length_record (Note n id) = refl
length_record (UnitGiven g) = refl
length_record (Refused n) = refl

-- what was written is read back
module _ (t u : List ℕ) (i : ℕ) where
  pub note-put : (n id : ℕ) → EventStored t u i (Note n id) → read_event u i ≡ Note n id
  unfolding read_event event_record note_record
  note-put n id s =
      let h = s.put.holds in
      rw (rw (add-zero i) at (h 0 (omega arith)), h 1 (omega arith), h 5 (omega arith), mod-eq_of_lt s.sized.0, mod-eq_of_lt s.sized.1)

  pub nothing_put : EventStored t u i Nothing → read_event u i ≡ Nothing
  unfolding read_event event_record
  nothing_put s = rw (rw (add-zero i) at (s.put.holds 0 (omega arith)))

  module _ (g : Given) (s : EventStored t u i (UnitGiven g)) where
    carried : read_unit u (i + 5) ≡ g.unit
    unfolding event_record unit_record
    carried =
        unit-put u u (i + 5) g.unit
        (record {
          put =
              holds-put u (i + 5) 10 (unit_words g.unit)
              (holds-behind u i 5 10 15 (place_words g.place) (unit_words g.unit) refl (omega arith)
              (holds-front u i 15 24 (place_words g.place ++ unit_words g.unit) (replicate 9 0)
              (rw (length-append, length-unit g.unit) (omega arith)) (omega arith) s.put.holds));
          sized = s.sized;
        })

    pub place-put : read_place u i ≡ g.place
    unfolding read_place event_record unit_record
    place-put = let h = s.put.holds in rw (h 2 (omega arith), h 3 (omega arith), h 4 (omega arith), memory-back g.place.memory)

    pub unit_record_put : read_event u i ≡ UnitGiven g
    unfolding read_event event_record unit_record
    unit_record_put = rw (rw (add-zero i) at (s.put.holds 0 (omega arith)), carried, place-put)

-- a record that the packer takes: its words are within their bounds, and the first one tells
module _ (t : List ℕ) where
  pub unit-not : are_within t unit_most ≡ false → is_unit_record t ≡ false
  unfolding is_unit_record
  unit-not e = rw e

  pub unit-first : are_within t unit_most ≡ true → is_unit_record t ≡ eqb (get_or t 0 0) 2
  unfolding is_unit_record
  unit-first e = rw e

  pub within-length : are_within t unit_most ≡ true → 24 ≤ length t
  unfolding unit_most
  within-length e = within-enough t _ e

  pub unit-within : is_unit_record t ≡ true → are_within t unit_most ≡ true
  unfolding is_unit_record
  unit-within e = ((and-eq-true_iff (are_within t unit_most) (eqb (get_or t 0 0) 2)).0 e).0

  pub unit-length : is_unit_record t ≡ true → 24 ≤ length t
  unit-length e = within-length (unit-within e)

bound : (x y : ℕ) → x < y + 1 → leb x y ≡ true
bound x y h = le-leb x y (omega arith)

-- the record of a unit is one that the packer takes, for that unit
module _ (g : Given) (s : SizedUnit g.unit) where
  pub unit-read : read_unit (unit_record g) 5 ≡ g.unit
  unfolding unit_record
  unit-read =
      unit-put (unit_record g) (unit_record g) 5 g.unit
      (record {
        put =
            holds-put (unit_record g) 5 10 (unit_words g.unit)
            (holds-behind (unit_record g) 0 5 10 15 (place_words g.place) (unit_words g.unit) refl (omega arith)
            (holds-front (unit_record g) 0 15 24 (place_words g.place ++ unit_words g.unit) (replicate 9 0)
            (rw (length-append, length-unit g.unit) (omega arith)) (omega arith) (λ j h. ap (λ (x : ℕ). get_or (unit_record g) x 0) (zero-add j))));
        sized = s;
      })

  memory-most : (m : Memory) → leb (memory_word m) most64 ≡ true
  unfolding memory_word
  memory-most Packet = refl
  memory-most Collecting = refl

  pub unit-taken : g.place.start ≤ most64 → g.place.len ≤ most64 → is_unit_record (unit_record g) ≡ true
  unfolding is_unit_record unit_most are_within unit_record unit_words field_words
  unit-taken a b =
      let f = s.fields in
      rw (
        memory-most g.place.memory,
        le-leb _ _ a,
        le-leb _ _ b,
        bound g.unit.packet_id most16 s.id,
        bound g.unit.kind most8 s.kind,
        bound g.unit.psn.0 most32 s.psn,
        bound g.unit.mpu most32 s.mpu,
        bound g.unit.fields.movie_fragment most32 f.fragment,
        bound g.unit.fields.sample most32 f.sample,
        bound g.unit.fields.offset most32 f.offset,
        bound g.unit.fields.priority most8 f.priority,
        bound g.unit.fields.dependency most8 f.dependency,
        bound g.unit.fields.item most32 f.item,
      )
