-- What next has yet to give of a packet, one event at a time: its note, note 64, its units.
use Rattle.std.specs.Prelude.{ℕ, ◌-◌, false, cond, List, eqb}
use Rattle.wire.specs.Memory.{part_of}
use Rattle.mmtp.specs.declared.unit.Step.{Step}
use Rattle.mmtp.specs.declared.unit.Step.TheVariants.{Unit as UnitAt, Malformed, End}
use Rattle.mmtp.specs.Unit.{unit_at}
use Rattle.reassembly.specs.declared.note.JoinNote.TheVariants.{AboveLimit}
use Rattle.reassembly.specs.Notes.{number_of}
use Rattle.queue.specs.Event.{Nothing, Note, Unit}
use Rattle.queue.specs.Waiting.{Give, Nothing as NoUnit, One, Many, Aggregate, Queue, Taken}
use Rattle.queue.specs.Located.{whole_given}

abbrev pub empty : Queue
empty = record { note = 0; over = false; packet_id = 0; give = NoUnit }

abbrev pub giving : Queue → Give → Queue
giving q g = record { note = q.note; over = q.over; packet_id = q.packet_id; give = g }

-- the queue gives no more
abbrev pub finished : Queue → Taken
finished q = record { event = Nothing; queue = giving q NoUnit }

-- the next unit of an aggregate
abbrev pub many_by : Step → Aggregate → Queue → Taken
many_by (UnitAt u) a q =
    record {
      event = Unit (whole_given (record { packet = a.packet; start = a.start; end = a.end }) u);
      queue = giving q (Many (record { packet = a.packet; start = a.start; end = a.end; at = u.end }));
    }
many_by Malformed a q = finished q
many_by End a q = finished q

-- what stands at the next unit's place
abbrev pub next_unit : Aggregate → List ℕ → Step
next_unit a p = unit_at (part_of p a.start (a.end - a.start)) a.at a.packet.payload.kind a.packet.payload.wide

abbrev pub give_by : Give → Queue → List ℕ → Taken
give_by NoUnit q p = record { event = Nothing; queue = q }
give_by (One g) q p = record { event = Unit g; queue = giving q NoUnit }
give_by (Many a) q p = many_by (next_unit a p) a q

-- the event, Nothing where the queue is empty, and the queue after it
unfoldable pub event_taken : Queue → List ℕ → Taken
event_taken q p =
    cond (eqb q.note 0)
    (cond q.over
    (record {
      event = Note (number_of AboveLimit) q.packet_id;
      queue = record { note = 0; over = false; packet_id = q.packet_id; give = q.give };
    })
    (give_by q.give q p))
    (record {
      event = Note q.note q.packet_id;
      queue = record { note = 0; over = q.over; packet_id = q.packet_id; give = q.give };
    })
