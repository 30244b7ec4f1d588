-- What next comes to in a slot: its note, the packet that it completed, the packets from its top pointer, its tail.
use Rattle.std.specs.Prelude.{ℕ, suc, ◌+◌, ◌-◌, Bool, cond, List, drop, eqb, Option, Some, None}
use Rattle.std.proofs.Math.Bool.{true, false}
use Rattle.wire.specs.Memory.{part_of}
use Rattle.tlv.specs.declared.note.SlotNote.TheVariants.{TooLong}
use Rattle.tlv.specs.Notes.{number_of}
use Rattle.tlv.specs.Packet.{packet_at, too_long}
use Rattle.queue.specs.Event.{Event as AnEvent}
use Rattle.queue.specs.Event.{Nothing, Note, Unit, Refused}
use Rattle.intake.specs.declared.held.Cursor.{Cursor}
use Rattle.intake.specs.Slot.{noted}
use Rattle.queue.specs.Waiting.{Queue}
use Rattle.delivery.specs.Found.{Found}
use Rattle.delivery.specs.Found.{Event, Packet, Tail, Done}
use Rattle.delivery.specs.Found.{Advanced}
use Rattle.queue.specs.Queue.{event_taken}

-- "a tail is held, but one whose known total is above 16,384 gives 43"
unfoldable pub tail_advanced : List ℕ → ℕ → ℕ → Advanced
tail_advanced s at end = record { found = cond (too_long (drop at s)) (Event (Note (number_of TooLong) 0)) (Tail at (end - at)); cursor = noted 0 }

-- what stands at the cursor in the slot, and the cursor past it
abbrev pub advanced_by : Option ℕ → Cursor → List ℕ → Advanced
advanced_by (Some e) c s =
    record {
      found = Packet c.at e;
      cursor = record { note = c.note; packet = c.packet; reading = c.reading; at = e; end = c.end };
    }
advanced_by None c s = tail_advanced s c.at c.end

unfoldable pub slot_advanced : Cursor → List ℕ → Advanced
slot_advanced c p = let s = part_of p 0 c.end in advanced_by (packet_at s c.at) c s

-- the slot's note, the packet that it completed, the packets from its top pointer, its tail
unfoldable pub advanced_of : Cursor → List ℕ → Advanced
advanced_of c p =
    cond (eqb c.note 0)
    (cond (eqb c.packet 0) (cond c.reading (slot_advanced c p) (record { found = Done; cursor = c }))
    (record {
      found = Packet 0 c.packet;
      cursor = record { note = c.note; packet = 0; reading = c.reading; at = c.at; end = c.end };
    }))
    (record {
      found = Event (Note c.note 0);
      cursor = record { note = 0; packet = c.packet; reading = c.reading; at = c.at; end = c.end };
    })

-- what next comes to, and the queue and the cursor past it
pub record Turn : Type 0 where
  pub found : Found
  pub queue : Queue
  pub cursor : Cursor

-- what the queue gives, or where it is empty what the cursor comes to, and the queue and the cursor past it
abbrev pub turn_by : AnEvent → Queue → Cursor → List ℕ → Turn
turn_by Nothing q cur p = let a = advanced_of cur p in record { found = a.found; queue = q; cursor = a.cursor }
turn_by (Note n id) q cur p = record { found = Event (Note n id); queue = q; cursor = cur }
turn_by (Unit g) q cur p = record { found = Event (Unit g); queue = q; cursor = cur }
turn_by (Refused n) q cur p = record { found = Event (Refused n); queue = q; cursor = cur }

unfoldable pub turn_of : Queue → Cursor → List ℕ → Turn
turn_of q cur p = let t = event_taken q p in turn_by t.event t.queue cur p

-- the queue gave an event
abbrev pub is_event : AnEvent → Bool
is_event Nothing = false
is_event (Note n id) = true
is_event (Unit g) = true
is_event (Refused n) = true

abbrev pub one : ℕ → ℕ
one n = cond (eqb n 0) 0 1

abbrev pub span : Bool → ℕ → ℕ
span true n = suc n
span false n = 0

-- how much the cursor has left: it falls with every packet and at the tail
unfoldable pub left : Cursor → ℕ
left c = one c.packet + span c.reading (c.end - c.at)
