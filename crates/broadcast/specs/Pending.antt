-- What a receiver's state has yet to give: the notes and packets of the slot, and the notes and units of a packet.
use Rattle.std.specs.Prelude.{ℕ, ◌-◌, Bool, true, false, cond, List, [], ◌∷◌, ◌++◌, map, length, drop, eqb}
use Rattle.wire.specs.Memory.{part_of}
use Rattle.tlv.specs.declared.note.SlotNote.TheVariants.{TooLong}
use Rattle.tlv.specs.Notes as slot
use Rattle.tlv.specs.Packet.{cut, too_long}
use Rattle.tlv.specs.Run.{Event as Slot-event, note as slot-note, packet as slot-packet}
use Rattle.mmtp.specs.Unit.{Piece, aggregate}
use Rattle.reassembly.specs.declared.note.JoinNote.TheVariants.{AboveLimit}
use Rattle.reassembly.specs.Notes as joining
use Rattle.reassembly.specs.Unit.{carried}
use Rattle.queue.specs.Waiting.{Aggregate, Give, Nothing, One, Many, Queue}
use Rattle.intake.specs.declared.held.Cursor.{Cursor}
use Rattle.intake.specs.declared.held.Held.{Held}
use Rattle.intake.specs.Slot.{searching, holding}
use Rattle.broadcast.specs.Drains.{Shown, note, unit, shown}

-- what a slot gives, without labels
pub data Found : Type 0 where
  slot-notes : ℕ → Found
  a-packet : List ℕ → Found

abbrev pub bare : {A : Type 0} → Slot-event A → Found
bare (slot-note n) = slot-notes n
bare (slot-packet p) = a-packet p.bytes

abbrev pub some_if : {B : Type 0} → ℕ → B → List B
some_if n x = cond (eqb n 0) [] (x ∷ [])

-- the bytes of packet memory up to the slot's end
abbrev pub slot_up_to : Cursor → List ℕ → List ℕ
slot_up_to c p = part_of p 0 c.end

abbrev pub tail_of : Cursor → List ℕ → List ℕ
tail_of c p = (cut (drop c.at (slot_up_to c p))).tail

-- the packets from the cursor on, and a note if the tail is too long
abbrev pub slot_pending : Bool → Cursor → List ℕ → List Found
slot_pending false c p = []
slot_pending true c p =
    map a-packet (cut (drop c.at (slot_up_to c p))).packets ++ cond (too_long (tail_of c p)) (slot-notes (slot.number_of TooLong) ∷ []) []

-- what the cursor has yet to give
unfoldable pub cursor_pending : Cursor → List ℕ → List Found
cursor_pending c p =
    some_if c.note (slot-notes c.note) ++ (some_if c.packet (a-packet (part_of p 0 c.packet)) ++ slot_pending c.reading c p)

abbrev pub tail_held : Bool → Cursor → List ℕ → Held
tail_held true c p = searching
tail_held false c p = holding (c.end - length (tail_of c p)) (length (tail_of c p))

abbrev pub held_after : Bool → Cursor → Held → List ℕ → Held
held_after false c h p = h
held_after true c h p = tail_held (too_long (tail_of c p)) c p

-- the held bytes once the cursor has given all
unfoldable pub cursor_leaves : Cursor → Held → List ℕ → Held
cursor_leaves c h p = held_after c.reading c h p

-- the units of an aggregate from its cursor on
abbrev pub aggregate_pending : Aggregate → List ℕ → List Shown
aggregate_pending a p =
    map (λ (x : Piece). unit (record { info = carried a.packet x.fields; bytes = x.bytes }))
    (aggregate (drop a.at (part_of p a.start (a.end - a.start))) a.packet.payload.kind a.packet.payload.wide).pieces

abbrev pub give_pending : Give → List ℕ → List ℕ → List Shown
give_pending Nothing p c = []
give_pending (One g) p c = shown g p c ∷ []
give_pending (Many a) p c = aggregate_pending a p

-- what the queue has yet to give, with the bytes that show will return
unfoldable pub queue_pending : Queue → List ℕ → List ℕ → List Shown
queue_pending q p c =
    some_if q.note (note q.note q.packet_id)
    ++ (cond q.over (note (joining.number_of AboveLimit) q.packet_id ∷ []) [] ++ give_pending q.give p c)
