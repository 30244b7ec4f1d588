-- Laws of specs/Cursor.antt.
use Rattle.std.specs.Prelude.{ℕ, ◌+◌, ◌-◌, ◌≤◌, ◌<◌, ◌≡◌, Bool, List, length, drop, eqb, Option, Some, None}
use Rattle.std.proofs.Math.Path.{refl}
use Rattle.std.proofs.Common.{◌∙◌, sym, true≢false, length-drop, eq-eqb, ne_eqb, eqb-true, arith}
use Rattle.std.proofs.Math.Bool.{true, false}
use Rattle.std.proofs.lemmas.Bool.{eqb-false}
use Rattle.wire.proofs.Choice.{chosen, chosen-not}
use Rattle.wire.specs.Memory.{part_of}
use Rattle.wire.proofs.MemoryLaws.{part_length}
use Rattle.tlv.specs.declared.note.SlotNote.TheVariants.{TooLong}
use Rattle.tlv.specs.Notes.{number_of}
use Rattle.tlv.specs.Packet.{packet_at, too_long, complete, total}
use Rattle.queue.specs.Event.{Event as AnEvent}
use Rattle.queue.specs.Event.{Nothing, Note, Unit, Refused}
use Rattle.intake.specs.declared.held.Cursor.{Cursor}
use Rattle.intake.specs.Slot.{noted}
use Rattle.queue.specs.Waiting.{Queue}
use Rattle.delivery.specs.Found.{Found}
use Rattle.delivery.specs.Found.{Event, Packet, Tail, Done}
use Rattle.delivery.specs.Found.{Advanced}
use Rattle.queue.specs.Queue.{event_taken}
use Rattle.tlv.proofs.CutsLaws.{complete-fits}
use Rattle.mmtp.proofs.Cases.{chose}
use Rattle.delivery.specs.Cursor.{tail_advanced, slot_advanced, advanced_of, turn_by, turn_of, is_event, left}

-- Laws.
-- an event, and no event
turned-event : (e : AnEvent) (q : Queue) (cur : Cursor) (p : List ℕ) → is_event e ≡ true
    → turn_by e q cur p ≡ record { found = Event e; queue = q; cursor = cur }
turned-event Nothing q cur p h = cc
turned-event (Note n id) q cur p h = refl
turned-event (Unit g) q cur p h = refl
turned-event (Refused n) q cur p h = refl

turned_on : (e : AnEvent) (q : Queue) (cur : Cursor) (p : List ℕ) → is_event e ≡ false
    → turn_by e q cur p ≡ record { found = (advanced_of cur p).found; queue = q; cursor = (advanced_of cur p).cursor }
turned_on Nothing q cur p h = refl
turned_on (Note n id) q cur p h = cc
turned_on (Unit g) q cur p h = cc
turned_on (Refused n) q cur p h = cc

module _ (q : Queue) (cur : Cursor) (p : List ℕ) where
  pub turn-event : is_event (event_taken q p).event ≡ true
      → turn_of q cur p ≡ record { found = Event (event_taken q p).event; queue = (event_taken q p).queue; cursor = cur }
  unfolding turn_of
  turn-event h = turned-event (event_taken q p).event (event_taken q p).queue cur p h

  pub turn_on : is_event (event_taken q p).event ≡ false
      → turn_of q cur p ≡ record { found = (advanced_of cur p).found; queue = (event_taken q p).queue; cursor = (advanced_of cur p).cursor }
  unfolding turn_of
  turn_on h = turned_on (event_taken q p).event (event_taken q p).queue cur p h

-- what the cursor comes to, case by case
module _ (cur : Cursor) (p : List ℕ) where
  pub advanced_note : (cur.note ≡ 0 → ⊥)
      → advanced_of cur p
      ≡ record {
        found = Event (Note cur.note 0);
        cursor = record { note = 0; packet = cur.packet; reading = cur.reading; at = cur.at; end = cur.end };
      }
  unfolding advanced_of
  advanced_note h = chosen-not (eqb cur.note 0) _ _ (ne_eqb _ _ h)

  pub advanced_packet : cur.note ≡ 0 → (cur.packet ≡ 0 → ⊥)
      → advanced_of cur p
      ≡ record {
        found = Packet 0 cur.packet;
        cursor = record { note = cur.note; packet = 0; reading = cur.reading; at = cur.at; end = cur.end };
      }
  unfolding advanced_of
  advanced_packet h k = chosen (eqb cur.note 0) _ _ (eq-eqb _ _ h) ∙ chosen-not (eqb cur.packet 0) _ _ (ne_eqb _ _ k)

  pub advanced_slot : cur.note ≡ 0 → cur.packet ≡ 0 → cur.reading ≡ true → advanced_of cur p ≡ slot_advanced cur p
  unfolding advanced_of
  advanced_slot h k r =
      chosen (eqb cur.note 0) _ _ (eq-eqb _ _ h) ∙ chosen (eqb cur.packet 0) _ _ (eq-eqb _ _ k)
      ∙ chosen cur.reading _ _ r

  pub advanced_done : cur.note ≡ 0 → cur.packet ≡ 0 → cur.reading ≡ false
      → advanced_of cur p ≡ record { found = Done; cursor = cur }
  unfolding advanced_of
  advanced_done h k r =
      chosen (eqb cur.note 0) _ _ (eq-eqb _ _ h) ∙ chosen (eqb cur.packet 0) _ _ (eq-eqb _ _ k)
      ∙ chosen-not cur.reading _ _ r

  -- in the slot: a packet, or its tail
  pub slot-packet : (e : ℕ) → packet_at (part_of p 0 cur.end) cur.at ≡ Some e
      → slot_advanced cur p
      ≡ record {
        found = Packet cur.at e;
        cursor = record { note = cur.note; packet = cur.packet; reading = cur.reading; at = e; end = cur.end };
      }
  unfolding slot_advanced
  slot-packet e h = rw h

  pub slot-tail : packet_at (part_of p 0 cur.end) cur.at ≡ None
      → slot_advanced cur p ≡ tail_advanced (part_of p 0 cur.end) cur.at cur.end
  unfolding slot_advanced
  slot-tail h = rw h

-- the tail
module _ (s : List ℕ) (at end : ℕ) where
  pub tail-long : too_long (drop at s) ≡ true → tail_advanced s at end ≡ record { found = Event (Note (number_of TooLong) 0); cursor = noted 0 }
  unfolding tail_advanced
  tail-long h = rw h

  pub tail-held : too_long (drop at s) ≡ false → tail_advanced s at end ≡ record { found = Tail at (end - at); cursor = noted 0 }
  unfolding tail_advanced
  tail-held h = rw h

-- next reads on from what was found
abbrev pub goes_on : Found → Bool
goes_on (Event e) = false
goes_on (Packet start end) = true
goes_on (Tail start len) = true
goes_on Done = false

-- a packet of the slot ends past its place, in the slot
pub packet-at-within : (s : List ℕ) (at e : ℕ) → packet_at s at ≡ Some e → (at < e) × (e ≤ length s)
unfolding packet_at
packet-at-within s at e h =
    let a = chose (complete (drop at s)) (Some (at + total (drop at s))) None (Some e) h
    (λ q. let z : ◌≡◌ {A = ℕ} 0 1 = cc in omega arith) in
    let f = complete-fits (drop at s) a.0 in
    let l = length-drop at s in
    let r : at + total (drop at s) ≡ e = let q : Some (at + total (drop at s)) ≡ Some e = a.1 in cc in
    (omega arith, omega arith)

-- so the cursor has less left past it
module _ (cur : Cursor) (p : List ℕ) where
  abbrev Less : Advanced → Type 0
  Less a = goes_on a.found ≡ true → left a.cursor < left cur

  slot-less : (n : Option ℕ) → packet_at (part_of p 0 cur.end) cur.at ≡ n → cur.reading ≡ true → Less (slot_advanced cur p)
  unfolding left
  slot-less (Some e) h r =
      let w = packet-at-within (part_of p 0 cur.end) cur.at e h in
      let l = part_length p 0 cur.end in
      rw (slot-packet cur p e h, r) (λ g. omega arith)
  slot-less None h r = rw (slot-tail cur p h, r) (unfold tail_advanced in λ g. omega arith)

  reading-less : (r : Bool) → cur.note ≡ 0 → cur.packet ≡ 0 → cur.reading ≡ r → Less (advanced_of cur p)
  reading-less true n k e = rw (advanced_slot cur p n k e) (slot-less (packet_at (part_of p 0 cur.end) cur.at) refl e)
  reading-less false n k e = rw (advanced_done cur p n k e) (λ g. absurd (true≢false (sym g)))

  packet-less : (b : Bool) → cur.note ≡ 0 → eqb cur.packet 0 ≡ b → Less (advanced_of cur p)
  unfolding left
  packet-less true n e = reading-less cur.reading n (eqb-true _ _ e) refl
  packet-less false n e = rw (advanced_packet cur p n (eqb-false _ _ e)) (λ g. rw e (omega arith))

  note-less : (b : Bool) → eqb cur.note 0 ≡ b → Less (advanced_of cur p)
  note-less true e = packet-less (eqb cur.packet 0) (eqb-true _ _ e) refl
  note-less false e = rw (advanced_note cur p (eqb-false _ _ e)) (λ g. absurd (true≢false (sym g)))

  pub advanced_less : goes_on (advanced_of cur p).found ≡ true → left (advanced_of cur p).cursor < left cur
  advanced_less = note-less (eqb cur.note 0) refl

pub turn-less : (q : Queue) (cur : Cursor) (p : List ℕ) → goes_on (turn_of q cur p).found ≡ true
    → left (turn_of q cur p).cursor < left cur
turn-less q cur p = go (is_event (event_taken q p).event) refl
  where
    go : (b : Bool) → is_event (event_taken q p).event ≡ b → goes_on (turn_of q cur p).found ≡ true
        → left (turn_of q cur p).cursor < left cur
    go true e = rw (turn-event q cur p e) (λ g. absurd (true≢false (sym g)))
    go false e = rw (turn_on q cur p e) (advanced_less cur p)
