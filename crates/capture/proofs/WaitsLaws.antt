-- Laws of specs/Waits.antt.
use Rattle.std.specs.Prelude.{◌≡◌, ℕ, zero, suc, ◌+◌, ◌-◌, ◌*◌, ◌<◌, ◌≤◌, Bool, true, false, cond, List, length, drop, ◌==◌, nat_le, Option, Some, None}
use Rattle.std.proofs.Math.Path.{refl}
use Rattle.std.proofs.Common.{sym, ◌∙◌, true≢false, mul-le-mul_right, suc-mul, lt_trans, arith, eqb-true}
use Rattle.std.proofs.lemmas.Bool.{eqb-false}
use Rattle.wire.specs.Memory.{part_of}
use Rattle.wire.proofs.MemoryLaws.{part-within}
use Rattle.tlv.specs.Packet.{packet_at, too_long}
use Rattle.mmtp.specs.declared.unit.DataUnit.{DataUnit}
use Rattle.mmtp.specs.declared.unit.Step.{Step}
use Rattle.mmtp.specs.declared.unit.Step.TheVariants.{Unit as UnitAt, Malformed, End}
use Rattle.mmtp.proofs.Cases.{chose, chose-not}
use Rattle.mmtp.specs.Unit.{unit_at, data_unit, unit_fits}
use Rattle.mmtp.proofs.UnitLaws.{unit-fits-end}
use Rattle.intake.specs.declared.held.Cursor.{Cursor}
use Rattle.queue.specs.Waiting.{Aggregate, Give, Nothing, One, Many, Queue, Taken}
use Rattle.delivery.specs.Found.{Found}
use Rattle.delivery.specs.Found.{Event, Packet, Tail, Done}
use Rattle.delivery.specs.Found.{Advanced}
use Rattle.queue.specs.Queue.{event_taken, next_unit}
use Rattle.queue.proofs.QueueLaws.{taken-note, taken-over, taken-nothing, taken-one, taken_many}
use Rattle.delivery.specs.Cursor.{one, span, left, is_event, advanced_of, slot_advanced, tail_advanced, turn_of}
use Rattle.delivery.proofs.CursorLaws.{goes_on, turn-event, turn_on, advanced_less, advanced_note, advanced_packet, advanced_slot, advanced_done, slot-packet, slot-tail}
use Rattle.intake.specs.Slot.{holding}
use Rattle.state.specs.State.{State, with_slot}
use Rattle.frames.specs.Slot.{short_by}
use Rattle.receiver.specs.Next.{NextOut, past, onwards, packet_of, read_on, read_all, next_of}
use Rattle.receiver.proofs.NextLaws.{next-short, next-idle, next-reads}
use Rattle.receiver.proofs.ReadOnLaws.{packet-kept}
use Rattle.lines.specs.Line.{is_line}
use Rattle.capture.specs.Waits.{give_waits, queue_waits, cursor_waits, waits_by, waits}

-- Laws.
one-most : (n : ℕ) → one n ≤ 1
one-most n = go (n == 0)
  where
    go : (b : Bool) → cond b 0 1 ≤ 1
    go true = omega arith
    go false = omega arith

span-most : (b : Bool) → span b 0 ≤ 1
span-most true = omega arith
span-most false = omega arith

give-most : (g : Give) (p : List ℕ) → give_waits g p ≤ suc (length p)
give-most Nothing p = omega arith
give-most (One g) p = omega arith
give-most (Many a) p = omega arith

-- no queue waits longer than a cursor's step
pub queue-most : (q : Queue) (p : List ℕ) → queue_waits q p < length p + 4
unfolding queue_waits
queue-most q p = omega (arith, one-most q.note, span-most q.over, give-most q.give p)

-- a cursor with less left, whatever the queues
pub cursor-falls : (c d : Cursor) (q r : Queue) (p : List ℕ) → cursor_waits d < cursor_waits c → waits_by d r p < waits_by c q p
unfolding waits_by
cursor-falls c d q r p h =
    let k : ℕ = length p + 4 in
    let m : cursor_waits d * k + k ≤ cursor_waits c * k = rw suc-mul at (mul-le-mul_right k h) in
    omega (arith, queue-most r p)

pub queue-falls : (c : Cursor) (q r : Queue) (p : List ℕ) → queue_waits r p < queue_waits q p → waits_by c r p < waits_by c q p
unfolding waits_by
queue-falls c q r p h = omega arith

-- a unit of an aggregate ends past its place, within packet memory
unit-on : (m : List ℕ) (at kind : ℕ) (wide : Bool) (u : DataUnit) → unit_at m at kind wide ≡ UnitAt u
    → (at < u.end) × (u.end ≤ length m)
unfolding unit_at data_unit
unit-on m at kind wide u e =
    let v : DataUnit = data_unit m at kind wide in
    let a = chose-not (nat_le (length m) at) End _ (UnitAt u) e (λ q. let z : ◌≡◌ {A = ℕ} 0 1 = cc in omega arith) in
    let b = chose (unit_fits (drop at m) kind wide) (UnitAt v) Malformed (UnitAt u) a.1
    (λ q. let z : ◌≡◌ {A = ℕ} 0 1 = cc in omega arith) in
    let g = unit-fits-end m at kind wide b.0 in
    let r : v ≡ u = let q : UnitAt v ≡ UnitAt u = b.1 in cc in
    rw (← r) (g.1, g.0)

part-most : (p : List ℕ) (start len n : ℕ) → n < length (part_of p start len) → length (part_of p start len) ≤ length p
part-most p start len n h = omega (arith, part-within p start len (omega arith))

-- the queue has less left after an event
module _ (q : Queue) (p : List ℕ) where
  abbrev Falls : Taken → Type 0
  Falls t = is_event t.event ≡ true → queue_waits t.queue p < queue_waits q p

  many_falls : (a : Aggregate) (s : Step) → q.note ≡ 0 → q.over ≡ false → q.give ≡ Many a → next_unit a p ≡ s
      → Falls (event_taken q p)
  unfolding queue_waits
  many_falls a (UnitAt u) n o g e =
      let w = unit-on (part_of p a.start (a.end - a.start)) a.at _ _ u e in
      let l = part-most p a.start (a.end - a.start) a.at (omega arith) in
      rw (taken_many q p n o a g (UnitAt u) e) (λ h. rw (n, o, g) (omega arith))
  many_falls a Malformed n o g e = rw (taken_many q p n o a g Malformed e) (λ h. absurd (true≢false (sym h)))
  many_falls a End n o g e = rw (taken_many q p n o a g End e) (λ h. absurd (true≢false (sym h)))

  give-falls : (g : Give) → q.note ≡ 0 → q.over ≡ false → q.give ≡ g → Falls (event_taken q p)
  unfolding queue_waits
  give-falls Nothing n o g = rw (taken-nothing q p n o g) (λ h. absurd (true≢false (sym h)))
  give-falls (One x) n o g = rw (taken-one q p n o x g) (λ h. rw g (omega arith))
  give-falls (Many a) n o g = many_falls a (next_unit a p) n o g refl

  over-falls : (b : Bool) → q.note ≡ 0 → q.over ≡ b → Falls (event_taken q p)
  unfolding queue_waits
  over-falls true n o = rw (taken-over q p n o) (λ h. rw (n, o) (omega arith))
  over-falls false n o = give-falls q.give n o refl

  note-falls : (b : Bool) → (q.note == 0) ≡ b → Falls (event_taken q p)
  unfolding queue_waits
  note-falls true e = over-falls q.over (eqb-true _ _ e) refl
  note-falls false e = rw (taken-note q p (eqb-false _ _ e)) (λ h. rw e (omega arith))

  pub taken-falls : is_event (event_taken q p).event ≡ true → queue_waits (event_taken q p).queue p < queue_waits q p
  taken-falls = note-falls (q.note == 0) refl

-- the cursor has less left past what it comes to
abbrev pub is_done : Found → Bool
is_done (Event e) = false
is_done (Packet start end) = false
is_done (Tail start len) = false
is_done Done = true

module _ (cur : Cursor) (p : List ℕ) where
  abbrev Less : Advanced → Type 0
  Less a = is_done a.found ≡ false → cursor_waits a.cursor < cursor_waits cur

  tail-falls : (b : Bool) → too_long (drop cur.at (part_of p 0 cur.end)) ≡ b → cur.reading ≡ true
      → Less (tail_advanced (part_of p 0 cur.end) cur.at cur.end)
  unfolding cursor_waits left tail_advanced
  tail-falls true e r = λ h. rw r (omega arith)
  tail-falls false e r = λ h. rw r (omega arith)

  slot-falls : (n : Option ℕ) → packet_at (part_of p 0 cur.end) cur.at ≡ n → cur.note ≡ 0 → cur.packet ≡ 0 → cur.reading ≡ true
      → Less (slot_advanced cur p)
  unfolding cursor_waits
  slot-falls (Some e) h n k r =
      let l = advanced_less cur p (rw (advanced_slot cur p n k r, slot-packet cur p e h)) in
      let m = rw (advanced_slot cur p n k r, slot-packet cur p e h) at l in
      rw (slot-packet cur p e h) (λ g. omega arith)
  slot-falls None h n k r = rw (slot-tail cur p h) (tail-falls (too_long (drop cur.at (part_of p 0 cur.end))) refl r)

  reading-falls : (r : Bool) → cur.note ≡ 0 → cur.packet ≡ 0 → cur.reading ≡ r → Less (advanced_of cur p)
  reading-falls true n k e = rw (advanced_slot cur p n k e) (slot-falls (packet_at (part_of p 0 cur.end) cur.at) refl n k e)
  reading-falls false n k e = rw (advanced_done cur p n k e) (λ g. absurd (true≢false g))

  packet-falls : (b : Bool) → cur.note ≡ 0 → (cur.packet == 0) ≡ b → Less (advanced_of cur p)
  unfolding cursor_waits left
  packet-falls true n e = reading-falls cur.reading n (eqb-true _ _ e) refl
  packet-falls false n e = rw (advanced_packet cur p n (eqb-false _ _ e)) (λ g. rw e (omega arith))

  noted-falls : (b : Bool) → (cur.note == 0) ≡ b → Less (advanced_of cur p)
  unfolding cursor_waits left
  noted-falls true e = packet-falls (cur.packet == 0) (eqb-true _ _ e) refl
  noted-falls false e = rw (advanced_note cur p (eqb-false _ _ e)) (λ g. rw e (omega arith))

  pub advanced_falls : is_done (advanced_of cur p).found ≡ false → cursor_waits (advanced_of cur p).cursor < cursor_waits cur
  advanced_falls = noted-falls (cur.note == 0) refl

-- past what was found less waits: whatever the queue, where next reads on
module _ (q : Queue) (cur : Cursor) (p : List ℕ) where
  abbrev TurnFalls : Found → Cursor → Queue → Type 0
  TurnFalls f c r =
      (is_done f ≡ false → waits_by c r p < waits_by cur q p) × (goes_on f ≡ true → (r' : Queue) → waits_by c r' p < waits_by cur q p)

  goes-done : (f : Found) → goes_on f ≡ true → is_done f ≡ false
  goes-done (Event e) g = absurd (true≢false (sym g))
  goes-done (Packet start end) g = refl
  goes-done (Tail start len) g = refl
  goes-done Done g = absurd (true≢false (sym g))

  pub turn-falls : let t = turn_of q cur p in TurnFalls t.found t.cursor t.queue
  turn-falls = go (is_event (event_taken q p).event) refl
    where
      go : (b : Bool) → is_event (event_taken q p).event ≡ b → let t = turn_of q cur p in TurnFalls t.found t.cursor t.queue
      go true e =
          rw (turn-event q cur p e)
          (λ h. queue-falls cur q _ p (taken-falls q p e), λ g. absurd (true≢false (sym g)))
      go false e =
          let a = advanced_of cur p in
          rw (turn_on q cur p e) (
            λ h. cursor-falls cur _ q _ p (advanced_falls cur p h),
            λ g r'. cursor-falls cur _ q r' p (advanced_falls cur p (goes-done a.found g)),
          )

-- after a line less waits, and next is owed as before
module _ (p : List ℕ) where
  abbrev Ends : State → NextOut → Type 0
  Ends st o = is_line o.0.event ≡ true → (waits o.0.state p < waits st p) × (o.0.state.owed ≡ st.owed)

  onwards-falls : (st : State) (c : List ℕ) (f : State → List ℕ → NextOut) (x : Found) → (turn_of st.queue st.cursor p).found ≡ x
      → ((s : State) (d : List ℕ) → Ends s (f s d)) → Ends st (onwards x (past st (turn_of st.queue st.cursor p)) p c f)
  onwards-falls st c f (Event e) h k = λ g. ((turn-falls st.queue st.cursor p).0 (rw h refl), refl)
  onwards-falls st c f (Packet start end) h k =
      let s = past st (turn_of st.queue st.cursor p) in
      let r = packet_of s p c start end in
      let t = (turn-falls st.queue st.cursor p).1 (rw h refl) r.0.queue in
      let q = packet-kept s p c start end in
      let l : waits r.0 p < waits st p = rw q.cursor t in
      λ g. let i = k r.0 r.1 g in (lt_trans i.0 l, i.1 ∙ q.owed)
  onwards-falls st c f (Tail start len) h k =
      let s = past st (turn_of st.queue st.cursor p) in
      let l = (turn-falls st.queue st.cursor p).1 (rw h refl) s.queue in
      λ g. let i = k (with_slot s (holding start len) s.cursor) c g in (lt_trans i.0 l, i.1)
  onwards-falls st c f Done h k = λ g. absurd (true≢false (sym g))

  read-falls : (f : ℕ) (st : State) (c : List ℕ) → Ends st (read_on f st p c)
  unfolding read_on
  read-falls zero st c = λ g. absurd (true≢false (sym g))
  read-falls (suc f) st c = onwards-falls st c (λ s d. read_on f s p d) _ refl (λ s d. read-falls f s d)

  next-ends : (st : State) (c : List ℕ) → Ends st (next_of st p c)
  next-ends st c = go (short_by st.config (length p) (length c)) st.owed refl refl
    where
      go : (b o : Bool) → short_by st.config (length p) (length c) ≡ b → st.owed ≡ o → Ends st (next_of st p c)
      go true o e q = rw (next-short st p c e) (λ g. absurd (true≢false (sym g)))
      go false false e q = rw (next-idle st p c e q) (λ g. absurd (true≢false (sym g)))
      go false true e q = rw (next-reads st p c e q) (unfold read_all in read-falls (suc (left st.cursor)) st c)

  module _ (st : State) (c : List ℕ) (g : is_line (next_of st p c).0.event ≡ true) where
    pub next-falls : waits (next_of st p c).0.state p < waits st p
    next-falls = (next-ends st c g).0

    pub next-owes : (next_of st p c).0.state.owed ≡ st.owed
    next-owes = (next-ends st c g).1
