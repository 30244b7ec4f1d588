-- Reading on never answers a refusal.
use Rattle.std.specs.Prelude.{Option, Some, None}
use Prim.Native.Nat.{ℕ, zero, suc, ◌-◌}
use mathlib.Core.List.{List}
use lib.ListN.{drop}
use lib.Dec.{eqb}
use Rattle.wire.proofs.Choice.{either}
use Rattle.wire.specs.Memory.{part_of}
use Rattle.tlv.specs.Packet.{packet_at, too_long}
use Rattle.mmtp.specs.declared.unit.Step.{Step}
use Rattle.mmtp.specs.declared.unit.Step.TheVariants.{Unit as UnitAt, Malformed, End}
use Rattle.mmtp.specs.Unit.{unit_at}
use Rattle.intake.specs.declared.held.Cursor.{Cursor}
use Rattle.queue.specs.Event.{Event}
use Rattle.queue.specs.Event.{Nothing, Note, Unit, Refused}
use Rattle.queue.specs.Waiting.{Aggregate, Give, Nothing as NoUnit, One, Many, Queue, Taken}
use Rattle.delivery.specs.Found.{Found}
use Rattle.delivery.specs.Found.{Event as AnEvent, Packet, Tail, Done}
use Rattle.delivery.specs.Found.{Advanced}
use Rattle.queue.specs.Queue.{give_by, many_by, event_taken}
use Rattle.delivery.specs.Cursor.{tail_advanced, advanced_by, slot_advanced, advanced_of, turn_by, turn_of}
use Rattle.state.specs.State.{State}
use Rattle.receiver.specs.Next.{NextOut, onwards, read_on, past}

abbrev pub Unrefused : Event → Type 0
Unrefused Nothing = Prim.Unit {0}
Unrefused (Note n id) = Prim.Unit {0}
Unrefused (Unit g) = Prim.Unit {0}
Unrefused (Refused n) = ⊥

many_unrefused : (s : Step) (a : Aggregate) (q : Queue) → Unrefused (many_by s a q).event
many_unrefused (UnitAt u) a q = tt
many_unrefused Malformed a q = tt
many_unrefused End a q = tt

give-unrefused : (g : Give) (q : Queue) (p : List ℕ) → Unrefused (give_by g q p).event
give-unrefused NoUnit q p = tt
give-unrefused (One g) q p = tt
give-unrefused (Many a) q p =
    many_unrefused
    (unit_at (part_of p a.start (a.end - a.start)) a.at a.packet.payload.kind a.packet.payload.wide) a q

taken-unrefused : (q : Queue) (p : List ℕ) → Unrefused (event_taken q p).event
unfolding event_taken
taken-unrefused q p =
    either (λ (t : Taken). Unrefused t.event) (eqb q.note 0)
    (either (λ (t : Taken). Unrefused t.event) q.over tt (give-unrefused q.give q p)) tt

-- what is found is no refusal
abbrev FoundGood : Found → Type 0
FoundGood (AnEvent e) = Unrefused e
FoundGood (Packet s e) = Prim.Unit {0}
FoundGood (Tail s l) = Prim.Unit {0}
FoundGood Done = Prim.Unit {0}

by-tail : (s : List ℕ) (at end : ℕ) → FoundGood (tail_advanced s at end).found
unfolding tail_advanced
by-tail s at end = either FoundGood (too_long (drop at s)) tt tt

by-slot : (x : Option ℕ) (c : Cursor) (s : List ℕ) → FoundGood (advanced_by x c s).found
by-slot (Some e) c s = tt
by-slot None c s = by-tail s c.at c.end

advanced_good : (c : Cursor) (p : List ℕ) → FoundGood (advanced_of c p).found
unfolding advanced_of slot_advanced
advanced_good c p =
    either (λ (a : Advanced). FoundGood a.found) (eqb c.note 0)
    (either (λ (a : Advanced). FoundGood a.found) (eqb c.packet 0)
    (either (λ (a : Advanced). FoundGood a.found) c.reading
    (by-slot (packet_at (part_of p 0 c.end) c.at) c (part_of p 0 c.end)) tt) tt)
    tt

turned-good : (e : Event) → Unrefused e → (q : Queue) (c : Cursor) (p : List ℕ) → FoundGood (turn_by e q c p).found
turned-good Nothing u q c p = advanced_good c p
turned-good (Note n id) u q c p = u
turned-good (Unit g) u q c p = u
turned-good (Refused n) u q c p = u

abbrev Never : NextOut → Type 0
Never r = Unrefused r.0.event

onwards-unrefused : (x : Found) → FoundGood x → (st : State) (p c : List ℕ) (more : State → List ℕ → NextOut)
    → ((s : State) (d : List ℕ) → Never (more s d)) → Never (onwards x st p c more)
onwards-unrefused (AnEvent e) g st p c more h = g
onwards-unrefused (Packet s e) g st p c more h = h _ _
onwards-unrefused (Tail s l) g st p c more h = h _ _
onwards-unrefused Done g st p c more h = tt

pub read-unrefused : (f : ℕ) (st : State) (p c : List ℕ) → Never (read_on f st p c)
unfolding read_on turn_of
read-unrefused zero st p c = tt
read-unrefused (suc f) st p c =
    let k = event_taken st.queue p in
    let t = turn_by k.event k.queue st.cursor p in
    onwards-unrefused t.found (turned-good k.event (taken-unrefused st.queue p) k.queue st.cursor p) (past st t) p c
    (λ s d. read_on f s p d) (λ s d. read-unrefused f s p d)
