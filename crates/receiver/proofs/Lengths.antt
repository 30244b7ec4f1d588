-- The length that next gives with a unit is that of the bytes that show returns.
use Rattle.std.specs.Prelude.{Option, Some, None}
use Prim.Native.Nat.{ℕ, zero, suc, ◌+◌, ◌-◌, ◌*◌, ◌≤◌}
use mathlib.Core.Path.{◌≡◌, refl, subst}
use mathlib.Core.Bool.{Bool, true, false}
use mathlib.Core.List.{List}
use native.Mathlib.Omega.{arith}
use lib.Dec.{eqb}
use lib.ListN.{length, get_or, drop, length-drop}
use lib.Seq.{length-take-le}
use borrow.Author.Tests.{eqb-true, eqb-false}
use Rattle.wire.proofs.Choice.{either}
use Rattle.wire.specs.Memory.{part_of}
use Rattle.wire.proofs.MemoryLaws.{part-inside, part-within, part_length}
use Rattle.mmtp.specs.declared.unit.DataUnit.{DataUnit}
use Rattle.mmtp.specs.declared.unit.Step.{Step}
use Rattle.mmtp.specs.declared.unit.Step.TheVariants.{Unit as UnitAt, Malformed, End}
use Rattle.reassembly.specs.Joined.{Joined}
use Rattle.reassembly.specs.declared.join.Action.{Action}
use Rattle.reassembly.specs.declared.join.Action.TheVariants.{Nothing as NoAction, Whole, Store, Complete}
use Rattle.reassembly.specs.Channel.{unheard}
use Rattle.queue.specs.Event.{Event as NextEvent}
use Rattle.queue.specs.Event.{Nothing, Note, Unit, Refused}
use Rattle.queue.specs.declared.event.Given.{Given}
use Rattle.queue.specs.Waiting.{Give, Nothing as NoUnit, One, Many, Aggregate, Queue, Taken}
use Rattle.queue.specs.declared.located.Located.{Located}
use Rattle.delivery.specs.Arrived.{Arrived, Silent, Noted, Good}
use Rattle.delivery.specs.Found.{Found}
use Rattle.delivery.specs.Found.{Event, Packet, Tail, Done}
use Rattle.delivery.specs.Found.{Advanced}
use Rattle.queue.specs.Located.{whole_given, unit_len}
use Rattle.delivery.specs.Packet.{wholes_of, give_of, unit_in, bytes_at, base_of, step_of, piece_from, joined_of, arrived_at}
use Rattle.mmtp.specs.Unit.{Inside}
use Rattle.mmtp.proofs.UnitLaws.{unit-inside}
use Rattle.delivery.specs.Within.{Below}
use Rattle.delivery.proofs.WithinLaws.{first-inside, joined-below, arrived-fits, length-joined}
use Rattle.queue.specs.Queue.{event_taken, next_unit}
use Rattle.queue.proofs.QueueLaws.{taken-note, taken-over, taken-nothing, taken-one, taken_many}
use Rattle.tlv.specs.Packet.{packet_at, too_long}
use Rattle.intake.specs.declared.held.Cursor.{Cursor}
use Rattle.delivery.specs.Cursor.{turn_of, left, is_event, advanced_by, slot_advanced, tail_advanced, advanced_of}
use Rattle.delivery.proofs.CursorLaws.{turn-event, turn_on}
use Rattle.intake.specs.Slot.{holding}
use Rattle.state.specs.State.{State, with_slot}
use Rattle.frames.specs.Slot.{short_by}
use Rattle.receiver.specs.Show.{show_of}
use Rattle.receiver.specs.Next.{NextOut, past, onwards, arrived_by, packet_of, read_on, read_all, next_of}
use Rattle.receiver.proofs.NextLaws.{next-short, next-idle, next-reads, short-room}
use Rattle.receiver.specs.ReadOn.{Ample}
use Rattle.receiver.proofs.ReadOnLaws.{packet-kept, length-packet}

-- a part that lies in its memory, or is empty
part-full : (s : List ℕ) (start len : ℕ) → start + len ≤ length s → length (part_of s start len) ≡ len
part-full s start len h = rw (part-inside s start len h) (length-take-le len (drop start s) (omega (arith, length-drop start s)))

part_none : (s : List ℕ) (start : ℕ) → length (part_of s start 0) ≡ 0
part_none s start = omega (arith, part_length s start 0)

abbrev pub Lies : Given → List ℕ → List ℕ → Type 0
Lies g p c = length (show_of p c g.place) ≡ g.place.len

abbrev pub GiveLies : Give → List ℕ → List ℕ → Type 0
GiveLies NoUnit p c = Prim.Unit {0}
GiveLies (One g) p c = Lies g p c
GiveLies (Many a) p c = Prim.Unit {0}

-- a whole unit
whole_lies : (l : Located) (p c : List ℕ) (u : DataUnit) → Inside (part_of p l.start (l.end - l.start)) u → Lies (whole_given l u) p c
unfolding show_of
whole_lies l p c u i = go (unit_len u) refl
  where
    go : (n : ℕ) → unit_len u ≡ n → length (part_of p (l.start + u.start) (unit_len u)) ≡ unit_len u
    go zero e = rw e (part_none p (l.start + u.start))
    go (suc n) e =
        let m = part_of p l.start (l.end - l.start) in
        let w = part-within p l.start (l.end - l.start) (omega (arith, i.ordered, i.within, e)) in
        part-full p (l.start + u.start) (unit_len u) (omega (arith, w, i.ordered, i.within))

abbrev pub EventLies : NextEvent → List ℕ → List ℕ → Type 0
EventLies Nothing p c = Prim.Unit {0}
EventLies (Note n id) p c = Prim.Unit {0}
EventLies (Unit g) p c = Lies g p c
EventLies (Refused n) p c = Prim.Unit {0}

-- what the queue gives
module _ (q : Queue) (p c : List ℕ) (h : GiveLies q.give p c) where
  abbrev TakenLies : Taken → Type 0
  TakenLies t = EventLies t.event p c × GiveLies t.queue.give p c

  many_lies : (a : Aggregate) (s : Step) → next_unit a p ≡ s → q.note ≡ 0 → q.over ≡ false → q.give ≡ Many a → TakenLies (event_taken q p)
  many_lies a (UnitAt u) e n o g =
      rw (taken_many q p n o a g (UnitAt u) e) (
        whole_lies (record { packet = a.packet; start = a.start; end = a.end }) p c u
            (unit-inside (part_of p a.start (a.end - a.start)) a.at _ _ u e),
        tt,
      )
  many_lies a Malformed e n o g = rw (taken_many q p n o a g Malformed e) (tt, tt)
  many_lies a End e n o g = rw (taken_many q p n o a g End e) (tt, tt)

  give_lies : (g : Give) → q.give ≡ g → q.note ≡ 0 → q.over ≡ false → TakenLies (event_taken q p)
  give_lies NoUnit e n o = rw (taken-nothing q p n o e) (tt, h)
  give_lies (One g) e n o = rw (taken-one q p n o g e) (subst (λ (x : Give). GiveLies x p c) e h, tt)
  give_lies (Many a) e n o = many_lies a (next_unit a p) refl n o e

  taken_lies : TakenLies (event_taken q p)
  taken_lies = go (eqb q.note 0) q.over refl refl
    where
      go : (x y : Bool) → eqb q.note 0 ≡ x → q.over ≡ y → TakenLies (event_taken q p)
      go true true e o = rw (taken-over q p (eqb-true _ 0 e) o) (tt, h)
      go true false e o = give_lies q.give refl (eqb-true _ 0 e) o
      go false y e o = rw (taken-note q p (eqb-false _ 0 e)) (tt, h)

-- what a packet leaves to be given
module _ (st : State) (p c : List ℕ) (h : GiveLies st.queue.give p c) (room : Ample st c) where
  action_lies : (l : Located) → l.packet.place * st.config.rules.limit + st.config.rules.limit ≤ length c
      → (j : Joined) (a : Action) → Below a (unit_len (unit_in l p)) st.config.rules → (c' : List ℕ) → length c' ≡ length c
      → GiveLies (give_of a j l (base_of l st.config.rules.limit) (unit_in l p)) p c'
  unfolding give_of show_of
  action_lies l r j NoAction b c' e = tt
  action_lies l r j Whole b c' e = go l.packet.payload.aggregated
    where
      go : (x : Bool) → GiveLies (wholes_of x l (unit_in l p)) p c'
      go true = tt
      go false = whole_lies l p c' (unit_in l p) (first-inside (bytes_at l p) l.packet.payload)
  action_lies l r j (Store at) b c' e = tt
  action_lies l r j (Complete at) b c' e =
      part-full c' (base_of l st.config.rules.limit) (at + unit_len (unit_in l p)) (omega (arith, e, r, b))

  arrived_lies : (s e : ℕ) (a : Arrived) → arrived_at st.config p s e ≡ a
      → let r = arrived_by a st p c in GiveLies r.0.queue.give p r.1
  unfolding joined_of
  arrived_lies s e Silent q = h
  arrived_lies s e (Noted n id) q = tt
  arrived_lies s e (Good l) q =
      let rules = st.config.rules in
      let ch = get_or st.channels l.packet.place unheard in
      let fits = arrived-fits st.config p s e (Good l) (length c) q room in
      action_lies l fits (step_of ch l p rules) (step_of ch l p rules).action (joined-below (piece_from l.packet (unit_in l p)) rules ch) _
      (length-joined ch l p c rules fits)

  packet_lies : (s e : ℕ) → let r = packet_of st p c s e in GiveLies r.0.queue.give p r.1
  unfolding packet_of
  packet_lies s e = arrived_lies s e (arrived_at st.config p s e) refl

-- the cursor gives only notes
abbrev FoundLies : Found → List ℕ → List ℕ → Type 0
FoundLies (Event e) p c = EventLies e p c
FoundLies (Packet s e) p c = Prim.Unit {0}
FoundLies (Tail s n) p c = Prim.Unit {0}
FoundLies Done p c = Prim.Unit {0}

by-slot : (x : Option ℕ) (cur : Cursor) (s p c : List ℕ) → FoundLies (advanced_by x cur s).found p c
unfolding tail_advanced
by-slot (Some e) cur s p c = tt
by-slot None cur s p c = either (λ (f : Found). FoundLies f p c) (too_long (drop cur.at s)) tt tt

advanced_lies : (cur : Cursor) (p c : List ℕ) → FoundLies (advanced_of cur p).found p c
unfolding advanced_of slot_advanced
advanced_lies cur p c =
    let s = part_of p 0 cur.end in
    either (λ (a : Advanced). FoundLies a.found p c) (eqb cur.note 0)
    (either (λ (a : Advanced). FoundLies a.found p c) (eqb cur.packet 0)
    (either (λ (a : Advanced). FoundLies a.found p c) cur.reading (by-slot (packet_at s cur.at) cur s p c) tt) tt)
    tt

turn_lies : (q : Queue) (cur : Cursor) (p c : List ℕ) → GiveLies q.give p c
    → let t = turn_of q cur p in FoundLies t.found p c × GiveLies t.queue.give p c
turn_lies q cur p c h = go (is_event (event_taken q p).event) refl
  where
    go : (b : Bool) → is_event (event_taken q p).event ≡ b
        → let t = turn_of q cur p in FoundLies t.found p c × GiveLies t.queue.give p c
    go true e = rw (turn-event q cur p e) (taken_lies q p c h)
    go false e = rw (turn_on q cur p e) (advanced_lies cur p c, (taken_lies q p c h).1)

-- what next gives and leaves
abbrev pub OutLies : NextOut → List ℕ → Type 0
OutLies o p = EventLies o.0.event p o.1 × GiveLies o.0.state.queue.give p o.1

onwards_lies : (x : Found) (st : State) (p c : List ℕ) (f : State → List ℕ → NextOut) → FoundLies x p c → GiveLies st.queue.give p c
    → Ample st c → ((s : State) (d : List ℕ) → GiveLies s.queue.give p d → Ample s d → OutLies (f s d) p)
    → OutLies (onwards x st p c f) p
onwards_lies (Event e) st p c f x h r k = (x, h)
onwards_lies (Packet start end) st p c f x h r k =
    let o = packet_of st p c start end in
    let q = packet-kept st p c start end in
    let l = length-packet st p c start end r in
    k o.0 o.1 (packet_lies st p c h r start end) (rw (q.config, l) r)
onwards_lies (Tail start len) st p c f x h r k = k (with_slot st (holding start len) st.cursor) c h r
onwards_lies Done st p c f x h r k = (tt, h)

read_lies : (f : ℕ) (st : State) (p c : List ℕ) → GiveLies st.queue.give p c → Ample st c → OutLies (read_on f st p c) p
unfolding read_on
read_lies zero st p c h r = (tt, h)
read_lies (suc f) st p c h r =
    let t = turn_of st.queue st.cursor p in
    let l = turn_lies st.queue st.cursor p c h in
    onwards_lies t.found (past st t) p c (λ s d. read_on f s p d) l.0 l.1 r (λ s d g a. read_lies f s p d g a)

pub next_lies : (st : State) (p c : List ℕ) → GiveLies st.queue.give p c → OutLies (next_of st p c) p
next_lies st p c h = go (short_by st.config (length p) (length c)) st.owed refl refl
  where
    go : (b o : Bool) → short_by st.config (length p) (length c) ≡ b → st.owed ≡ o → OutLies (next_of st p c) p
    go true o e q = rw (next-short st p c e) (tt, h)
    go false false e q = rw (next-idle st p c e q) (tt, h)
    go false true e q = rw (next-reads st p c e q) (unfold read_all in read_lies (suc (left st.cursor)) st p c h (short-room _ _ _ e))
