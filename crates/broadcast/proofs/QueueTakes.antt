-- What next takes from the queue of a packet is the first that waits there.
use Prim.Native.Nat.{ℕ, ◌+◌, ◌-◌, ◌≤◌}
use mathlib.Core.Path.{◌≡◌, refl, sym, subst}
use mathlib.Core.Bool.{Bool, true, false}
use mathlib.Core.List.{List}
use native.Mathlib.Omega.{arith}
use borrow.Author.Tests.{eqb-true, leb-true, leb-false}
use lib.Dec.{eqb, leb}
use lib.ListN.{length, drop, length-drop}
use Rattle.wire.specs.Memory.{part_of}
use Rattle.mmtp.specs.declared.unit.DataUnit.{DataUnit}
use Rattle.mmtp.specs.declared.unit.Step.TheVariants.{End}
use Rattle.mmtp.specs.Unit.{unit_at, data_unit, piece_at}
use Rattle.mmtp.proofs.UnitLaws.{aggregate-none, aggregate-next}
use Rattle.queue.specs.Waiting.{Aggregate, Give, Nothing as NoUnit, One, Many, Queue}
use Rattle.queue.specs.Queue.{event_taken, give_by}
use Rattle.receiver.specs.Show.{show_of}
use Rattle.broadcast.specs.Pending.{queue_pending}
use Rattle.broadcast.specs.PacketClaims.{GiveGood, QueueGood, Takes, QueueGives}
use Rattle.broadcast.proofs.Parts.{part-part}

-- a data unit of the part of packet memory from `start` to `end`: the bytes that show returns
pub show-unit : (p : List ℕ) (start end : ℕ) (d : DataUnit) → d.start ≤ d.end → d.end ≤ length (part_of p start (end - start))
    → part_of p (start + d.start) (d.end - d.start) ≡ (piece_at (part_of p start (end - start)) d).bytes
unfolding piece_at
show-unit p start end d o w = part-part p start (end - start) d.start (d.end - d.start) (omega arith)

-- past the end of an aggregate
end-at : (m : List ℕ) (at kind : ℕ) (wide : Bool) → leb (length m) at ≡ true → unit_at m at kind wide ≡ End
unfolding unit_at
end-at m at kind wide h = rw h

-- with no note
abbrev bare : ℕ → Give → Queue
bare id g = record { note = 0; over = false; packet_id = id; give = g }

abbrev Given : Queue → List ℕ → List ℕ → Type 0
Given q p c = let t = give_by q.give q p in Takes t.event q t.queue p c × QueueGood t.queue p

module _ (id : ℕ) (p c : List ℕ) where
  give_many : (a : Aggregate) → GiveGood (Many a) p → (t : Bool)
      → leb (length (part_of p a.start (a.end - a.start))) a.at ≡ t → Given (bare id (Many a)) p c
  unfolding queue_pending show_of piece_at
  give_many a h true e =
      let m = part_of p a.start (a.end - a.start) in
      let k = a.packet.payload.kind in
      let w = a.packet.payload.wide in
      let l = leb-true (length m) a.at e in
      let d = length-drop a.at m in
      rw (end-at m a.at k w e, aggregate-none (drop a.at m) k w (omega arith)) ((refl, refl, (refl, refl, refl)), tt)
  give_many a h false e =
      let m = part_of p a.start (a.end - a.start) in
      let k = a.packet.payload.kind in
      let w = a.packet.payload.wide in
      let l = leb-false (length m) a.at e in
      let n = aggregate-next m a.at k w h l in
      let d = data_unit m a.at k w in
      rw n.unit (rw (n.cut, show-unit p a.start a.end d n.ordered n.within) refl, n.rest)

  give_takes : (g : Give) → GiveGood g p → Given (bare id g) p c
  unfolding queue_pending
  give_takes NoUnit h = ((refl, refl, (refl, refl, refl)), tt)
  give_takes (One g) h = (refl, tt)
  give_takes (Many a) h = give_many a h _ refl

-- by its note, and by note 64
abbrev Gives : Queue → List ℕ → List ℕ → Type 0
Gives q p c = let t = event_taken q p in Takes t.event q t.queue p c × QueueGood t.queue p

give-first : (id : ℕ) (g : Give) (p c : List ℕ) → GiveGood g p → Gives (bare id g) p c
unfolding event_taken
give-first id g p c h = give_takes id p c g h

module _ (q : Queue) (p c : List ℕ) (h : QueueGood q p) where
  noted : eqb q.note 0 ≡ false → Gives q p c
  unfolding event_taken queue_pending
  noted e = rw e (rw e, h)

  over : eqb q.note 0 ≡ true → q.over ≡ true → Gives q p c
  unfolding event_taken queue_pending
  over e o = rw (e, o) (rw e, h)

  plain : eqb q.note 0 ≡ true → q.over ≡ false → Gives q p c
  plain e o =
      let n = eqb-true q.note 0 e in
      let same : q ≡ bare q.packet_id q.give = rw (← n, ← o) in
      subst (λ (r : Queue). Gives r p c) (sym same) (give-first q.packet_id q.give p c h)

  by : (t v : Bool) → eqb q.note 0 ≡ t → q.over ≡ v → Gives q p c
  by true true e o = over e o
  by true false e o = plain e o
  by false v e o = noted e

pub queue-gives : QueueGives
queue-gives q p c h = by q p c h (eqb q.note 0) q.over refl refl
