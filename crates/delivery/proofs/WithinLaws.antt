-- Laws of specs/Within.antt.
use Rattle.std.specs.Prelude.{ℕ, ◌+◌, ◌-◌, ◌*◌, ◌≤◌, ◌<◌, ◌≡◌, refl, Bool, cond, ◌&&◌, List, length, drop, ltb}
use Rattle.std.proofs.Math.Bool.{true, false}
use Rattle.std.proofs.Common.{arith, mul-le-mul_right, suc-mul, length-drop}
use borrow.Author.Tests.{ltb-false}
use Rattle.wire.specs.Memory.{part_of}
use Rattle.wire.proofs.MemoryLaws.{length-pasted}
use Rattle.watch.specs.Rising.{search_of}
use Rattle.watch.proofs.Order.{search_at}
use Rattle.mmtp.specs.Flow.{Flow, Silent as OtherFlow, Noted as NotedFlow, Mmtp, flow_of}
use Rattle.mmtp.specs.Packet.{Reading, Silent as Unwatched, Noted as NotedPacket, Good as GoodPacket, reading_of}
use Rattle.mmtp.specs.declared.payload.Payload.{Payload}
use Rattle.mmtp.specs.declared.payload.Indicator.{Indicator}
use Rattle.mmtp.specs.declared.payload.Indicator.TheVariants.{Whole as FI00, First, Middle, Last}
use Rattle.mmtp.specs.declared.unit.DataUnit.{DataUnit}
use Rattle.mmtp.specs.declared.unit.Step.TheVariants.{Unit, Malformed as NoUnit}
use Rattle.mmtp.proofs.PacketLaws.{packet-place}
use Rattle.mmtp.specs.Unit.{single_at, single_unit, single_fits, Inside}
use Rattle.mmtp.proofs.UnitLaws.{single_next}
use Rattle.reassembly.specs.declared.config.Rules.{Rules}
use Rattle.reassembly.specs.declared.channel.Channel.{Channel}
use Rattle.reassembly.specs.declared.channel.Phase.{Phase}
use Rattle.reassembly.specs.declared.channel.Phase.TheVariants.{Unheard, Waiting, Idle, Open}
use Rattle.reassembly.specs.declared.join.Piece.{Piece}
use Rattle.reassembly.specs.Joined.{Joined}
use Rattle.reassembly.specs.declared.join.Action.{Action}
use Rattle.reassembly.specs.declared.join.Action.TheVariants.{Nothing as NoAction, Whole, Store, Complete}
use Rattle.reassembly.specs.Unit.{agrees}
use Rattle.reassembly.specs.Channel.{gap}
use Rattle.reassembly.specs.Join.{join_of, acted, acted_by, begun, followed, followed_in, extended, grown, recorded, in_phase, counter_follows}
use Rattle.wire.proofs.Choice.{by_test}
use Rattle.words.specs.Config.{KeptConfig}
use Rattle.queue.specs.Waiting.{Queue}
use Rattle.queue.specs.declared.located.Located.{Located}
use Rattle.delivery.specs.Arrived.{Arrived, Silent, Noted, Good}
use Rattle.delivery.specs.Packet.{read_by, flow_by, comes_to, arrived_at, first_unit, unit_or, blank_unit, Room, Reach, place_of, Fits, collected, bytes_at, unit_in, base_of, step_of, piece_from, joined_of, received_of}
use Rattle.queue.specs.Located.{unit_len}
use Rattle.delivery.specs.Within.{Watched, Below}

single_inside : (m : List ℕ) (at kind : ℕ) (b : Bool) → single_fits m at kind ≡ b
    → Inside m (unit_or (cond b (Unit (single_unit m at kind)) NoUnit))
single_inside m at kind true e = let s = single_next m at kind e in record { ordered = s.ordered; within = s.within }
single_inside m at kind false e = record { ordered = omega arith; within = omega arith }

first_by : (m : List ℕ) (y : Payload) (b : Bool) → Inside m (cond b blank_unit (unit_or (single_at m y.start y.kind)))
unfolding single_at
first_by m y true = record { ordered = omega arith; within = omega arith }
first_by m y false = single_inside m y.start y.kind (single_fits m y.start y.kind) refl

pub first-inside : (m : List ℕ) (y : Payload) → Inside m (first_unit m y)
unfolding first_unit
first-inside m y = first_by m y y.aggregated

module _ (c : KeptConfig) (p : List ℕ) (start end : ℕ) where
  reading-place : (b : List ℕ) (r : Reading) (from : ℕ) (l : Located) → reading_of b (search_of c.watch) ≡ r
      → read_by r from end ≡ Good l → Watched c l
  reading-place b Unwatched from l e q = let z : ◌≡◌ {A = ℕ} 0 1 = cc in absurd (omega arith)
  reading-place b (NotedPacket n id) from l e q = let z : ◌≡◌ {A = ℕ} 0 1 = cc in absurd (omega arith)
  reading-place b (GoodPacket k) from l e q =
      let r : record { packet = k; start = from; end = end } ≡ l = cc in
      let f = packet-place b (search_of c.watch) k e in
      let w = search_at c.watch k.packet_id k.place f in
      rw (← r) (record { low = w.0; listed = w.1; found = f })

  flow-place : (b : List ℕ) (f : Flow) (l : Located) → flow_by f (search_of c.watch) b start end ≡ Good l → Watched c l
  flow-place b OtherFlow l q = let z : ◌≡◌ {A = ℕ} 0 1 = cc in absurd (omega arith)
  flow-place b (NotedFlow n) l q = let z : ◌≡◌ {A = ℕ} 0 1 = cc in absurd (omega arith)
  flow-place b (Mmtp n) l q = reading-place (drop n b) (reading_of (drop n b) (search_of c.watch)) (start + n) l refl q

  pub arrived-place : (l : Located) → arrived_at c p start end ≡ Good l → Watched c l
  unfolding comes_to
  arrived-place l q = let b = part_of p start (end - start) in flow-place b (flow_of b c.cid) l q

  pub arrived-below : (a : Arrived) → arrived_at c p start end ≡ a → place_of a < 16
  arrived-below Silent e = omega arith
  arrived-below (Noted n id) e = omega arith
  arrived-below (Good l) e = (arrived-place l e).low

  -- and room where it collects
  pub arrived-fits : (a : Arrived) (n : ℕ) → arrived_at c p start end ≡ a → c.watch.n * c.rules.limit ≤ n → Fits a c.rules n
  arrived-fits Silent n e h = tt
  arrived-fits (Noted k id) n e h = tt
  arrived-fits (Good l) n e h =
      let k : ℕ = l.packet.place in
      let r : k * c.rules.limit + c.rules.limit ≤ c.watch.n * c.rules.limit =
      rw suc-mul at (mul-le-mul_right c.rules.limit (arrived-place l e).listed) in
      omega arith

module _ (p : Piece) (rules : Rules) where
  abbrev Keeps : Joined → Type 0
  Keeps j = Below j.action p.len rules

  begun-below : (ch : Channel) (n : ℕ) → Keeps (begun ch p rules n)
  unfolding begun
  begun-below ch n = by_test Keeps (ltb rules.limit p.len) _ _ (λ e. tt) (λ e. let h = ltb-false rules.limit p.len e in omega arith)

  grown-below : (ch : Channel) (last : Bool) → ch.current.len + p.len ≤ rules.limit → Keeps (grown ch p last)
  unfolding grown
  grown-below ch true h = h
  grown-below ch false h = h

  extended-below : (ch : Channel) (last : Bool) → Keeps (extended ch p rules last)
  unfolding extended
  extended-below ch last =
      by_test Keeps (agrees ch.current.unit p.unit && counter_follows ch.current.counter p.counter) _ _
      (λ e. by_test Keeps (ltb rules.limit (ch.current.len + p.len)) _ _ (λ f. tt) (λ f. grown-below ch last (ltb-false _ _ f)))
      (λ e. tt)

  followed-below : (ph : Phase) (ch : Channel) (last : Bool) → Keeps (followed_in ph ch p rules last)
  followed-below Unheard ch last = tt
  followed-below Waiting ch last = tt
  followed-below Idle ch last = tt
  followed-below Open ch last = extended-below ch last

  acted-by : (i : Indicator) (ch : Channel) → Keeps (acted_by i ch p rules)
  unfolding followed
  acted-by FI00 ch = tt
  acted-by First ch = begun-below ch _
  acted-by Middle ch = followed-below ch.phase ch false
  acted-by Last ch = followed-below ch.phase ch true

  pub joined-below : (ch : Channel) → Below (join_of ch p rules).action p.len rules
  unfolding join_of acted
  joined-below ch =
      by_test Keeps (gap ch p.unit.psn) _ _ (λ e. acted-by p.indicator (in_phase (recorded ch p) Waiting))
      (λ e. acted-by p.indicator (recorded ch p))

-- so a piece fits where its packet_id collects
pub room : (a : Action) (c base : ℕ) (rules : Rules) (m : List ℕ) (u : DataUnit) → Below a (unit_len u) rules → base + rules.limit ≤ c → Inside m u
    → Room a c base (length m) u
room NoAction c base rules m u b h i = tt
room Whole c base rules m u b h i = tt
room (Store at) c base rules m u b h i = record { ordered = i.ordered; within = i.within; fits = omega arith }
room (Complete at) c base rules m u b h i = record { ordered = i.ordered; within = i.within; fits = omega arith }

pub reach : (a : Action) (rules : Rules) (u : DataUnit) → Below a (unit_len u) rules → rules.limit < 18446744073709551616 → Reach a u
reach NoAction rules u b h = tt
reach Whole rules u b h = tt
reach (Store at) rules u b h = tt
reach (Complete at) rules u b h = omega arith

-- and collecting memory stays as long as it was
pub length-collected : (a : Action) (c : List ℕ) (base : ℕ) (m : List ℕ) (u : DataUnit) → Room a (length c) base (length m) u
    → length (collected a c base m u) ≡ length c
unfolding collected
length-collected NoAction c base m u r = refl
length-collected Whole c base m u r = refl
length-collected (Store at) c base m u r =
    length-pasted c (base + at) (drop u.start m) (unit_len u) r.fits (rw length-drop (omega arith))
length-collected (Complete at) c base m u r =
    length-pasted c (base + at) (drop u.start m) (unit_len u) r.fits (rw length-drop (omega arith))

-- where a packet's bytes come from
module _ (ch : Channel) (l : Located) (p c : List ℕ) (rules : Rules) (h : l.packet.place * rules.limit + rules.limit ≤ length c) where
  abbrev joins : Joined
  joins = step_of ch l p rules

  pub joined-room : Room joins.action (length c) (base_of l rules.limit) (length (bytes_at l p)) (unit_in l p)
  joined-room =
      room joins.action (length c) (base_of l rules.limit) rules (bytes_at l p) (unit_in l p)
      (joined-below (piece_from l.packet (unit_in l p)) rules ch) h (first-inside (bytes_at l p) l.packet.payload)

  pub joined-reach : rules.limit < 18446744073709551616 → Reach joins.action (unit_in l p)
  joined-reach k =
      reach joins.action rules (unit_in l p) (joined-below (piece_from l.packet (unit_in l p)) rules ch) k

  pub length-joined : length (joined_of ch l p c rules).1 ≡ length c
  unfolding joined_of
  length-joined = length-collected joins.action c (base_of l rules.limit) (bytes_at l p) (unit_in l p) joined-room

pub length-received : (a : Arrived) (ch : Channel) (q : Queue) (p c : List ℕ) (rules : Rules) → Fits a rules (length c)
    → length (received_of a ch q p c rules).1 ≡ length c
unfolding received_of
length-received Silent ch q p c rules h = refl
length-received (Noted n id) ch q p c rules h = refl
length-received (Good l) ch q p c rules h = length-joined ch l p c rules h
