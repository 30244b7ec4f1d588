-- The five ways in which a piece is joined to the state of its packet_id.
use Prim.Native.Nat.{ℕ, ◌+◌, ◌≤◌}
use mathlib.Core.Path.{◌≡◌, refl}
use mathlib.Core.Bool.{Bool, true, false, ◌&&◌}
use borrow.Author.Tests.{ltb-false}
use lib.Dec.{ltb}
use Rattle.mmtp.specs.declared.header.Psn.{Psn}
use Rattle.mmtp.specs.declared.payload.Indicator.{Indicator}
use Rattle.mmtp.specs.declared.payload.Indicator.TheVariants.{Whole, First, Middle, Last}
use Rattle.reassembly.specs.declared.config.Rules.{Rules}
use Rattle.reassembly.specs.declared.channel.Phase.{Phase}
use Rattle.reassembly.specs.declared.channel.Phase.TheVariants.{Unheard, Waiting, Idle, Open}
use Rattle.reassembly.specs.declared.channel.OpenUnit.{OpenUnit}
use Rattle.reassembly.specs.declared.channel.Channel.{Channel}
use Rattle.reassembly.specs.declared.join.Piece.{Piece}
use Rattle.reassembly.specs.declared.join.Action.{Action}
use Rattle.reassembly.specs.declared.join.Action.TheVariants.{Nothing, Whole as GiveWhole, Store, Complete}
use Rattle.reassembly.specs.Joined.{Joined}
use Rattle.reassembly.specs.declared.note.JoinNote.TheVariants.{Gap, Headless, Apart}
use Rattle.reassembly.specs.Notes.{number_of}
use Rattle.reassembly.specs.Unit.{agrees}
use Rattle.reassembly.specs.Channel.{gap}
use Rattle.reassembly.specs.Join.{noted, begun, counter_follows, grown, extended, followed, acted_by, acted, join_of}

abbrev pub joined_as : Phase → Psn → OpenUnit → ℕ → Bool → Action → Joined
joined_as ph last o n v a =
    record { channel = record { phase = ph; last = last; current = o }; note = n; over = v; action = a }

-- the open unit with the piece behind it
abbrev pub grown_by : OpenUnit → Piece → OpenUnit
grown_by o p = record { unit = o.unit; counter = p.counter; len = o.len + p.len }

-- a piece with this indicator, at a packet_id in this phase with this open unit
pub data Joins (rules : Rules) (o : OpenUnit) (p : Piece) : Indicator → Phase → Joined → Type 0 where
  waits : {f : Indicator} {ph : Phase} (l : Psn) (n : ℕ) (v : Bool) → Joins rules o p f ph (joined_as Waiting l o n v Nothing)
  gives : {ph : Phase} (l : Psn) (n : ℕ) (v : Bool) → Joins rules o p Whole ph (joined_as Idle l o n v GiveWhole)
  begins : {ph : Phase} (l : Psn) (n : ℕ) (v : Bool) → p.len ≤ rules.limit
      → Joins rules o p First ph (joined_as Open l (record { unit = p.unit; counter = p.counter; len = p.len }) n v (Store 0))
  grows : (l : Psn) (n : ℕ) (v : Bool) → o.len + p.len ≤ rules.limit
      → Joins rules o p Middle Open (joined_as Open l (grown_by o p) n v (Store o.len))
  ends : (l : Psn) (n : ℕ) (v : Bool) → o.len + p.len ≤ rules.limit
      → Joins rules o p Last Open (joined_as Idle l (grown_by o p) n v (Complete o.len))

module _ (rules : Rules) (o : OpenUnit) (p : Piece) where
  abbrev at : Phase → Psn → Channel
  at ph l = record { phase = ph; last = l; current = o }

  begins-by : (ph : Phase) (l : Psn) (n : ℕ) (t : Bool) → ltb rules.limit p.len ≡ t
      → Joins rules o p First ph (begun (at ph l) p rules n)
  unfolding begun
  begins-by ph l n true e = rw e (waits l n true)
  begins-by ph l n false e = rw e (begins l n false (ltb-false rules.limit p.len e))

  abbrev Follows : Bool → Type 0
  Follows b = agrees o.unit p.unit && counter_follows o.counter p.counter ≡ b

  abbrev Over : Bool → Type 0
  Over b = ltb rules.limit (o.len + p.len) ≡ b

  grows-by : (l : Psn) (t v : Bool) → Follows t → Over v → Joins rules o p Middle Open (extended (at Open l) p rules false)
  unfolding extended grown
  grows-by l false v e x = rw e (waits l (number_of Apart) false)
  grows-by l true true e x = rw (e, x) (waits l 0 true)
  grows-by l true false e x = rw (e, x) (grows l 0 false (ltb-false rules.limit (o.len + p.len) x))

  ends_by : (l : Psn) (t v : Bool) → Follows t → Over v → Joins rules o p Last Open (extended (at Open l) p rules true)
  unfolding extended grown
  ends_by l false v e x = rw e (waits l (number_of Apart) false)
  ends_by l true true e x = rw (e, x) (waits l 0 true)
  ends_by l true false e x = rw (e, x) (ends l 0 false (ltb-false rules.limit (o.len + p.len) x))

  acts : (f : Indicator) (ph : Phase) (l : Psn) → Joins rules o p f ph (acted_by f (at ph l) p rules)
  unfolding followed
  acts Whole ph l = gives l _ false
  acts First ph l = begins-by ph l _ _ refl
  acts Middle Unheard l = waits l 0 false
  acts Middle Waiting l = waits l 0 false
  acts Middle Idle l = waits l (number_of Headless) false
  acts Middle Open l = grows-by l _ _ refl refl
  acts Last Unheard l = waits l 0 false
  acts Last Waiting l = waits l 0 false
  acts Last Idle l = waits l (number_of Headless) false
  acts Last Open l = ends_by l _ _ refl refl

  -- after a gap the piece comes to a packet_id that waits
  after-gap : (f : Indicator) (ph : Phase) (j : Joined) → Joins rules o p f Waiting j → Joins rules o p f ph (noted 60 j)
  after-gap f ph j (waits l n v) = waits l (number_of Gap) v
  after-gap Whole ph j (gives l n v) = gives l (number_of Gap) v
  after-gap First ph j (begins l n v h) = begins l (number_of Gap) v h

pub joins : (rules : Rules) (ch : Channel) (p : Piece) → Joins rules ch.current p p.indicator ch.phase (join_of ch p rules)
unfolding join_of acted
joins rules ch p = go (gap ch p.unit.psn) refl
  where
    go : (t : Bool) → gap ch p.unit.psn ≡ t → Joins rules ch.current p p.indicator ch.phase (join_of ch p rules)
    go true e = rw e (after-gap rules ch.current p _ _ _ (acts rules ch.current p p.indicator Waiting p.unit.psn))
    go false e = rw e (acts rules ch.current p p.indicator ch.phase p.unit.psn)
