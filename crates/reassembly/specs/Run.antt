-- Reassembly of a list of packets of all watched packet_ids, over lists of bytes. Each packet has a label of any type;
-- an open unit, and a unit, has the labels of the packets that carry it.
use Rattle.std.specs.Prelude.{ℕ, suc, cond, List, [], ◌∷◌, ◌++◌, map, ◌==◌}
use Rattle.mmtp.specs.declared.payload.Indicator.{Indicator}
use Rattle.mmtp.specs.declared.payload.Indicator.TheVariants.{Whole, First, Middle, Last}
use Rattle.reassembly.specs.declared.config.Rules.{Rules}
use Rattle.reassembly.specs.declared.unit.Unit.{Unit as UnitInfo}
use Rattle.reassembly.specs.declared.channel.Channel.{Channel}
use Rattle.reassembly.specs.declared.join.Piece.{Piece}
use Rattle.reassembly.specs.declared.join.Action.{Action}
use Rattle.reassembly.specs.declared.join.Action.TheVariants.{Nothing, Whole as GiveWhole, Store, Complete}
use Rattle.reassembly.specs.Joined.{Joined}
use Rattle.reassembly.specs.Channel.{unheard}
use Rattle.reassembly.specs.Join.{join_of, notes_of}

-- what a unit carries, and its bytes
pub record Content : Type 0 where
  pub info : UnitInfo
  pub bytes : List ℕ

-- a packet that was read: the place of its packet_id in the list that start was given; its piece with the piece's bytes; its units if it is FI 00
pub record Input : Type 0 where
  pub place : ℕ
  pub piece : Piece
  pub bytes : List ℕ
  pub wholes : List Content

module _ (A : Type 0) where
  pub record Labelled : Type 0 where
    pub labels : List A
    pub content : Content

  pub data Event : Type 0 where
    note : ℕ → ℕ → Event
    unit : Labelled → Event

  -- the lane of one packet_id: its state, and the labels and bytes of its open unit
  pub record Lane : Type 0 where
    pub channel : Channel
    pub labels : List A
    pub bytes : List ℕ

  pub record Stepped : Type 0 where
    pub lane : Lane
    pub events : List Event

-- what is gathered for a joined unit, its labels or its bytes, with a packet's own behind it
abbrev pub gathered : {B : Type 0} → Indicator → List B → List B → List B
gathered Whole old new = old
gathered First old new = new
gathered Middle old new = old ++ new
gathered Last old new = old ++ new

module _ {A : Type 0} where
  abbrev pub fresh : Lane A
  fresh = record { channel = unheard; labels = []; bytes = [] }

  abbrev pub labelled : List A → Content → Event A
  labelled ls u = unit (record { labels = ls; content = u })

  -- the units that a step gives
  abbrev pub given : Action → A → Input → Lane A → List (Event A)
  given Nothing a x l = []
  given GiveWhole a x l = map (labelled (a ∷ [])) x.wholes
  given (Store at) a x l = []
  given (Complete at) a x l = labelled l.labels (record { info = l.channel.current.unit; bytes = l.bytes }) ∷ []

  abbrev pub lane_after : Lane A → A → Input → Joined → Lane A
  lane_after l a x j =
      record {
        channel = j.channel;
        labels = gathered x.piece.indicator l.labels (a ∷ []);
        bytes = gathered x.piece.indicator l.bytes x.bytes;
      }

  -- the packet's notes, each with its packet_id, then its units
  abbrev pub events_of : A → Input → Joined → Lane A → List (Event A)
  events_of a x j l = map (λ n. note n x.piece.unit.packet_id) (notes_of j) ++ given j.action a x l

  module _ (rules : Rules) where
    unfoldable pub step : Lane A → A → Input → Stepped A
    step l a x =
        let j = join_of l.channel x.piece rules in
        record { lane = lane_after l a x j; events = events_of a x j (lane_after l a x j) }

    abbrev pub with_lane : (ℕ → Lane A) → ℕ → Lane A → ℕ → Lane A
    with_lane f k l i = cond (i == k) l (f i)

    -- the events of all packet_ids, in the order of the packets; `f k` is the lane of place k
    unfoldable pub run : (ℕ → Lane A) → List (A × Input) → List (Event A)
    run f [] = []
    run f (x ∷ xs) =
        let s = step (f x.1.place) x.0 x.1 in
        s.events ++ run (with_lane f x.1.place s.lane) xs

    -- the lane of each place after a list of packets
    unfoldable pub lanes_after : (ℕ → Lane A) → List (A × Input) → ℕ → Lane A
    lanes_after f [] = f
    lanes_after f (x ∷ xs) =
        let s = step (f x.1.place) x.0 x.1 in
        lanes_after (with_lane f x.1.place s.lane) xs

    -- the events of one packet_id, whose packets alone are in the list
    unfoldable pub run_lane : Lane A → List (A × Input) → List (Event A)
    run_lane l [] = []
    run_lane l (x ∷ xs) =
        let s = step l x.0 x.1 in
        s.events ++ run_lane s.lane xs

  abbrev pub units : List (Event A) → List (Labelled A)
  units [] = []
  units (note n i ∷ es) = units es
  units (unit u ∷ es) = u ∷ units es

  -- no note among events
  abbrev pub Clean : List (Event A) → Type 0
  Clean [] = Unit {0}
  Clean (note n i ∷ es) = ⊥
  Clean (unit u ∷ es) = Clean es

  -- how many packets there are of place k
  abbrev pub count : ℕ → List (A × Input) → ℕ
  count k [] = 0
  count k (x ∷ xs) = cond (k == x.1.place) (suc (count k xs)) (count k xs)
