-- The account of a broadcast: from own live slots to units and notes, in stream order, over lists; no memory, no cursor.
-- Slots have labels of any type; a packet has those of its slots, a unit those of its packets.
use Rattle.std.specs.Prelude.{ℕ, cond, List, [], ◌∷◌, ◌++◌, map, length, drop}
use Rattle.watch.specs.Given.{lookup_of}
use Rattle.mmtp.specs.Flow.{Flow, Silent as OtherFlow, Noted as NotedFlow, Mmtp, flow_of}
use Rattle.mmtp.specs.declared.packet.Packet.{Packet}
use Rattle.mmtp.specs.Packet.{Reading, Silent, Noted, Good, reading_of}
use Rattle.mmtp.specs.Notes.{number_of}
use Rattle.mmtp.specs.Unit.{Piece, no_fields}
use Rattle.mmtp.specs.Payload.{pieces_of}
use Rattle.reassembly.specs.declared.config.Config.{Config}
use Rattle.reassembly.specs.declared.join.Piece.{Piece as JoinPiece}
use Rattle.reassembly.specs.Unit.{carried}
use Rattle.reassembly.specs.Run.{Content, Input, Event, note, Lane, fresh, step, with_lane}
use Rattle.tlv.specs.Run.{Event as Slot-event, note as slot-note, packet, Arrival, searching, run}

-- what a TLV packet comes to
pub data Read : Type 0 where
  silent : Read
  -- a note's number, and its packet_id
  noted : ℕ → ℕ → Read
  input : Input → Read

abbrev pub no_piece : Piece
no_piece = record { fields = no_fields; bytes = [] }

abbrev pub first_or : Piece → List Piece → Piece
first_or d [] = d
first_or d (x ∷ xs) = x

-- the piece that a packet brings to an open unit: its only data unit
abbrev pub piece_of : Packet → Piece → JoinPiece
piece_of p u =
    record {
      unit = carried p u.fields;
      indicator = p.payload.indicator;
      counter = p.payload.counter;
      len = length u.bytes;
    }

abbrev pub content_of : Packet → Piece → Content
content_of p u = record { info = carried p u.fields; bytes = u.bytes }

-- a packet of a watched packet_id with its data units; an aggregate brings no piece
abbrev pub input_from : Packet → List Piece → Input
input_from p us =
    let u = cond p.payload.aggregated no_piece (first_or no_piece us) in
    record { place = p.place; piece = piece_of p u; bytes = u.bytes; wholes = map (content_of p) us }

abbrev pub read_by : Reading → List ℕ → Read
read_by Silent m = silent
read_by (Noted n id) m = noted (number_of n) id
read_by (Good p) m = input (input_from p (pieces_of m p.payload))

abbrev pub flow_by : Flow → Config → List ℕ → Read
flow_by OtherFlow c b = silent
flow_by (NotedFlow n) c b = noted (number_of n) 0
flow_by (Mmtp n) c b = read_by (reading_of (drop n b) (lookup_of c.watch)) (drop n b)

-- a TLV packet, read
unfoldable pub read_of : Config → List ℕ → Read
read_of c b = flow_by (flow_of b c.cid) c b

-- the state of all packet_ids, and the events, after a packet with its label
pub record After (A : Type 0) : Type 0 where
  pub lanes : ℕ → Lane A
  pub events : List (Event A)

module _ {A : Type 0} (c : Config) where
  abbrev pub after_read : Read → (ℕ → Lane A) → A → After A
  after_read silent f a = record { lanes = f; events = [] }
  after_read (noted n id) f a = record { lanes = f; events = note n id ∷ [] }
  after_read (input x) f a =
      let s = step c.rules (f x.place) a x in
      record { lanes = with_lane c.rules f x.place s.lane; events = s.events }

module _ {A : Type 0} (c : Config) where
  -- a note of a slot, or a packet, whose label is the list of its slots' labels
  abbrev pub after_event : Slot-event A → (ℕ → Lane (List A)) → After (List A)
  after_event (slot-note n) f = record { lanes = f; events = note n 0 ∷ [] }
  after_event (packet p) f = after_read c (read_of c p.bytes) f p.labels

  unfoldable pub events : (ℕ → Lane (List A)) → List (Slot-event A) → List (Event (List A))
  events f [] = []
  events f (e ∷ es) = let r = after_event e f in r.events ++ events r.lanes es

  unfoldable pub lanes_after : (ℕ → Lane (List A)) → List (Slot-event A) → ℕ → Lane (List A)
  lanes_after f [] = f
  lanes_after f (e ∷ es) = lanes_after (after_event e f).lanes es

  -- the account of a list of own live slots, given or lost, read by a fresh receiver
  unfoldable pub account : List (Arrival A) → List (Event (List A))
  account xs = events (λ k. fresh) (run searching xs)
