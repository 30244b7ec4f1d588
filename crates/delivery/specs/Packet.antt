-- A TLV packet in packet memory: read, and joined to the state of its packet_id over collecting memory.
use Rattle.std.specs.Prelude.{ℕ, ◌+◌, ◌-◌, ◌*◌, ◌≤◌, ◌<◌, Bool, true, false, cond, List, drop, Option}
use Rattle.wire.specs.Memory.{part_of, pasted}
use Rattle.watch.specs.Rising.{search_of}
use Rattle.mmtp.specs.Flow.{Flow, Silent as OtherFlow, Noted as NotedFlow, Mmtp, flow_of}
use Rattle.mmtp.specs.declared.packet.Packet.{Packet}
use Rattle.mmtp.specs.Packet.{Reading, Silent as Unwatched, Noted as NotedPacket, Good as GoodPacket, reading_of}
use Rattle.mmtp.specs.declared.unit.DataUnit.{DataUnit}
use Rattle.mmtp.specs.declared.unit.Step.{Step}
use Rattle.mmtp.specs.declared.unit.Step.TheVariants.{Unit, Malformed as NoUnit, End}
use Rattle.mmtp.specs.declared.payload.Payload.{Payload}
use Rattle.mmtp.specs.declared.note.PacketNote.{PacketNote}
use Rattle.mmtp.specs.Notes.{number_of}
use Rattle.mmtp.specs.Unit.{no_fields, single_at}
use Rattle.reassembly.specs.declared.config.Rules.{Rules}
use Rattle.reassembly.specs.declared.channel.Channel.{Channel}
use Rattle.reassembly.specs.declared.join.Piece.{Piece}
use Rattle.reassembly.specs.Joined.{Joined}
use Rattle.reassembly.specs.declared.join.Action.{Action}
use Rattle.reassembly.specs.declared.join.Action.TheVariants.{Nothing as NoAction, Whole, Store, Complete}
use Rattle.reassembly.specs.Unit.{carried}
use Rattle.reassembly.specs.Join.{join_of}
use Rattle.words.specs.Config.{KeptConfig}
use Rattle.queue.specs.declared.event.Memory.TheVariants.{Collecting}
use Rattle.queue.specs.declared.event.Given.{Given}
use Rattle.queue.specs.Waiting.{Give, Nothing, One, Many, Queue}
use Rattle.queue.specs.declared.located.Located.{Located}
use Rattle.queue.specs.Located.{unit_len, whole_given}
use Rattle.delivery.specs.Arrived.{Arrived, Silent, Noted, Good}

-- an MMTP packet that stands from `start` to `end`
abbrev pub read_by : Reading → ℕ → ℕ → Arrived
read_by Unwatched start end = Silent
read_by (NotedPacket n id) start end = Noted n id
read_by (GoodPacket p) start end = Good (record { packet = p; start = start; end = end })

abbrev pub flow_by : Flow → (ℕ → Option ℕ) → List ℕ → ℕ → ℕ → Arrived
flow_by OtherFlow look b start end = Silent
flow_by (NotedFlow n) look b start end = Noted n 0
flow_by (Mmtp n) look b start end = read_by (reading_of (drop n b) look) (start + n) end

-- the TLV packet that stands from `start` to `end` in packet memory, by the CID and the search in the watch list
unfoldable pub comes_to : ℕ → (ℕ → Option ℕ) → List ℕ → ℕ → ℕ → Arrived
comes_to cid look p start end = let b = part_of p start (end - start) in flow_by (flow_of b cid) look b start end

-- the same by what start keeps: the search is over the list in rising order
abbrev pub arrived_at : KeptConfig → List ℕ → ℕ → ℕ → Arrived
arrived_at c p start end = comes_to c.cid (search_of c.watch) p start end

-- the bytes of an MMTP packet
abbrev pub bytes_at : Located → List ℕ → List ℕ
bytes_at l p = part_of p l.start (l.end - l.start)

abbrev pub Unit₀ : Type 0
Unit₀ = Prim.Unit {0}

abbrev pub blank_unit : DataUnit
blank_unit = record { fields = no_fields; start = 0; end = 0 }

abbrev pub unit_or : Step → DataUnit
unit_or (Unit u) = u
unit_or NoUnit = blank_unit
unit_or End = blank_unit

-- the data unit of a packet that is not aggregated
unfoldable pub first_unit : List ℕ → Payload → DataUnit
first_unit m y = cond y.aggregated blank_unit (unit_or (single_at m y.start y.kind))

abbrev pub piece_from : Packet → DataUnit → Piece
piece_from k u =
    record {
      unit = carried k u.fields;
      indicator = k.payload.indicator;
      counter = k.payload.counter;
      len = unit_len u;
    }

-- a data unit's bytes, in collecting memory from `at`
abbrev pub stored : List ℕ → ℕ → List ℕ → DataUnit → List ℕ
stored c at m u = pasted c at (drop u.start m) (unit_len u)

-- "id k (from 0) collects from k × R": the piece's bytes, where the action says
unfoldable pub collected : Action → List ℕ → ℕ → List ℕ → DataUnit → List ℕ
collected NoAction c base m u = c
collected Whole c base m u = c
collected (Store at) c base m u = stored c (base + at) m u
collected (Complete at) c base m u = stored c (base + at) m u

-- the data unit lies in the packet, and fits where it is stored
pub record Stored (c at m : ℕ) (u : DataUnit) : Type 0 where
  pub ordered : u.start ≤ u.end
  pub within : u.end ≤ m
  pub fits : at + unit_len u ≤ c

abbrev pub Room : Action → ℕ → ℕ → ℕ → DataUnit → Type 0
Room NoAction c base m u = Unit₀
Room Whole c base m u = Unit₀
Room (Store at) c base m u = Stored c (base + at) m u
Room (Complete at) c base m u = Stored c (base + at) m u

-- a joined unit's length is a number
abbrev pub Reach : Action → DataUnit → Type 0
Reach NoAction u = Unit₀
Reach Whole u = Unit₀
Reach (Store at) u = Unit₀
Reach (Complete at) u = at + unit_len u < 18446744073709551616

-- a joined unit stands in collecting memory
abbrev pub joined_given : Joined → ℕ → ℕ → Given
joined_given j base len =
    record { unit = j.channel.current.unit; place = record { memory = Collecting; start = base; len = len } }

abbrev pub wholes_of : Bool → Located → DataUnit → Give
wholes_of true l u = Many (record { packet = l.packet; start = l.start; end = l.end; at = l.packet.payload.start })
wholes_of false l u = One (whole_given l u)

unfoldable pub give_of : Action → Joined → Located → ℕ → DataUnit → Give
give_of NoAction j l base u = Nothing
give_of Whole j l base u = wholes_of l.packet.payload.aggregated l u
give_of (Store at) j l base u = Nothing
give_of (Complete at) j l base u = One (joined_given j base (at + unit_len u))

-- what joining a packet leaves: the state of its packet_id, and what next has yet to give
pub record JoinedPacket : Type 0 where
  pub channel : Channel
  pub queue : Queue

abbrev pub queue_of : Joined → Located → ℕ → DataUnit → Queue
queue_of j l base u =
    record { note = j.note; over = j.over; packet_id = l.packet.packet_id; give = give_of j.action j l base u }

-- where the packet_id collects
abbrev pub base_of : Located → ℕ → ℕ
base_of l limit = l.packet.place * limit

abbrev pub unit_in : Located → List ℕ → DataUnit
unit_in l p = first_unit (bytes_at l p) l.packet.payload

abbrev pub step_of : Channel → Located → List ℕ → Rules → Joined
step_of ch l p rules = join_of ch (piece_from l.packet (unit_in l p)) rules

-- the state of the packet_id, what next has yet to give, and collecting memory
abbrev pub joined_by : Joined → Located → List ℕ → DataUnit → List ℕ → ℕ → JoinedPacket × List ℕ
joined_by j l m u c base =
    (record { channel = j.channel; queue = queue_of j l base u }, collected j.action c base m u)

unfoldable pub joined_of : Channel → Located → List ℕ → List ℕ → Rules → JoinedPacket × List ℕ
joined_of ch l p c rules = joined_by (step_of ch l p rules) l (bytes_at l p) (unit_in l p) c (base_of l rules.limit)

-- the place of the packet's packet_id in the list that start was given; 0 where there is no packet to join
abbrev pub place_of : Arrived → ℕ
place_of Silent = 0
place_of (Noted n id) = 0
place_of (Good l) = l.packet.place

-- there is room where the packet's packet_id collects
abbrev pub Fits : Arrived → Rules → ℕ → Type 0
Fits Silent rules n = Unit₀
Fits (Noted m id) rules n = Unit₀
Fits (Good l) rules n = l.packet.place * rules.limit + rules.limit ≤ n

-- what next has yet to give of a packet that is noted before it comes to joining
abbrev pub note_queue : PacketNote → ℕ → Queue
note_queue n id = record { note = number_of n; over = false; packet_id = id; give = Nothing }

-- a packet comes to the state of its packet_id, and to an empty queue
unfoldable pub received_of : Arrived → Channel → Queue → List ℕ → List ℕ → Rules → JoinedPacket × List ℕ
received_of Silent ch q p c rules = (record { channel = ch; queue = q }, c)
received_of (Noted n id) ch q p c rules = (record { channel = ch; queue = note_queue n id }, c)
received_of (Good l) ch q p c rules = joined_of ch l p c rules
