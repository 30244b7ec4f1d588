-- What is claimed of packed units: each packet is a whole TLV packet, and is read as the packet that was meant.
use Rattle.std.specs.Prelude.{◌≡◌, ℕ, ◌+◌, ◌^◌, ◌<◌, ◌≤◌, true, false, cond, List, [], ◌∷◌, length, drop, ◌==◌, Some}
use Rattle.tlv.specs.Packet.{total, marked, complete, cut, max_packet}
use Rattle.mmtp.specs.Flow.{Mmtp, flow_of}
use Rattle.mmtp.specs.declared.unit.Fields.{Fields}
use Rattle.mmtp.specs.declared.packet.Packet.{Packet}
use Rattle.mmtp.specs.Packet.{Good, reading_of}
use Rattle.watch.specs.declared.given.Watch.{Watch}
use Rattle.watch.specs.Given.{lookup_of}
use Rattle.mmtp.specs.Unit.{no_fields}
use Rattle.mmtp.specs.Payload.{counter_fits, pieces_of}
use Rattle.reassembly.specs.declared.unit.Unit.{Unit}
use Rattle.reassembly.specs.declared.join.Piece.{Piece}
use Rattle.packer.specs.Pieces.{pieces, piece_at}
use Rattle.packer.specs.Packet.{packet_of}
use Rattle.packer.specs.Packer.{packets, joined}
use Rattle.packer.specs.Writing.{payload_head_bytes}

-- the fields with 0 where the kind has none
unfoldable pub own_fields : ℕ → Fields → Fields
own_fields kind f =
    cond (kind == 2)
    (record {
      movie_fragment = f.movie_fragment;
      sample = f.sample;
      offset = f.offset;
      priority = f.priority;
      dependency = f.dependency;
      item = 0;
    })
    (cond (kind == 3)
    (record { movie_fragment = 0; sample = 0; offset = 0; priority = 0; dependency = 0; item = f.item })
    no_fields)

-- a unit whose numbers fit their fields, "fields that a kind lacks 0"
pub record Packable (u : Unit) : Type 0 where
  pub kinds : u.kind ≤ 4
  pub ids : u.packet_id < 2 ^ 16
  pub psns : u.psn.0 < 2 ^ 32
  pub mpus : u.mpu < 2 ^ 32
  pub movie_fragments : u.fields.movie_fragment < 2 ^ 32
  pub samples : u.fields.sample < 2 ^ 32
  pub offsets : u.fields.offset < 2 ^ 32
  pub items : u.fields.item < 2 ^ 32
  pub own-fields : own_fields u.kind u.fields ≡ u.fields
  pub own-mpu : u.kind ≡ 4 → u.mpu ≡ 0

-- a whole TLV packet: with a good first byte, and complete with nothing behind it
abbrev pub WholePacket : List ℕ → Type 0
WholePacket b = (marked b ≡ true) × (complete b ≡ true) × (total b ≡ length b)

abbrev pub AllWhole : List (List ℕ) → Type 0
AllWhole [] = Prim.Unit {0}
AllWhole (b ∷ bs) = WholePacket b × AllWhole bs

-- packets that a receiver keeps
abbrev pub AllShort : List (List ℕ) → Type 0
AllShort [] = Prim.Unit {0}
AllShort (b ∷ bs) = (length b ≤ max_packet) × AllShort bs

abbrev pub PacketWhole : Type 0
PacketWhole = (cid sn : ℕ) (p : Piece) (s : List ℕ) → length s ≤ 1400 → WholePacket (packet_of cid sn p s)

-- whole packets one behind the other are cut into themselves
abbrev pub JoinedCut : Type 0
JoinedCut = (bs : List (List ℕ)) → AllWhole bs → cut (joined bs) ≡ record { packets = bs; tail = []; good = true }

-- the packet that is meant, its packet_id at this place of the list that start was given
abbrev pub meant : ℕ → Piece → Packet
meant place p =
    record {
      place = place;
      packet_id = p.unit.packet_id;
      psn = p.unit.psn;
      payload = record {
        kind = p.unit.kind;
        indicator = p.indicator;
        counter = p.counter;
        mpu = p.unit.mpu;
        aggregated = false;
        wide = false;
        start = 12 + payload_head_bytes p.unit.kind;
      };
    }

-- what a receiver of this CID and watch list reads of the TLV packet `b`: the packet that is meant, with its one data unit
pub record ReadAs (cid place : ℕ) (w : Watch) (p : Piece) (s b : List ℕ) : Type 0 where
  pub flow : flow_of b cid ≡ Mmtp 7
  pub reading : reading_of (drop 7 b) (lookup_of w) ≡ Good (meant place p)
  pub unit : pieces_of (drop 7 b) (meant place p).payload ≡ record { fields = p.unit.fields; bytes = s } ∷ []

abbrev pub PacketRead : Type 0
PacketRead =
    (cid sn place : ℕ) (w : Watch) (p : Piece) (s : List ℕ) → cid < 4096 → sn < 16 → Packable p.unit
    → counter_fits p.indicator p.counter ≡ true → length s ≤ 1400 → lookup_of w p.unit.packet_id ≡ Some place
    → ReadAs cid place w p s (packet_of cid sn p s)

-- packets of a unit of `n` pieces, from piece `i` on: each is read as its piece
abbrev pub AllRead : ℕ → ℕ → Watch → Unit → ℕ → ℕ → List (List ℕ) → List (List ℕ) → Type 0
AllRead cid place w u n i [] [] = Prim.Unit {0}
AllRead cid place w u n i [] (b ∷ bs) = ⊥
AllRead cid place w u n i (s ∷ ss) [] = ⊥
AllRead cid place w u n i (s ∷ ss) (b ∷ bs) =
    ReadAs cid place w (piece_at u n i (length s)) s b × AllRead cid place w u n (i + 1) ss bs

abbrev pub PacketsRead : Type 0
PacketsRead =
    (u : Unit) (cid sn m place : ℕ) (w : Watch) (s : List ℕ) → Packable u → cid < 4096 → 0 < m → m ≤ 1400
    → lookup_of w u.packet_id ≡ Some place
    → AllWhole (packets u cid sn m s) × AllShort (packets u cid sn m s)
    × AllRead cid place w u (length (pieces m s)) 0 (pieces m s) (packets u cid sn m s)
