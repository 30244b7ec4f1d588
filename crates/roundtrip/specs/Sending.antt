-- What is sent: units, packed one after another, with null packets in between; and document 01's conditions on them.
use Rattle.std.specs.Prelude.{ℕ, ◌≤◌, ◌<◌, ◌≡◌, Bool, true, false, List, [], ◌∷◌, ◌++◌, length, get_or, eqb, Some}
use Rattle.watch.specs.Given.{lookup_of}
use Rattle.tlv.specs.Packet.{max_packet}
use Rattle.reassembly.specs.declared.config.Config.{Config}
use Rattle.reassembly.specs.declared.unit.Unit.{Unit}
use Rattle.reassembly.specs.Run.{Content}
use Rattle.packer.specs.Pieces.{pieces, max_pieces, with_psn}
use Rattle.packer.specs.Packed.{Written}
use Rattle.packer.specs.Packer.{packets, joined, packed, pack_of}
use Rattle.packer.specs.Reads.{Packable, WholePacket}

-- a unit as the packer is given it: what it carries, with its first psn; its bytes; the first SN; the piece size m
pub record Parcel : Type 0 where
  pub unit : Unit
  pub bytes : List ℕ
  pub sn : ℕ
  pub m : ℕ

-- its TLV packets
abbrev pub parcel_packets : ℕ → Parcel → List (List ℕ)
parcel_packets cid x = packets x.unit cid x.sn x.m x.bytes

abbrev pub piece_count : Parcel → ℕ
piece_count x = length (pieces x.m x.bytes)

-- "each unit's packets before the next unit's"
unfoldable pub all_packets : ℕ → List Parcel → List (List ℕ)
all_packets cid [] = []
all_packets cid (x ∷ xs) = parcel_packets cid x ++ all_packets cid xs

-- a null packet: type 0xFF, a whole TLV packet with a good first byte, "at most 16,384 bytes with header"
pub record Null (b : List ℕ) : Type 0 where
  pub type : get_or b 1 0 ≡ 0xFF
  pub whole : WholePacket b
  pub short : length b ≤ max_packet

abbrev pub AllNull : List (List ℕ) → Type 0
AllNull [] = Prim.Unit {0}
AllNull (b ∷ bs) = Null b × AllNull bs

-- packets with null packets in between: gap i stands before packet i, one more behind the last; gaps that are missing are empty
unfoldable pub padded : List (List (List ℕ)) → List (List ℕ) → List (List ℕ)
padded [] qs = qs
padded (g ∷ gs) [] = g
padded (g ∷ gs) (q ∷ qs) = g ++ (q ∷ padded gs qs)

abbrev pub AllGaps : List (List (List ℕ)) → Type 0
AllGaps [] = Prim.Unit {0}
AllGaps (g ∷ gs) = AllNull g × AllGaps gs

-- a unit for this receiver: what the packer asks of a unit; "fields that a kind lacks 0"; its packet_id is watched; "joined units
-- at most R", while a unit of one piece may be longer
pub record Sendable (cfg : Config) (x : Parcel) : Type 0 where
  pub positive : 0 < x.m
  pub small : x.m ≤ 1400
  pub few : piece_count x ≤ max_pieces
  pub packable : Packable x.unit
  pub place : ℕ
  pub watched : lookup_of cfg.watch x.unit.packet_id ≡ Some place
  pub joins : 1 < piece_count x → length x.bytes ≤ cfg.rules.limit

abbrev pub AllSendable : Config → List Parcel → Type 0
AllSendable cfg [] = Prim.Unit {0}
AllSendable cfg (x ∷ xs) = Sendable cfg x × AllSendable cfg xs

abbrev pub if_so : Bool → Type 0 → Type 0 → Type 0
if_so true a b = a
if_so false a b = b

-- "psn consecutive per id": a unit follows the last one of its packet_id among those sent before it, the latest first
abbrev pub PsnFollows : List Parcel → Parcel → Type 0
PsnFollows [] x = Prim.Unit {0}
PsnFollows (y ∷ ys) x =
    if_so (eqb y.unit.packet_id x.unit.packet_id) (x.unit.psn ≡ (with_psn y.unit (piece_count y)).psn) (PsnFollows ys x)

abbrev pub Consecutive : List Parcel → List Parcel → Type 0
Consecutive sent [] = Prim.Unit {0}
Consecutive sent (x ∷ xs) = PsnFollows sent x × Consecutive (x ∷ sent) xs

-- what is to come back of a unit: packet_id, kind, first psn, MPU number, all fields, and the bytes
abbrev pub content_of : Parcel → Content
content_of x = record { info = x.unit; bytes = x.bytes }

-- the packer takes the unit, given output enough, and writes its packets one behind the other from byte 0 on
abbrev pub Packs : Config → Parcel → Type 0
Packs cfg x =
    (out : List ℕ) → let r = joined (parcel_packets cfg.cid x) in
    length r ≤ length out
    → pack_of x.unit cfg.cid x.sn x.m x.bytes out ≡ (Written (length r), packed r out)

abbrev pub AllPack : Config → List Parcel → Type 0
AllPack cfg [] = Prim.Unit {0}
AllPack cfg (x ∷ xs) = Packs cfg x × AllPack cfg xs
