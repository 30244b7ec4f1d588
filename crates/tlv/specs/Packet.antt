-- TLV packets in a list of bytes: the header, and the bytes cut into packets.
use Rattle.std.specs.Prelude.{ℕ, zero, suc, ◌+◌, ◌-◌, Bool, true, cond, ◌&&◌, List, [], ◌∷◌, length, take, drop, eqb, leb, ltb, Option, Some, None}
use Rattle.wire.specs.Field.{be}

-- a good first byte of a TLV header: "a header is good only if its first byte is 0x7F" (document 02, item 2)
unfoldable pub good_first : ℕ → Bool
good_first x = eqb x 0x7f

-- the bytes of the packet that begins `b`: its header of 4, and the 16-bit length of what follows
unfoldable pub total : List ℕ → ℕ
total b = 4 + be 2 b 2

-- the packet that begins `b` is complete in it
unfoldable pub complete : List ℕ → Bool
complete b = leb 4 (length b) && leb (total b) (length b)

-- the longest packet that is kept, its header included
abbrev pub max_packet : ℕ
max_packet = 16384

-- its known total is above that
unfoldable pub too_long : List ℕ → Bool
too_long b = leb 4 (length b) && ltb max_packet (total b)

-- the first byte of the packet that begins `b`, if there is one, is good
unfoldable pub marked : List ℕ → Bool
marked [] = true
marked (x ∷ b) = good_first x

-- bytes cut into packets: those that are complete, the rest, and whether each packet's first byte was good, the rest's too
pub record Cut : Type 0 where
  pub packets : List (List ℕ)
  pub tail : List ℕ
  pub good : Bool

-- no packet is complete in `b`
abbrev pub uncut : List ℕ → Cut
uncut b = record { packets = []; tail = b; good = marked b }

-- the packet that begins `b`, in front of what the bytes behind it are cut into
abbrev pub in_front : List ℕ → Cut → Cut
in_front b r = record { packets = take (total b) b ∷ r.packets; tail = r.tail; good = marked b && r.good }

-- `n` bounds the packets
unfoldable pub cut_by : ℕ → List ℕ → Cut
cut_by zero b = uncut b
cut_by (suc n) b = cond (complete b) (in_front b (cut_by n (drop (total b) b))) (uncut b)

unfoldable pub cut : List ℕ → Cut
cut b = cut_by (length b) b

-- what stands at a place of a slot
unfoldable pub packet_at : List ℕ → ℕ → Option ℕ
packet_at s at = cond (complete (drop at s)) (Some (at + total (drop at s))) None

-- where the walk from t comes to
unfoldable pub walk_of : List ℕ → ℕ → Option ℕ
walk_of s t = cond (cut (drop t s)).good (Some (length s - length (cut (drop t s)).tail)) None
