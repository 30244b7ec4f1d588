-- The packer: a unit's packets one behind the other, or one of its refusals.
use Rattle.std.specs.Prelude.{ℕ, ◌+◌, ◌%◌, cond, List, [], ◌∷◌, ◌++◌, length, ◌==◌, nat_lt}
use Rattle.wire.specs.Memory.{pasted}
use Rattle.reassembly.specs.declared.unit.Unit.{Unit}
use Rattle.packer.specs.Packed.{Packed}
use Rattle.packer.specs.Packed.{Written, Refused}
use Rattle.packer.specs.Pieces.{pieces, max_pieces, piece_at}
use Rattle.packer.specs.Packet.{packet_of}

-- packet `i` of `n`; "SN (modulo 16) rising by one from the caller's"
unfoldable pub packet_at : Unit → ℕ → ℕ → ℕ → ℕ → List ℕ → List ℕ
packet_at u cid sn n i s = packet_of cid ((sn + i) % 16) (piece_at u n i (length s)) s

-- the packets of the pieces from `i` on
unfoldable pub packets_from : Unit → ℕ → ℕ → ℕ → ℕ → List (List ℕ) → List (List ℕ)
packets_from u cid sn n i [] = []
packets_from u cid sn n i (s ∷ rest) = packet_at u cid sn n i s ∷ packets_from u cid sn n (i + 1) rest

unfoldable pub packets : Unit → ℕ → ℕ → ℕ → List ℕ → List (List ℕ)
packets u cid sn m s = packets_from u cid sn (length (pieces m s)) 0 (pieces m s)

-- one behind the other
unfoldable pub joined : List (List ℕ) → List ℕ
joined [] = []
joined (p ∷ ps) = p ++ joined ps

unfoldable pub run : Unit → ℕ → ℕ → ℕ → List ℕ → List ℕ
run u cid sn m s = joined (packets u cid sn m s)

-- "70 piece size m not 1 to 1,400; 71 kind above 4"; 72 "above 65,535 pieces" (document 02, item 4); "73 output short; 74 CID above
-- 4,095", in this order: `n` pieces, a run of `len` bytes, an output of `room`
unfoldable pub pack_refusal : ℕ → ℕ → ℕ → ℕ → ℕ → ℕ → ℕ
pack_refusal m kind n len room cid =
    cond (m == 0) 70
    (cond (nat_lt 1400 m) 70 (cond (nat_lt 4 kind) 71 (cond (nat_lt max_pieces n) 72 (cond (nat_lt room len) 73 (cond (nat_lt 4095 cid) 74 0)))))

-- a run written "from output byte 0 on"
unfoldable pub packed : List ℕ → List ℕ → List ℕ
packed r out = pasted out 0 r (length r)

-- the answer, which "returns the length", and the output; "Refused calls return the number only"
unfoldable pub pack_of : Unit → ℕ → ℕ → ℕ → List ℕ → List ℕ → Packed × List ℕ
pack_of u cid sn m s out =
    let r = run u cid sn m s in
    let refusal = pack_refusal m u.kind (length (pieces m s)) (length r) (length out) cid in
    cond (refusal == 0) (Written (length r), packed r out) (Refused refusal, out)

-- document 01's number for each case; 0 for a unit that was packed
abbrev pub number_of : Packed → ℕ
number_of (Written len) = 0
number_of (Refused n) = n
