-- A packet is a whole TLV packet: its length field is the length of what follows.
use Rattle.std.proofs.Common.{◌≡◌, ℕ, ◌+◌, ◌*◌, ◌^◌, ◌<◌, ◌≤◌, true, List, [], ◌∷◌, ◌++◌, length, take, drop, sym, refl, ap, ◌∙◌, add-zero, mod-eq_of_lt, arith, drop_of_length-le, take_all, drop_at, le-leb}
use Rattle.wire.specs.Field.{be, bytes_of}
use Rattle.wire.proofs.FieldLaws.{be-drop, be-bytes}
use Rattle.tlv.specs.Packet.{good_first, total, marked, complete, cut}
use Rattle.tlv.proofs.CutsLaws.{cut-nil, cut-more, cut-append}
use Rattle.reassembly.specs.declared.join.Piece.{Piece}
use Rattle.packer.specs.Packet.{outer_head, mmtp_of, packet_of}
use Rattle.packer.specs.Packer.{joined}
use Rattle.packer.specs.Reads.{WholePacket, PacketWhole, JoinedCut}
use Rattle.packer.proofs.Lengths.{sizes, length_mmtp, length-packet}

-- a field behind `a`
pub be-behind : (n v : ℕ) (a rest : List ℕ) (at : ℕ) → length a ≡ at → v < 256 ^ n → be n (a ++ (bytes_of n v ++ rest)) at ≡ v
be-behind n v a rest at l h =
    let s = a ++ (bytes_of n v ++ rest) in
    let e : be n (drop at s) 0 ≡ be n s at = be-drop n at s 0 ∙ ap (be n s) (add-zero at) in
    sym e ∙ ap (λ (x : List ℕ). be n x 0) (drop_at a (bytes_of n v ++ rest) at l) ∙ be-bytes n v rest ∙ mod-eq_of_lt h

full : (b : List ℕ) → 4 ≤ length b → total b ≡ length b → complete b ≡ true
unfolding complete
full b h e = rw (e, le-leb 4 (length b) h, le-leb (length b) (length b) (omega arith))

module _ (cid sn : ℕ) (p : Piece) (s : List ℕ) where
  pub length-field : length s ≤ 1400 → be 2 (packet_of cid sn p s) 2 ≡ 3 + length (mmtp_of p s)
  unfolding packet_of outer_head bytes_of
  length-field h =
      let l = length_mmtp p s in
      let z = sizes p.unit.kind in
      let rest = bytes_of 2 (cid * 16 + sn) ++ (0x61 ∷ mmtp_of p s) in
      be-behind 2 (3 + length (mmtp_of p s)) (0x7F ∷ 3 ∷ []) rest 2 refl (omega arith)

  total-packet : length s ≤ 1400 → total (packet_of cid sn p s) ≡ length (packet_of cid sn p s)
  unfolding total
  total-packet h = omega (arith, length-field h, length-packet cid sn p s, length_mmtp p s, sizes p.unit.kind)

  first-marked : marked (packet_of cid sn p s) ≡ true
  unfolding packet_of outer_head marked good_first
  first-marked = refl

pub packet-whole : PacketWhole
packet-whole cid sn p s h =
    let t = total-packet cid sn p s h in
    let l : 4 ≤ length (packet_of cid sn p s) = omega (arith, length-packet cid sn p s, sizes p.unit.kind) in
    (first-marked cid sn p s, full (packet_of cid sn p s) l t, t)

-- cut one after another
cut-one : (b : List ℕ) → WholePacket b → cut b ≡ record { packets = b ∷ []; tail = []; good = true }
cut-one b w =
    let t : take (total b) b ≡ b = take_all (total b) b (omega (arith, w.2)) in
    let l : length b ≤ total b = omega (arith, w.2) in
    let d : drop (total b) b ≡ [] = drop_of_length-le b l in
    cut-more b w.1 ∙ rw (t, d, cut-nil, w.0) (unfold marked in refl)

pub joined-cut : JoinedCut
unfolding joined
joined-cut [] w = cut-nil ∙ unfold marked in refl
joined-cut (b ∷ bs) w =
    let e = cut-one b w.0 in
    let i = joined-cut bs w.1 in
    cut-append b (joined bs) (rw e) ∙ rw (e, i)
