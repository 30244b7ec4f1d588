-- A unit's run, packet by packet.
use Rattle.std.proofs.Common.{◌≡◌, ℕ, ◌+◌, ◌*◌, ◌%◌, ◌<◌, ◌≤◌, List, [], ◌∷◌, ◌++◌, length, take, drop, sym, refl, ap, ◌∙◌, suc-mul, zero-mul, add-one, arith, length-append, drop-cons}
use lib.Seq.{drop-length}
use Rattle.reassembly.specs.declared.unit.Unit.{Unit}
use Rattle.packer.specs.Pieces.{pieces, piece_at, with_psn}
use Rattle.packer.specs.declared.pack.Plan.{Plan}
use Rattle.packer.specs.Packer.{packet_at, packets_from, packets, joined, run}
use Rattle.packer.specs.Writing.{head_bytes, Planned, planned}
use Rattle.packer.proofs.Lengths.{length-packet}
use Rattle.packer.proofs.Pieces.{count-pieces, piece_is, joined-pieces}

module _ (u : Unit) (cid sn : ℕ) where
  pub length-packet-at : (n i : ℕ) (s : List ℕ) → length (packet_at u cid sn n i s) ≡ head_bytes u.kind + length s
  unfolding packet_at piece_at with_psn
  length-packet-at n i s = length-packet cid ((sn + i) % 16) (piece_at u n i (length s)) s

  length_from : (n i : ℕ) (ps : List (List ℕ))
      → length (joined (packets_from u cid sn n i ps)) ≡ length ps * head_bytes u.kind + length (joined ps)
  unfolding packets_from joined
  length_from n i [] = rw zero-mul
  length_from n i (s ∷ ps) =
      let t = length_from n (i + 1) ps in
      rw (length-append (packet_at u cid sn n i s), length-packet-at, t, length-append s (joined ps), suc-mul) (omega arith)

  module _ (m : ℕ) (s : List ℕ) where
    -- a head for each piece, and the unit
    pub length_run : length (run u cid sn m s) ≡ length (pieces m s) * head_bytes u.kind + length s
    unfolding run packets
    length_run = rw (length_from, joined-pieces)

    -- what is to be written from packet `i` on
    unfoldable pub rest : ℕ → List ℕ
    rest i = joined (packets_from u cid sn (length (pieces m s)) i (drop i (pieces m s)))

    pub rest_all : rest 0 ≡ run u cid sn m s
    unfolding rest run packets
    rest_all = refl

    pub rest-none : rest (length (pieces m s)) ≡ []
    unfolding rest packets_from joined
    rest-none = rw drop-length

    pub rest-step : (i : ℕ) → 0 < m → i < length (pieces m s)
        → rest i ≡ packet_at u cid sn (length (pieces m s)) i (take m (drop (i * m) s)) ++ rest (i + 1)
    unfolding rest packets_from joined
    rest-step i o h =
        let d : drop i (pieces m s) ≡ take m (drop (i * m) s) ∷ drop (i + 1) (pieces m s) =
        rw (drop-cons (pieces m s) i [] h, piece_is m s i o h, add-one) in
        rw d

-- what is left of a plan before packet `i`
abbrev pub left : Plan → List ℕ → ℕ → List ℕ
left p s i = rest p.unit p.cid p.sn p.m s i

module _ (p : Plan) (s : List ℕ) (room : ℕ) (w : Planned p (length s) room) where
  planned-count : p.n ≡ length (pieces p.m s)
  planned-count = w.counted ∙ sym (count-pieces p.m s)

  pub left-fits : length (left p s 0) ≤ room
  left-fits =
      rw (rest_all p.unit p.cid p.sn p.m s, length_run p.unit p.cid p.sn p.m s, ← planned-count) w.fits

  pub left-none : left p s p.n ≡ []
  left-none = rw planned-count (rest-none p.unit p.cid p.sn p.m s)

  pub left_step : (i : ℕ) → i < p.n → left p s i ≡ planned p i s ++ left p s (i + 1)
  left_step i h =
      rw planned-count (rest-step p.unit p.cid p.sn p.m s i w.positive (omega (arith, planned-count)))

  pub left-length : (i : ℕ) → i < p.n → length (left p s i) ≡ length (planned p i s) + length (left p s (i + 1))
  left-length i h = ap length (left_step i h) ∙ length-append (planned p i s) (left p s (i + 1))
