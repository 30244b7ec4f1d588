-- A packet that was read, where it stands in packet memory: its piece and its units are those of the account.
use Prim.Native.Nat.{ℕ, ◌≤◌}
use mathlib.Core.Path.{◌≡◌, refl, sym, ◌∙◌, ap}
use mathlib.Core.Bool.{Bool, true, false, cond}
use mathlib.Core.List.{List, [], ◌∷◌, map}
use native.Mathlib.Omega.{arith}
use lib.ListN.{length, drop, length-drop}
use lib.Seq.{length-take-le}
use Rattle.mmtp.specs.declared.packet.Packet.{Packet}
use Rattle.mmtp.specs.declared.payload.Payload.{Payload}
use Rattle.mmtp.specs.declared.unit.DataUnit.{DataUnit}
use Rattle.mmtp.specs.Payload.{units_fit, pieces_of}
use Rattle.mmtp.proofs.PayloadLaws.{units_single, units_aggregated, pieces_single, pieces_aggregated}
use Rattle.mmtp.specs.Unit.{Piece, piece_at, single_unit, aggregate}
use Rattle.mmtp.proofs.UnitLaws.{single_next, aggregate-fits}
use Rattle.reassembly.specs.declared.join.Piece.{Piece as JoinPiece}
use Rattle.reassembly.specs.Unit.{carried}
use Rattle.reassembly.specs.Run.{Input, labelled}
use Rattle.queue.specs.declared.located.Located.{Located}
use Rattle.delivery.specs.Packet.{bytes_at, first_unit, unit_in, piece_from, wholes_of}
use Rattle.queue.specs.Located.{unit_len}
use Rattle.receiver.specs.Show.{show_of}
use Rattle.broadcast.specs.Account.{no_piece, first_or, piece_of as joinPieceOf, content_of, input_from}
use Rattle.broadcast.specs.Drains.{Shown, unit, strip}
use Rattle.broadcast.specs.Pending.{give_pending}
use Rattle.broadcast.specs.PacketClaims.{GiveGood}
use Rattle.broadcast.proofs.QueueTakes.{show-unit}

-- the data unit lies in the packet, and is the account's piece; an aggregate has none, and an empty piece
pub record UnitIs (m : List ℕ) (y : Payload) (u : DataUnit) : Type 0 where
  pub piece : cond y.aggregated no_piece (first_or no_piece (pieces_of m y)) ≡ piece_at m u
  pub ordered : u.start ≤ u.end
  pub within : u.end ≤ length m

module _ (m : List ℕ) (y : Payload) (h : units_fit m y ≡ true) where
  first_single : y.aggregated ≡ false → first_unit m y ≡ single_unit m y.start y.kind
  unfolding first_unit
  first_single e =
      let s = single_next m y.start y.kind (sym (units_single m y e) ∙ h) in
      rw (e, s.unit)

  single_piece : y.aggregated ≡ false → pieces_of m y ≡ piece_at m (first_unit m y) ∷ []
  single_piece e =
      let s = single_next m y.start y.kind (sym (units_single m y e) ∙ h) in
      pieces_single m y e ∙ ap (λ (x : Piece). x ∷ []) (sym s.piece ∙ ap (piece_at m) (sym (first_single e)))

  first_by : (t : Bool) → y.aggregated ≡ t → UnitIs m y (first_unit m y)
  unfolding first_unit piece_at
  first_by true e = record { piece = rw e; ordered = rw e (omega arith); within = rw e (omega arith) }
  first_by false e =
      let s = single_next m y.start y.kind (sym (units_single m y e) ∙ h) in
      let u = first_single e in
      record {
        piece = ap (λ (t : Bool). cond t no_piece (first_or no_piece (pieces_of m y))) e ∙ ap (first_or no_piece) (single_piece e);
        ordered = rw u s.ordered;
        within = rw u s.within;
      }

  pub first-is : UnitIs m y (first_unit m y)
  first-is = first_by y.aggregated refl

-- the input that the packet stands for
abbrev pub input_at : Located → List ℕ → Input
input_at l p =
    record {
      place = l.packet.place;
      piece = piece_from l.packet (unit_in l p);
      bytes = (piece_at (bytes_at l p) (unit_in l p)).bytes;
      wholes = map (content_of l.packet) (pieces_of (bytes_at l p) l.packet.payload);
    }

module _ (l : Located) (p : List ℕ) (h : units_fit (bytes_at l p) l.packet.payload ≡ true) where
  pub unit-is : UnitIs (bytes_at l p) l.packet.payload (unit_in l p)
  unit-is = first-is (bytes_at l p) l.packet.payload h

  pub length-piece : length (piece_at (bytes_at l p) (unit_in l p)).bytes ≡ unit_len (unit_in l p)
  unfolding piece_at
  length-piece =
      let u = unit_in l p in
      let i = unit-is in
      let d = length-drop u.start (bytes_at l p) in
      length-take-le (unit_len u) (drop u.start (bytes_at l p)) (omega (arith, i.ordered, i.within))

  pub input-at : input_from l.packet (pieces_of (bytes_at l p) l.packet.payload) ≡ input_at l p
  unfolding piece_at
  input-at =
      let k = l.packet in
      let u = unit_in l p in
      let ws = map (content_of k) (pieces_of (bytes_at l p) k.payload) in
      let bs = (piece_at (bytes_at l p) u).bytes in
      ap (λ (y : Piece). record { place = k.place; piece = joinPieceOf k y; bytes = y.bytes; wholes = ws }) unit-is.piece
      ∙ ap (λ (n : ℕ). record { place = k.place; piece = piece k u n; bytes = bs; wholes = ws }) length-piece
    where
      piece : Packet → DataUnit → ℕ → JoinPiece
      piece k u n =
          record { unit = carried k u.fields; indicator = k.payload.indicator; counter = k.payload.counter; len = n }

-- units of the account without their labels
strip-units : {A : Type 0} (ls : List A) (k : Packet) (ps : List Piece)
    → map (λ (x : Piece). unit (record { info = carried k x.fields; bytes = x.bytes })) ps
    ≡ map strip (map (labelled ls) (map (content_of k) ps))
strip-units ls k [] = refl
strip-units ls k (x ∷ ps) =
    ap (λ (es : List Shown). unit (record { info = carried k x.fields; bytes = x.bytes }) ∷ es) (strip-units ls k ps)

module _ {A : Type 0} (l : Located) (p : List ℕ) (h : units_fit (bytes_at l p) l.packet.payload ≡ true) (ls : List A) where
  abbrev y : Payload
  y = l.packet.payload

  abbrev m : List ℕ
  m = bytes_at l p

  wholes-by : (t : Bool) → l.packet.payload.aggregated ≡ t → (c : List ℕ)
      → give_pending (wholes_of t l (unit_in l p)) p c ≡ map strip (map (labelled ls) (map (content_of l.packet) (pieces_of m y)))
  unfolding show_of piece_at
  wholes-by true e c =
      rw (pieces_aggregated m y e) (strip-units ls l.packet (aggregate (drop y.start m) y.kind y.wide).pieces)
  wholes-by false e c =
      let i = unit-is l p h in
      let u = unit_in l p in
      rw (single_piece m y h e, show-unit p l.start l.end u i.ordered i.within)

  -- its units, as next gives them
  pub wholes_are : (c : List ℕ)
      → give_pending (wholes_of y.aggregated l (unit_in l p)) p c ≡ map strip (map (labelled ls) (input_at l p).wholes)
  wholes_are c = wholes-by y.aggregated refl c

good-by : (l : Located) (p : List ℕ) → units_fit (bytes_at l p) l.packet.payload ≡ true
    → (t : Bool) → l.packet.payload.aggregated ≡ t → GiveGood (wholes_of t l (unit_in l p)) p
good-by l p h true e =
    let y = l.packet.payload in
    let m = bytes_at l p in
    (aggregate-fits (drop y.start m) y.kind y.wide (sym (units_aggregated m y e) ∙ h)).1
good-by l p h false e = tt

pub wholes-good : (l : Located) (p : List ℕ) → units_fit (bytes_at l p) l.packet.payload ≡ true
    → GiveGood (wholes_of l.packet.payload.aggregated l (unit_in l p)) p
wholes-good l p h = good-by l p h l.packet.payload.aggregated refl
