-- A packet has no more events than two notes and a unit for each byte.
use Prim.Native.Nat.{ℕ, zero, suc, ◌+◌, ◌≤◌}
use mathlib.Core.Path.{◌≡◌, refl}
use mathlib.Core.Bool.{Bool, true, false, cond}
use mathlib.Core.List.{List, [], ◌∷◌, ◌++◌}
use native.Mathlib.Omega.{arith}
use borrow.Author.Tests.{eqb-false}
use lib.Dec.{eqb}
use lib.ListN.{length, drop, length-drop, length-append, length-map}
use Rattle.watch.specs.Given.{lookup_of}
use Rattle.mmtp.specs.Flow.{Flow, Silent as OtherFlow, Noted as NotedFlow, Mmtp, flow_of}
use Rattle.mmtp.specs.Packet.{Reading, Silent as Unwatched, Noted as NotedPacket, Good as GoodPacket, reading_of}
use Rattle.mmtp.specs.declared.payload.Payload.{Payload}
use Rattle.mmtp.proofs.FlowLaws.{mmtp_place}
use Rattle.mmtp.specs.Payload.{pieces_of}
use Rattle.mmtp.proofs.PayloadLaws.{pieces_single, pieces_aggregated}
use Rattle.mmtp.specs.Unit.{Aggregate, all_read, unit_fits, unit_then, unit_length, after_unit, aggregate_by, aggregate, length_bytes}
use Rattle.mmtp.proofs.UnitLaws.{length-bytes_pos}
use Rattle.reassembly.specs.declared.config.Rules.{Rules}
use Rattle.reassembly.specs.declared.config.Config.{Config}
use Rattle.reassembly.specs.declared.join.Action.{Action}
use Rattle.reassembly.specs.declared.join.Action.TheVariants.{Nothing, Whole as GiveWhole, Store, Complete}
use Rattle.reassembly.specs.Joined.{Joined}
use Rattle.reassembly.specs.declared.note.JoinNote.TheVariants.{AboveLimit}
use Rattle.reassembly.specs.Notes.{number_of}
use Rattle.reassembly.specs.Join.{notes_of, join_of}
use Rattle.reassembly.specs.Run.{Input, Lane, given, lane_after, step}
use Rattle.broadcast.specs.Account.{input_from, read_of, after_read, read_by, flow_by}
use Rattle.broadcast.specs.PacketClaims.{FewEvents}

-- each unit of an aggregate takes a byte at least
unit-count : (b : List ℕ) (kind : ℕ) (wide : Bool) (r : Aggregate) (t : Bool) → unit_fits b kind wide ≡ t
    → length (unit_then b kind wide r).pieces ≤ suc (length r.pieces)
unfolding unit_then
unit-count b kind wide r true e = rw e (omega arith)
unit-count b kind wide r false e = rw e (omega arith)

-- an aggregate, by that of what follows its first unit
count-step : (b : List ℕ) (kind : ℕ) (wide : Bool) (r : Aggregate) → length r.pieces ≤ length (after_unit wide b)
    → (t : Bool) → eqb (length b) 0 ≡ t → length (cond t all_read (unit_then b kind wide r)).pieces ≤ length b
count-step b kind wide r i true e = omega arith
count-step b kind wide r i false e =
    let z = eqb-false (length b) 0 e in
    let u = unit-count b kind wide r (unit_fits b kind wide) refl in
    let d = length-drop (length_bytes wide + unit_length wide b) b in
    let w = length-bytes_pos wide in
    omega arith

aggregate-count : (n : ℕ) (b : List ℕ) (kind : ℕ) (wide : Bool) → length (aggregate_by n b kind wide).pieces ≤ length b
unfolding aggregate_by
aggregate-count zero b kind wide = omega arith
aggregate-count (suc n) b kind wide =
    let c = after_unit wide b in
    count-step b kind wide (aggregate_by n c kind wide) (aggregate-count n c kind wide) (eqb (length b) 0) refl

pieces-count : (m : List ℕ) (y : Payload) (t : Bool) → y.aggregated ≡ t → length (pieces_of m y) ≤ suc (length m)
unfolding aggregate
pieces-count m y true e =
    let a = drop y.start m in
    let i = aggregate-count (length a) a y.kind y.wide in
    rw (pieces_aggregated m y e) (omega (arith, length-drop y.start m))
pieces-count m y false e = rw (pieces_single m y e) (omega arith)

notes-count : (j : Joined) → length (notes_of j) ≤ 2
unfolding notes_of
notes-count j = go (eqb j.note 0) j.over
  where
    go : (t v : Bool) → length (cond t [] (j.note ∷ []) ++ cond v (number_of AboveLimit ∷ []) []) ≤ 2
    go true true = omega arith
    go true false = omega arith
    go false true = omega arith
    go false false = omega arith

module _ {A : Type 0} (x : Input) (a : A) (l : Lane A) (n : ℕ) (h : length x.wholes ≤ n) (z : 1 ≤ n) where
  given-count : (k : Action) → length (given k a x l) ≤ n
  given-count Nothing = omega arith
  given-count GiveWhole = rw length-map h
  given-count (Store at) = omega arith
  given-count (Complete at) = z

step_count : {A : Type 0} (rules : Rules) (l : Lane A) (a : A) (x : Input) (n : ℕ) → length x.wholes ≤ n → 1 ≤ n
    → length (step rules l a x).events ≤ n + 2
unfolding step
step_count rules l a x n h z =
    let j = join_of l.channel x.piece rules in
    let m = lane_after l a x j in
    let i = notes-count j in
    let g = given-count x a m n h z j.action in
    rw (length-append, length-map) (omega arith)

module _ {A : Type 0} (cfg : Config) (f : ℕ → Lane A) (a : A) where
  read_count : (m : List ℕ) (r : Reading) → length (after_read cfg (read_by r m) f a).events ≤ suc (length m) + 2
  read_count m Unwatched = omega arith
  read_count m (NotedPacket n id) = omega arith
  read_count m (GoodPacket k) =
      let us = pieces_of m k.payload in
      let x = input_from k us in
      let c = pieces-count m k.payload k.payload.aggregated refl in
      step_count cfg.rules (f k.place) a x (suc (length m)) (rw length-map c) (omega arith)

  flow-count : (b : List ℕ) (fl : Flow) → flow_of b cfg.cid ≡ fl
      → length (after_read cfg (flow_by fl cfg b) f a).events ≤ length b + 2
  flow-count b OtherFlow e = omega arith
  flow-count b (NotedFlow n) e = omega arith
  flow-count b (Mmtp n) e =
      let i = mmtp_place b cfg.cid n e in
      let r = read_count (drop n b) (reading_of (drop n b) (lookup_of cfg.watch)) in
      omega (arith, length-drop n b, i.1, i.2)

pub few-events : FewEvents
unfolding read_of
few-events A cfg b f a = flow-count cfg f a b (flow_of b cfg.cid) refl
