-- Why a run is cut into the packets that it was put together from: each of them, null packets too, is whole and short.
use Prim.Native.Nat.{ℕ, ◌*◌}
use mathlib.Core.Path.{◌≡◌}
use mathlib.Core.Bool.{true, false}
use mathlib.Core.List.{List, [], ◌∷◌, ◌++◌}
use lib.ListN.{length}
use Rattle.tlv.specs.Packet.{cut}
use Rattle.packer.specs.Packer.{joined}
use Rattle.packer.specs.Reads.{AllWhole, AllShort}
use Rattle.packer.proofs.Wholes.{joined-cut}
use Rattle.cutter.specs.Slot.{whole, unlisted}
use Rattle.cutter.specs.Claims.{Fills, AllShort as AllKept}
use Rattle.roundtrip.specs.Sending.{AllNull, AllGaps, padded}

-- packets as a receiver keeps them
abbrev pub Good : List (List ℕ) → Type 0
Good ps = AllWhole ps × AllShort ps

pub good-append : (ps qs : List (List ℕ)) → Good ps → Good qs → Good (ps ++ qs)
good-append [] qs p q = q
good-append (x ∷ ps) qs p q =
    let r = good-append ps qs (p.0.1, p.1.1) q in
    ((p.0.0, r.0), (p.1.0, r.1))

nulls_good : (g : List (List ℕ)) → AllNull g → Good g
nulls_good [] h = (tt, tt)
nulls_good (b ∷ g) h = let r = nulls_good g h.1 in ((h.0.whole, r.0), (h.0.short, r.1))

pub padded-good : (gs : List (List (List ℕ))) (qs : List (List ℕ)) → AllGaps gs → Good qs → Good (padded gs qs)
unfolding padded
padded-good [] qs h q = q
padded-good (g ∷ gs) [] h q = nulls_good g h.0
padded-good (g ∷ gs) (x ∷ qs) h q =
    let r = padded-good gs qs h.1 (q.0.1, q.1.1) in
    good-append g (x ∷ padded gs qs) (nulls_good g h.0) ((q.0.0, r.0), (q.1.0, r.1))

kept : (ps : List (List ℕ)) → AllShort ps → AllKept ps
kept [] h = tt
kept (p ∷ ps) h = (h.0, kept ps h.1)

module _ (ps : List (List ℕ)) (g : Good ps) where
  pub run-cut : (cut (joined ps)).packets ≡ ps
  run-cut = rw (joined-cut ps g.0)

  pub run-kept : AllKept (cut (joined ps)).packets
  run-kept = rw run-cut (kept ps g.1)

  run-whole : whole (joined ps) ≡ true
  unfolding whole
  run-whole = rw (joined-cut ps g.0)

  pub run_fills : (l n : ℕ) → unlisted l ≡ false → length (joined ps) ≡ n * l → Fills (joined ps) l n
  run_fills l n u e = record { packets = run-whole; listed = u; multiple = e }
