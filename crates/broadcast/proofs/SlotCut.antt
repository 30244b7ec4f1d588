-- What is read of a slot from the cursor on, by the cut of its bytes: as a slot over lists reads it.
use Prim.Native.Nat.{ℕ, ◌-◌, ◌≤◌}
use mathlib.Core.Path.{◌≡◌, refl, sym, ◌∙◌}
use mathlib.Core.Bool.{Bool, true, false, cond}
use mathlib.Core.List.{List, [], ◌∷◌, ◌++◌, map, map-map, map-append}
use native.Mathlib.Omega.{arith}
use lib.ListN.{length, drop}
use Rattle.wire.specs.Memory.{part_of}
use Rattle.tlv.specs.declared.note.SlotNote.TheVariants.{TooLong}
use Rattle.tlv.specs.Notes.{number_of}
use Rattle.tlv.specs.Packet.{too_long, Cut, cut}
use Rattle.tlv.specs.Run.{packet_of, after, Stepped, kept}
use Rattle.intake.specs.declared.held.Cursor.{Cursor}
use Rattle.intake.specs.declared.held.Held.{Held}
use Rattle.intake.specs.Slot.{searching, holding, slot_area}
use Rattle.broadcast.specs.Drains.{HeldIs}
use Rattle.broadcast.specs.Pending.{Found, slot-notes, a-packet, bare, slot_up_to, tail_of, tail_held, held_after}
use Rattle.broadcast.specs.SlotClaims.{Short}

-- what is read of a slot, and what is left held, by the cut of its bytes
abbrev pub cut_gives : Cut → List Found
cut_gives r = map a-packet r.packets ++ cond (too_long r.tail) (slot-notes (number_of TooLong) ∷ []) []

abbrev pub tail_left : Bool → ℕ → ℕ → Held
tail_left true end n = searching
tail_left false end n = holding (end - n) n

abbrev pub cut_leaves : ℕ → Cut → Held
cut_leaves end r = tail_left (too_long r.tail) end (length r.tail)

pub leaves-cut : (c : Cursor) (h : Held) (p : List ℕ)
    → held_after true c h p ≡ cut_leaves c.end (cut (drop c.at (slot_up_to c p)))
leaves-cut c h p = go (too_long (tail_of c p))
  where
    go : (l : Bool) → tail_held l c p ≡ tail_left l c.end (length (tail_of c p))
    go true = refl
    go false = refl

-- the packets of a cut, and what is kept of its tail
module _ {A : Type 0} (a : A) where
  abbrev pub cut_step : Cut → Stepped A
  cut_step r = after (map (packet_of (a ∷ [])) r.packets) (kept (too_long r.tail) a r.tail)

  bare-packets : (ps : List (List ℕ)) → map bare (map (packet_of (a ∷ [])) ps) ≡ map a-packet ps
  bare-packets ps = map-map bare (packet_of (a ∷ [])) ps

  bare-tail : (l : Bool) (b : List ℕ) → map bare (kept l a b).events ≡ cond l (slot-notes (number_of TooLong) ∷ []) []
  unfolding kept
  bare-tail true b = refl
  bare-tail false b = refl

  pub cut-gives : (r : Cut) → cut_gives r ≡ map bare (cut_step r).events
  cut-gives r =
      sym
      (map-append bare (map (packet_of (a ∷ [])) r.packets) (kept (too_long r.tail) a r.tail).events
      ∙ rw (bare-packets r.packets, bare-tail (too_long r.tail) r.tail))

  pub cut-leaves : (r : Cut) (end : ℕ) (q : List ℕ) → length r.tail ≤ end → end ≤ length q
      → part_of q (end - length r.tail) (length r.tail) ≡ r.tail → HeldIs (cut_leaves end r) q (cut_step r).state
  unfolding kept
  cut-leaves r end q l m e = go (too_long r.tail)
    where
      go : (b : Bool) → HeldIs (tail_left b end (length r.tail)) q (kept b a r.tail).state
      go true = refl
      go false = (refl, omega arith, e)

  pub cut_short : (r : Cut) → length r.tail ≤ slot_area → Short (cut_step r).state
  unfolding kept
  cut_short r l = go (too_long r.tail)
    where
      go : (b : Bool) → Short (kept b a r.tail).state
      go true = tt
      go false = omega arith
