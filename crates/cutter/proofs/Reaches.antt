-- The packets up to the first that starts in or past a slot: they give the slot no top pointer, and where they end is known.
use Prim.Native.Nat.{ℕ, ◌+◌, ◌-◌, ◌≤◌, ◌<◌}
use mathlib.Core.Path.{◌≡◌, refl, sym, ◌∙◌, ap}
use mathlib.Core.Bool.{true, cond}
use mathlib.Core.List.{List, [], ◌∷◌, ◌++◌, append_assoc, append-nil}
use native.Mathlib.Nat.{zero-add}
use native.Mathlib.Omega.{arith}
use native.Mathlib.Decide.{dec_le}
use lib.ListN.{length, take, drop, length-append, take-append-drop}
use lib.Dec.{eqb, leb}
use borrow.Author.Tests.{le-leb, lt-leb, eq-eqb, ne_eqb}
use Rattle.wire.specs.Lists.{sift}
use Rattle.tlv.specs.Packet.{total, complete, cut}
use Rattle.tlv.proofs.CutsLaws.{row, cut-whole, cut-sized, cut-append}
use Rattle.tlv.specs.Slot.{none, last_pointer}
use Rattle.cutter.specs.Pointers.{starts, ends, in_slot}
use Rattle.cutter.proofs.Places.{in_before, in_past, in_there, last_from, starts-before, ends-before}
use Rattle.cutter.proofs.Places.{starts-behind, last-append, pointer-end}
use Rattle.cutter.proofs.Packets.{whole-complete}
use Rattle.cutter.proofs.Splits.{Whole, Split, joined_length, first-length, cut-first}
use Rattle.cutter.proofs.Splits.{whole-first, whole-rest, whole_append}

-- the packets of whole bytes are these bytes
pub whole_row : (b : List ℕ) → Whole b → row (cut b).packets ≡ b
whole_row b w = sym (append-nil (row (cut b).packets)) ∙ rw w.ended at (cut-whole b)

module _ (run : List ℕ) (from l : ℕ) where
  pub record Reach (sp : Split run from) : Type 0 where
    pub front : List ℕ
    pub back : List ℕ
    pub joined : front ++ back ≡ run
    pub first : Whole front
    pub rest : Whole back
    pub past : from ≤ length front
    -- the slot's first byte is a packet's first, or in the packet that ends there
    pub reaches : length front ≡ cond (eqb (length sp.before) from) from (length sp.before + total sp.after)
    pub unstarted : sift (in_slot from l) (starts 0 (cut front).packets) ≡ []
    pub ended : last_from from l none 0 (cut front).packets
        ≡ cond (leb (length front) (from + l)) (last_pointer (length front - from)) none

  module _ (sp : Split run from) (h : from + l ≤ length run) (p : 0 < l) where
    abbrev a : List ℕ
    a = sp.before

    abbrev r : List ℕ
    r = sp.after

    a-row : 0 + length (row (cut a).packets) ≡ length a
    a-row = zero-add (length (row (cut a).packets)) ∙ ap length (whole_row a sp.first)

    a-starts : sift (in_slot from l) (starts 0 (cut a).packets) ≡ []
    a-starts = starts-before from l 0 (cut a).packets (cut-sized a) (rw a-row sp.low)

    a-ends : last_from from l none 0 (cut a).packets ≡ none
    a-ends = rw (ends-before from l 0 (cut a).packets (cut-sized a) (rw a-row sp.low))

    at-start : length a ≡ from → Reach sp
    at-start e =
        record {
          front = a;
          back = r;
          joined = sp.joined;
          first = sp.first;
          rest = sp.rest;
          past = omega arith;
          reaches = rw (eq-eqb _ _ e) e;
          unstarted = a-starts;
          ended =
              let z : length a - from ≡ 0 = omega arith in
              a-ends ∙ rw (le-leb (length a) (from + l) (omega arith), z) (unfold last_pointer in refl);
        }

    -- the packet that goes over the slot's first byte
    module _ (k : length a < from) where
      goes : complete r ≡ true
      goes =
          let n = joined_length a r run sp.joined in
          whole-complete r sp.rest.ended (omega arith)

      abbrev q : List ℕ
      q = take (total r) r

      q-length : length q ≡ total r
      q-length = first-length r goes

      packets : (cut (a ++ q)).packets ≡ (cut a).packets ++ (q ∷ [])
      packets = rw (cut-append a q sp.first.ended, cut-first r goes)

      front_length : length (a ++ q) ≡ length a + total r
      front_length = rw (length-append, q-length)

      q-starts : sift (in_slot from l) (starts 0 (cut (a ++ q)).packets) ≡ []
      q-starts =
          rw packets
          (starts-behind from l 0 (cut a).packets (q ∷ []) a-starts
          ∙ rw a-row (unfold starts in rw (in_before from l (length a) k)))

      q-ends : (c : Dec (length (a ++ q) ≤ from + l)) → last_from from l none (length a) (q ∷ [])
          ≡ cond (leb (length (a ++ q)) (from + l)) (last_pointer (length (a ++ q) - from)) none
      unfolding ends
      q-ends (yes c) =
          rw (
            front_length,
            q-length,
            le-leb (length a + total r) (from + l) (omega (arith, front_length)),
            pointer-end (length a + total r - from) (omega (arith, sp.high)),
            in_there from l (length a + total r - 1) (omega (arith, sp.high)) (omega (arith, front_length, sp.high)),
          )
      q-ends (no c) =
          rw (
            front_length,
            q-length,
            lt-leb (length a + total r) (from + l) (omega (arith, front_length)),
            in_past from l (length a + total r - 1) (omega (arith, front_length)),
          )

      over-start : Reach sp
      over-start =
          record {
            front = a ++ q;
            back = drop (total r) r;
            joined = append_assoc a q (drop (total r) r) ∙ rw (take-append-drop (total r) r) sp.joined;
            first = whole_append a q sp.first (whole-first r goes sp.rest);
            rest = whole-rest r goes sp.rest;
            past = omega (arith, front_length, sp.high);
            reaches = rw (ne_eqb (length a) from (omega arith)) front_length;
            unstarted = q-starts;
            ended =
                rw packets
                (last-append from l none 0 (cut a).packets (q ∷ [])
                ∙ rw (a-ends, a-row) (q-ends (dec_le (length (a ++ q)) (from + l))));
          }

    pub reach : Reach sp
    reach = go (dec_le from (length a))
      where
        go : Dec (from ≤ length a) → Reach sp
        go (yes k) = at-start (omega (arith, sp.low))
        go (no k) = over-start (omega arith)
