-- A run of whole packets in two parts, split at the start of the packet that goes over a place.
use Prim.Native.Nat.{ℕ, zero, suc, ◌+◌, ◌-◌, ◌≤◌, ◌<◌}
use mathlib.Core.Path.{◌≡◌, refl, sym, ◌∙◌, ap}
use mathlib.Core.Bool.{Bool, true, false, and-eq-true_iff, and-true}
use mathlib.Core.List.{List, [], ◌∷◌, ◌++◌, append_assoc, append-nil}
use native.Mathlib.Omega.{arith}
use native.Mathlib.Decide.{dec_le}
use lib.ListN.{length, take, drop, length-append, length-take, length-drop, take-append-drop}
use lib.Seq.{length-take-le, take-length, drop-length, take-append-add}
use Rattle.tlv.specs.Packet.{total, complete, marked, cut}
use Rattle.tlv.proofs.CutsLaws.{total-bytes, total-take, marked_append, complete-fits, complete_if, short-header, short-packet}
use Rattle.tlv.proofs.CutsLaws.{cut_induct, cut-end, cut-more, cut-nil, cut-append}

-- whole packets, each with a good first byte
pub record Whole (b : List ℕ) : Type 0 where
  pub ended : (cut b).tail ≡ []
  pub good : (cut b).good ≡ true

pub whole-nil : Whole []
whole-nil = record { ended = rw cut-nil; good = rw cut-nil (unfold marked in refl) }

-- bytes in two parts
pub joined_length : (a b c : List ℕ) → a ++ b ≡ c → length a + length b ≡ length c
joined_length a b c e = sym (length-append a b) ∙ ap length e

-- one packet, and the packets behind it
module _ (b : List ℕ) (c : complete b ≡ true) where
  fits : (4 ≤ total b) × (total b ≤ length b)
  fits = complete-fits b c

  pub first-length : length (take (total b) b) ≡ total b
  first-length = length-take-le (total b) b fits.1

  pub cut-first : cut (take (total b) b) ≡ record { packets = take (total b) b ∷ []; tail = []; good = marked b }
  cut-first =
      let p : List ℕ = take (total b) b in
      let t : total p ≡ length p = total-take (total b) b fits.0 ∙ sym first-length in
      let m : marked p ≡ marked b =
      sym (marked_append p (drop (total b) b) (omega (arith, first-length, fits.0)))
      ∙ ap marked (take-append-drop (total b) b) in
      let d : complete p ≡ true = complete_if p (omega (arith, first-length, fits.0)) (omega arith) in
      cut-more p d ∙ rw (t, take-length p, drop-length p, cut-nil, m) (unfold marked in rw (and-true (marked b)))

  goods : Whole b → (marked b ≡ true) × ((cut (drop (total b) b)).good ≡ true)
  goods w = (and-eq-true_iff (marked b) (cut (drop (total b) b)).good).0 (rw (cut-more b c) at w.good)

  pub whole-first : Whole b → Whole (take (total b) b)
  whole-first w = record { ended = rw cut-first; good = rw cut-first (goods w).0 }

  pub whole-rest : Whole b → Whole (drop (total b) b)
  whole-rest w = record { ended = rw (cut-more b c) at w.ended; good = (goods w).1 }

pub whole_append : (a b : List ℕ) → Whole a → Whole b → Whole (a ++ b)
whole_append a b v w =
    let e = cut-append a b v.ended in
    record { ended = rw e w.ended; good = rw (e, v.good) w.good }

pub joined-packets : (a b c : List ℕ) → Whole a → a ++ b ≡ c → (cut c).packets ≡ (cut a).packets ++ (cut b).packets
joined-packets a b c w e = ap (λ (d : List ℕ). (cut d).packets) (sym e) ∙ rw (cut-append a b w.ended)

-- `before` ends where the packet starts that goes over byte n, or there if it is a packet's first
pub record Split (b : List ℕ) (n : ℕ) : Type 0 where
  pub before : List ℕ
  pub after : List ℕ
  pub joined : before ++ after ≡ b
  pub first : Whole before
  pub rest : Whole after
  pub low : length before ≤ n
  pub high : n < length before + total after

pub split : (b : List ℕ) → Whole b → (n : ℕ) → n ≤ length b → Split b n
split = cut_induct (λ (b : List ℕ). Whole b → (n : ℕ) → n ≤ length b → Split b n) end more
  where
    end : (b : List ℕ) → complete b ≡ false → Whole b → (n : ℕ) → n ≤ length b → Split b n
    end b c w n h =
        let e : b ≡ [] = rw (cut-end b c) at w.ended in
        let z : length b ≡ 0 = ap length e in
        record {
          before = [];
          after = b;
          joined = refl;
          first = whole-nil;
          rest = w;
          low = omega arith;
          high = omega (arith, total-bytes b);
        }

    more : (b : List ℕ) → complete b ≡ true
        → (Whole (drop (total b) b) → (n : ℕ) → n ≤ length (drop (total b) b) → Split (drop (total b) b) n)
        → Whole b → (n : ℕ) → n ≤ length b → Split b n
    more b c ih w n h = go (dec_le (total b) n)
      where
        go : Dec (total b ≤ n) → Split b n
        go (no k) =
            record { before = []; after = b; joined = refl; first = whole-nil; rest = w; low = omega arith; high = omega arith }
        go (yes k) =
            let sp = ih (whole-rest b c w) (n - total b) (rw length-drop (omega arith)) in
            let p : List ℕ = take (total b) b in
            let e : length (p ++ sp.before) ≡ total b + length sp.before = rw (length-append, first-length b c) in
            record {
              before = p ++ sp.before;
              after = sp.after;
              joined = append_assoc p sp.before sp.after ∙ rw sp.joined (take-append-drop (total b) b);
              first = whole_append p sp.before (whole-first b c w) sp.first;
              rest = sp.rest;
              low = omega (arith, sp.low);
              high = omega (arith, sp.high);
            }

-- bytes that a packet begins and does not end
pub open_take : (m : ℕ) (b : List ℕ) → m < total b → complete (take m b) ≡ false
open_take m b h = go (dec_le 4 (length (take m b)))
  where
    most : length (take m b) ≤ m
    most = omega (arith, length-take m b)

    go : Dec (4 ≤ length (take m b)) → complete (take m b) ≡ false
    go (yes f) = short-packet (take m b) f (rw (total-take m b (omega (arith, most))) (omega (arith, most)))
    go (no f) = short-header (take m b) (omega arith)

whole-marked : (b : List ℕ) → Whole b → marked b ≡ true
whole-marked b w = go (complete b) refl
  where
    go : (c : Bool) → complete b ≡ c → marked b ≡ true
    go true e = (goods b e w).0
    go false e = rw (cut-end b e) at w.good

marked-take : (m : ℕ) (b : List ℕ) → marked b ≡ true → marked (take m b) ≡ true
unfolding marked
marked-take zero b h = refl
marked-take (suc m) [] h = refl
marked-take (suc m) (x ∷ b) h = h

-- whole packets up to a place: those before the packet that goes over it, and its beginning
module _ (b : List ℕ) (n : ℕ) (sp : Split b n) where
  unfoldable pub begun : List ℕ
  begun = take (n - length sp.before) sp.after

  pub take_split : take n b ≡ sp.before ++ begun
  unfolding begun
  take_split =
      let a : List ℕ = sp.before in
      let e : n ≡ length a + (n - length a) = omega (arith, sp.low) in
      ap (take n) (sym sp.joined)
      ∙ ap (λ (k : ℕ). take k (a ++ sp.after)) e
      ∙ take-append-add a sp.after (n - length a)

  begun_open : complete begun ≡ false
  unfolding begun
  begun_open = open_take (n - length sp.before) sp.after (omega (arith, sp.low, sp.high))

  begun-marked : marked begun ≡ true
  unfolding begun
  begun-marked = marked-take (n - length sp.before) sp.after (whole-marked sp.after sp.rest)

  pub cut-split : cut (take n b) ≡ record { packets = (cut sp.before).packets; tail = begun; good = true }
  cut-split =
      rw (take_split, cut-append sp.before begun sp.first.ended, cut-end begun begun_open, begun-marked, sp.first.good)
      (rw (append-nil (cut sp.before).packets))

  pub begun-length : n ≤ length b → length begun ≡ n - length sp.before
  unfolding begun
  begun-length h =
      let e = joined_length sp.before sp.after b sp.joined in
      length-take-le (n - length sp.before) sp.after (omega arith)
