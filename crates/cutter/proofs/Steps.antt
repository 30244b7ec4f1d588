-- What a cut slot does to the slot machine that holds the run so far: no note, and it then holds the run up to the slot's end.
use Prim.Native.Nat.{ℕ, ◌+◌, ◌-◌, ◌≤◌, ◌<◌}
use mathlib.Core.Path.{◌≡◌, refl, sym, ◌∙◌, ap}
use mathlib.Core.Bool.{true, false, ◌&&◌}
use mathlib.Core.List.{List, [], ◌∷◌, ◌++◌, append_assoc, map}
use native.Mathlib.Omega.{arith}
use native.Mathlib.Decide.{dec_le}
use lib.ListN.{length, take, drop, length-append, length-take}
use lib.Seq.{take-add, drop-append-add}
use lib.Dec.{eqb, leb, ltb}
use borrow.Author.Tests.{eq-eqb, ne_eqb, le-ltb, le-leb, lt-leb, eqb-false}
use Rattle.tlv.specs.declared.held.Continuation.TheVariants.{Ends, GoesOn}
use Rattle.tlv.specs.Packet.{total, max_packet, too_long, cut}
use Rattle.tlv.proofs.CutsLaws.{total-bytes, total-take, cut-more}
use Rattle.tlv.specs.Slot.{none, sound}
use Rattle.tlv.specs.Held.{held_total, held_end, end_within, end_beyond, continuation_of}
use Rattle.tlv.proofs.HeldLaws.{nothing-held, held-without-top, held-before-top}
use Rattle.tlv.specs.Run.{Slot, without_top, Event, note, packet, State, searching, held, Stepped}
use Rattle.tlv.specs.Run.{packet_of, kept, read_from, finished, resumed, arrived, Clean}
use Rattle.cutter.specs.Pointers.{top_of, last_of}
use Rattle.cutter.specs.Claims.{AllShort}
use Rattle.cutter.proofs.Packets.{whole-complete}
use Rattle.cutter.proofs.Splits.{Whole, Split, joined_length, first-length, whole_append, joined-packets}
use Rattle.cutter.proofs.Splits.{begun, begun-length}
use Rattle.cutter.proofs.Reaches.{Reach, reach}
use Rattle.cutter.proofs.Sound.{sq, top_in, top-none, last_end, last_none, slot-length, cut-from-top, slot-sound}

-- events without a note
module _ {A : Type 0} where
  pub clean-append : (es fs : List (Event A)) → Clean es → Clean fs → Clean (es ++ fs)
  clean-append [] fs q r = r
  clean-append (note n ∷ es) fs q r = absurd q
  clean-append (packet p ∷ es) fs q r = clean-append es fs q r

  clean-packets : (ls : List A) (ps : List (List ℕ)) → Clean (map (packet_of ls) ps)
  clean-packets ls [] = tt
  clean-packets ls (p ∷ ps) = clean-packets ls ps

  clean-finished : (ls : List A) (h : List ℕ) (a : A) (b : List ℕ) → Clean (finished ls h a b)
  unfolding finished
  clean-finished ls [] a b = tt
  clean-finished ls (x ∷ h) a b = tt

-- packets of a run that are not too long
short_back : (ps qs : List (List ℕ)) → AllShort (ps ++ qs) → AllShort qs
short_back [] qs s = s
short_back (p ∷ ps) qs s = short_back ps qs s.1

short-total : (b : List ℕ) → Whole b → AllShort (cut b).packets → 0 < length b → total b ≤ max_packet
short-total b w s h =
    let c = whole-complete b w.ended h in
    omega (arith, first-length b c, (rw (cut-more b c) at s).0)

short-tail : (m : ℕ) (b : List ℕ) → Whole b → AllShort (cut b).packets → too_long (take m b) ≡ false
unfolding too_long
short-tail m b w s = go (dec_le 4 (length (take m b)))
  where
    go : Dec (4 ≤ length (take m b)) → (leb 4 (length (take m b)) && ltb max_packet (total (take m b))) ≡ false
    go (yes f) =
        let n = length-take m b in
        let t : total (take m b) ≤ max_packet =
        rw (total-take m b (omega arith)) (short-total b w s (omega arith)) in
        rw (le-leb 4 (length (take m b)) f, le-ltb max_packet (total (take m b)) t)
    go (no f) = rw (lt-leb 4 (length (take m b)) (omega arith))

-- the state holds the run up to byte n, from the last packet that starts before
pub data Holds {A : Type 0} (run : List ℕ) (n : ℕ) : State A → Type 0 where
  holds : (ls : List A) (sp : Split run n) → Holds run n (held ls (begun run n sp))

holds_as : {A : Type 0} (run : List ℕ) (n : ℕ) (ls : List A) (h : List ℕ) (sp : Split run n) → begun run n sp ≡ h
    → Holds run n (held ls h)
holds_as run n ls h sp e = rw (← e) (holds ls sp)

pub record Kept {A : Type 0} (run : List ℕ) (n : ℕ) (r : Stepped A) : Type 0 where
  pub clean : Clean r.events
  pub state : Holds run n r.state

module _ (run : List ℕ) (short : AllShort (cut run).packets) (from l : ℕ) (h : from + l ≤ length run)
    (least : 4 ≤ l) (most : l < none) (sp : Split run from) where
  abbrev re : Reach run from l sp
  re = reach run from l sp h (omega arith)

  abbrev f : List ℕ
  f = re.front

  abbrev r : List ℕ
  r = sp.after

  abbrev bytes : List ℕ
  bytes = take l (drop from run)

  abbrev top : ℕ
  top = top_of run from l

  abbrev last : ℕ
  last = last_of run from l

  abbrev slot : Slot
  slot = record { top = top; last = last; bytes = bytes }

  sizes : (length sp.before + length r ≡ length run) × (length f + length re.back ≡ length run)
  sizes =
      (joined_length sp.before r run sp.joined, joined_length f re.back run re.joined)

  -- the held bytes
  abbrev hs : List ℕ
  hs = begun run from sp

  held-length : length hs ≡ from - length sp.before
  held-length = begun-length run from sp (omega arith)

  -- with the slot behind them, they are the packet that goes over its first byte, as far as the slot goes
  held-slot : hs ++ bytes ≡ take (from + l - length sp.before) r
  unfolding begun
  held-slot =
      let n : ℕ = from - length sp.before in
      let e : from ≡ length sp.before + n = omega (arith, sp.low) in
      let d : drop from run ≡ drop n r =
      ap (drop from) (sym sp.joined)
      ∙ ap (λ (k : ℕ). drop k (sp.before ++ r)) e
      ∙ drop-append-add sp.before r n in
      let m : from + l - length sp.before ≡ n + l = omega (arith, sp.low) in
      rw (d, m) (sym (take-add n l r))

  held-total : held_total hs bytes ≡ total r
  unfolding held_total
  held-total = rw held-slot (total-take (from + l - length sp.before) r (omega (arith, sp.low)))

  held-short : held_total hs bytes ≤ max_packet
  held-short =
      let ps = rw (joined-packets sp.before r run sp.first sp.joined) at short in
      rw held-total
      (short-total r sp.rest (short_back (cut sp.before).packets (cut r).packets ps) (omega (arith, sizes, sp.low)))

  -- it ends where the first packet starts; with nothing held that is the slot's first byte
  something : length sp.before < from → length f ≡ length sp.before + total r
  something k = rw (ne_eqb (length sp.before) from (omega arith)) at re.reaches

  nothing : from ≤ length sp.before → length f ≡ from
  nothing k = rw (eq-eqb (length sp.before) from (omega (arith, sp.low))) at re.reaches

  held-end : length sp.before < from → held_end hs bytes ≡ length f - from
  unfolding held_end
  held-end k = let e = something k in rw (held-total, held-length) (omega (arith, sp.low, sp.high))

  -- the slot comes to them, and gives no note
  abbrev Resumed : {A : Type 0} → A → List A → Type 0
  Resumed a ls = Kept run (from + l) (resumed (continuation_of hs bytes top last) (without_top slot) ls hs a slot)

  -- a packet starts in the slot
  module _ (t : length f < from + l) where
    top-is : top ≡ length f - from
    top-is = top_in run from l h sp re t

    with-top : eqb top none ≡ false
    with-top = rw top-is (ne_eqb (length f - from) none (omega (arith, re.past)))

    ends_in_lem : continuation_of hs bytes top last ≡ Ends (length f - from)
    unfolding end_within
    ends_in_lem = go (dec_le from (length sp.before))
      where
        go : Dec (from ≤ length sp.before) → continuation_of hs bytes top last ≡ Ends (length f - from)
        go (yes k) =
            let z : length f - from ≡ 0 = omega (arith, nothing k) in
            nothing-held hs bytes top last (rw held-length (omega arith)) ∙ rw (top-is, z)
        go (no k) =
            held-before-top hs bytes top last (λ z. omega (arith, held-length)) held-short (eqb-false _ _ with-top)
            ∙ rw (held-end (omega arith), top-is, eq-eqb (length f - from) (length f - from) refl)

    -- the tail that is then held
    abbrev q : Split re.back (from + l - length f)
    q = sq run from l h sp re t

    next : Split run (from + l)
    next =
        let e = length-append f q.before in
        record {
          before = f ++ q.before;
          after = q.after;
          joined = append_assoc f q.before q.after ∙ rw q.joined re.joined;
          first = whole_append f q.before re.first q.first;
          rest = q.rest;
          low = omega (arith, q.low);
          high = omega (arith, q.high);
        }

    tail-is : begun run (from + l) next ≡ begun re.back (from + l - length f) q
    unfolding begun next
    tail-is =
        let e : from + l - length (f ++ q.before) ≡ from + l - length f - length q.before =
        omega (arith, length-append f q.before) in
        rw e

    tail-short : too_long (begun re.back (from + l - length f) q) ≡ false
    unfolding begun
    tail-short =
        let ps = rw (joined-packets f re.back run re.first re.joined) at short in
        let qs = short_back (cut f).packets (cut re.back).packets ps in
        let rs = rw (joined-packets q.before q.after re.back q.first q.joined) at qs in
        short-tail (from + l - length f - length q.before) q.after q.rest
        (short_back (cut q.before).packets (cut q.after).packets rs)

    module _ {A : Type 0} (a : A) where
      pub reads : Kept run (from + l) (read_from false a slot)
      unfolding read_from kept
      reads =
          let es : List (Event A) = map (packet_of (a ∷ [])) (cut q.before).packets in
          rw (top-is, cut-from-top run from l h sp re t, tail-short)
          (record {
            clean = clean-append es [] (clean-packets (a ∷ []) (cut q.before).packets) tt;
            state = holds_as run (from + l) (a ∷ []) _ next tail-is;
          })

      kept_in : (ls : List A) → Resumed a ls
      unfolding resumed
      kept_in ls =
          let e : ℕ = length f - from in
          rw (with-top, ends_in_lem)
          (record {
            clean =
                clean-append (finished ls hs a (take e bytes)) (read_from false a slot).events
                (clean-finished ls hs a (take e bytes)) reads.clean;
            state = reads.state;
          })

  -- none does: the held packet ends at the slot's end, or goes on
  module _ (t : from + l ≤ length f) where
    top-is-none : top ≡ none
    top-is-none = top-none run from l h sp re t

    over : length sp.before < from
    over = go (dec_le from (length sp.before))
      where
        go : Dec (from ≤ length sp.before) → length sp.before < from
        go (yes k) = absurd (omega (arith, nothing k))
        go (no k) = omega arith

    beyond : continuation_of hs bytes top last ≡ end_beyond (length f - from) l last
    beyond =
        held-without-top hs bytes top last (λ z. omega (arith, held-length, over)) held-short top-is-none
        ∙ rw (held-end over, slot-length run from l h sp re)

    ends_at : length f ≡ from + l → continuation_of hs bytes top last ≡ Ends l
    unfolding end_beyond
    ends_at e =
        let d : length f - from ≡ l = omega arith in
        beyond ∙ rw (d, last_end run from l h sp re t e (omega arith), le-ltb l l (omega arith), eq-eqb l l refl)

    goes_on_lem : from + l < length f → continuation_of hs bytes top last ≡ GoesOn
    unfolding end_beyond
    goes_on_lem k =
        beyond
        ∙ rw (
          last_none run from l h sp re t k,
          le-ltb (length f - from) l (omega arith),
          ne_eqb (length f - from) l (omega arith),
          ne_eqb none l (omega arith),
        )

    ended-next : length f ≡ from + l → Split run (from + l)
    ended-next e =
        record {
          before = f;
          after = re.back;
          joined = re.joined;
          first = re.first;
          rest = re.rest;
          low = omega arith;
          high = omega (arith, total-bytes re.back);
        }

    ended-tail : (e : length f ≡ from + l) → begun run (from + l) (ended-next e) ≡ []
    unfolding begun ended-next
    ended-tail e = let z : from + l - length f ≡ 0 = omega arith in rw z

    on-next : from + l < length f → Split run (from + l)
    on-next k =
        let e = something over in
        record {
          before = sp.before;
          after = r;
          joined = sp.joined;
          first = sp.first;
          rest = sp.rest;
          low = omega (arith, sp.low);
          high = omega arith;
        }

    on-tail : (k : from + l < length f) → begun run (from + l) (on-next k) ≡ hs ++ bytes
    unfolding begun on-next
    on-tail k = sym held-slot

    module _ {A : Type 0} (a : A) (ls : List A) where
      kept-past : Resumed a ls
      unfolding resumed
      kept-past = rw (eq-eqb top none top-is-none) (go (dec_le (length f) (from + l)))
        where
          go : Dec (length f ≤ from + l) → Kept run (from + l) (resumed (continuation_of hs bytes top last) true ls hs a slot)
          go (yes k) =
              let e : length f ≡ from + l = omega arith in
              rw (ends_at e)
              (record {
                clean = clean-finished ls hs a (take l bytes);
                state = holds_as run (from + l) [] [] (ended-next e) (ended-tail e);
              })
          go (no k) =
              let j : from + l < length f = omega arith in
              rw (goes_on_lem j) (record { clean = tt; state = holds_as run (from + l) (ls ++ (a ∷ [])) _ (on-next j) (on-tail j) })

  -- the slot comes to the held bytes
  pub kept-held : {A : Type 0} (a : A) (ls : List A)
      → Kept run (from + l) (arrived (sound bytes top last) (held ls hs) a slot)
  unfolding arrived
  kept-held a ls = rw (slot-sound run from l h sp re (omega arith) most) (go (dec_le (from + l) (length f)))
    where
      go : Dec (from + l ≤ length f) → Resumed a ls
      go (yes t) = kept-past t a ls
      go (no t) = kept_in (omega arith) a ls

  -- the slot comes first
  module _ (z : from ≡ 0) where
    begins : length f < from + l
    begins = omega (arith, nothing (omega arith))

    pub top-first : top ≡ 0
    top-first = top-is begins ∙ omega (arith, nothing (omega arith))

    pub kept-first : {A : Type 0} (a : A) → Kept run (from + l) (arrived (sound bytes top last) searching a slot)
    unfolding arrived
    kept-first a = rw (slot-sound run from l h sp re (omega arith) most, with-top begins) (reads begins a)
