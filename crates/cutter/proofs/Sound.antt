-- The pointers of a slot by the packets that reach it, and why the slot is sound.
use Prim.Native.Nat.{ℕ, ◌+◌, ◌-◌, ◌*◌, ◌≤◌, ◌<◌}
use mathlib.Core.Path.{◌≡◌, refl, sym, ◌∙◌, ap}
use mathlib.Core.Bool.{Bool, true, false, cond, ◌||◌, or-true}
use mathlib.Core.List.{List, [], ◌++◌}
use native.Mathlib.Nat.{zero-add}
use native.Mathlib.Omega.{arith}
use native.Mathlib.Decide.{dec_le}
use lib.ListN.{length, take, drop, length-drop}
use lib.Seq.{take-add, drop_at, drop-drop, length-take-le}
use lib.Dec.{eqb, leb}
use borrow.Author.Tests.{le-leb, lt-leb, lt-ltb, eq-eqb, ne_eqb}
use Rattle.wire.specs.Lists.{sift}
use Rattle.tmcc.specs.declared.layout.Pointers.{Pointers}
use Rattle.tlv.specs.Packet.{total, complete, cut}
use Rattle.tlv.proofs.CutsLaws.{row, cut-more, cut-end, cut-sized}
use Rattle.tlv.specs.Slot.{none, end_from, last_pointer, sound}
use Rattle.tlv.proofs.SlotLaws.{sound-without-top}
use Rattle.cutter.specs.Pointers.{starts, ends, in_slot, ends_in, first_offset, top_of, last_of}
use Rattle.cutter.specs.Slot.{slot_at}
use Rattle.cutter.proofs.SlotLaws.{accepted, slot-within, slot-cut}
use Rattle.cutter.specs.Claims.{CutSound}
use Rattle.cutter.proofs.Places.{in_past, in_there, last_from, starts-past, ends-past}
use Rattle.cutter.proofs.Places.{starts-behind, last-append, last_within, last_done, pointer-end}
use Rattle.cutter.proofs.Packets.{whole-good, whole-complete}
use Rattle.cutter.proofs.Splits.{Split, split, joined_length, first-length, joined-packets, begun, cut-split, begun-length}
use Rattle.cutter.proofs.Reaches.{whole_row, Reach, reach}
use Rattle.cutter.proofs.Table.{listed_bounds}
use Rattle.cutter.proofs.Refusals.{cut-accepted}

-- packets of which the first ends past the slot
over-past : (from l at : ℕ) (b : List ℕ) → from + l < at + total b → sift (ends_in from l) (ends at (cut b).packets) ≡ []
unfolding ends
over-past from l at b h = go (complete b) refl
  where
    go : (c : Bool) → complete b ≡ c → sift (ends_in from l) (ends at (cut b).packets) ≡ []
    go true e =
        rw (
          cut-more b e,
          first-length b e,
          in_past from l (at + total b - 1) (omega arith),
          ends-past from l (at + total b) (cut (drop (total b) b)).packets (cut-sized (drop (total b) b)) (omega arith),
        )
    go false e = rw (cut-end b e)

module _ (run : List ℕ) (from l : ℕ) (h : from + l ≤ length run) (sp : Split run from) (re : Reach run from l sp) where
  abbrev f : List ℕ
  f = re.front

  abbrev b : List ℕ
  b = re.back

  f-row : 0 + length (row (cut f).packets) ≡ length f
  f-row = zero-add (length (row (cut f).packets)) ∙ ap length (whole_row f re.first)

  packets : (cut run).packets ≡ (cut f).packets ++ (cut b).packets
  packets = joined-packets f b run re.first re.joined

  both : length f + length b ≡ length run
  both = joined_length f b run re.joined

  top-run : top_of run from l ≡ first_offset from none (sift (in_slot from l) (starts (length f) (cut b).packets))
  unfolding top_of
  top-run = rw (packets, starts-behind from l 0 (cut f).packets (cut b).packets re.unstarted, f-row)

  last-run : last_of run from l
      ≡ last_from from l (cond (leb (length f) (from + l)) (last_pointer (length f - from)) none) (length f) (cut b).packets
  unfolding last_of
  last-run = rw packets (last-append from l none 0 (cut f).packets (cut b).packets ∙ rw (re.ended, f-row))

  -- a packet starts in the slot
  module _ (t : length f < from + l) where
    pub top_in : top_of run from l ≡ length f - from
    unfolding starts
    top_in =
        let c : complete b ≡ true = whole-complete b re.rest.ended (omega (arith, both)) in
        top-run ∙ rw (cut-more b c, in_there from l (length f) re.past t)

    pub sq : Split b (from + l - length f)
    sq = split b re.rest (from + l - length f) (omega (arith, both))

    pub last_in : last_of run from l ≡ last_pointer (length f + length sq.before - from)
    last_in =
        let a : List ℕ = sq.before in
        let n : ℕ = length f + length a in
        let w : row (cut a).packets ≡ a = whole_row a sq.first in
        let ps = joined-packets a sq.after b sq.first sq.joined in
        let i : last_from from l (last_pointer (length f - from)) (length f) (cut a).packets ≡ last_pointer (n - from) =
        rw w at (last_within from l (length f) (cut a).packets (cut-sized a) re.past (rw w (omega (arith, sq.low)))) in
        let o : sift (ends_in from l) (ends n (cut sq.after).packets) ≡ [] =
        over-past from l n sq.after (omega (arith, sq.high)) in
        last-run
        ∙ rw (le-leb (length f) (from + l) (omega arith), ps)
        (last-append from l (last_pointer (length f - from)) (length f) (cut a).packets (cut sq.after).packets ∙ rw (i, w, o))

  -- none does
  module _ (t : from + l ≤ length f) where
    pub top-none : top_of run from l ≡ none
    top-none = top-run ∙ rw (starts-past from l (length f) (cut b).packets t)

    last-past : last_of run from l ≡ cond (leb (length f) (from + l)) (last_pointer (length f - from)) none
    last-past = last-run ∙ last_done from l _ (length f) (cut b).packets (cut-sized b) t

    pub last_end : length f ≡ from + l → 0 < l → last_of run from l ≡ l
    last_end e p =
        let d : length f - from ≡ l = omega arith in
        last-past ∙ rw (le-leb (length f) (from + l) (omega arith), d) (pointer-end l p)

    pub last_none : from + l < length f → last_of run from l ≡ none
    last_none k = last-past ∙ rw (lt-leb (length f) (from + l) k)

-- a part from a place on
drop-take : (m n : ℕ) (b : List ℕ) → m ≤ n → m ≤ length b → drop m (take n b) ≡ take (n - m) (drop m b)
drop-take m n b h k =
    let e : n ≡ m + (n - m) = omega arith in
    ap (λ (i : ℕ). drop m (take i b)) e
    ∙ rw (take-add m (n - m) b) (drop_at (take m b) (take (n - m) (drop m b)) m (length-take-le m b k))

module _ (run : List ℕ) (from l : ℕ) (h : from + l ≤ length run) (sp : Split run from) (re : Reach run from l sp) where
  abbrev slot_bytes : List ℕ
  slot_bytes = take l (drop from run)

  pub slot-length : length slot_bytes ≡ l
  slot-length = length-take-le l (drop from run) (rw length-drop (omega arith))

  -- from the top pointer on, the slot is cut where its last packet ends
  module _ (t : length re.front < from + l) where
    abbrev q : Split re.back (from + l - length re.front)
    q = sq run from l h sp re t

    pub from-top : drop (length re.front - from) slot_bytes ≡ take (from + l - length re.front) re.back
    from-top =
        let m : ℕ = length re.front - from in
        let n : l - m ≡ from + l - length re.front = omega (arith, re.past) in
        let k : from + m ≡ length re.front = omega (arith, re.past) in
        let d : drop m (drop from run) ≡ re.back =
        drop-drop m from run
        ∙ ap (λ (i : ℕ). drop i run) k
        ∙ ap (drop (length re.front)) (sym re.joined)
        ∙ drop_at re.front re.back (length re.front) refl in
        drop-take m l (drop from run) (omega arith) (rw length-drop (omega arith)) ∙ rw (n, d)

    pub cut-from-top : cut (drop (length re.front - from) slot_bytes)
        ≡ record { packets = (cut q.before).packets; tail = begun re.back (from + l - length re.front) q; good = true }
    cut-from-top = rw from-top (cut-split re.back (from + l - length re.front) q)

    sound_in : l < none → sound slot_bytes (top_of run from l) (last_of run from l) ≡ true
    unfolding sound end_from
    sound_in n =
        let m : ℕ = from + l - length re.front in
        let top : ℕ = length re.front - from in
        let last : ℕ = last_pointer (length re.front + length q.before - from) in
        let k = joined_length re.front re.back run re.joined in
        let e : l - (m - length q.before) ≡ length re.front + length q.before - from =
        omega (arith, re.past, q.low) in
        rw (
          top_in run from l h sp re t,
          last_in run from l h sp re t,
          ne_eqb top none (omega arith),
          slot-length,
          lt-ltb top l (omega (arith, re.past)),
          cut-from-top,
          begun-length re.back m q (omega arith),
          e,
        )
        (eq-eqb last last refl)

  sound-past : 0 < l → from + l ≤ length re.front → sound slot_bytes (top_of run from l) (last_of run from l) ≡ true
  sound-past p t =
      sound-without-top slot_bytes _ _ (top-none run from l h sp re t)
      ∙ rw slot-length (go (dec_le (length re.front) (from + l)))
    where
      go : Dec (length re.front ≤ from + l) → (eqb (last_of run from l) none || eqb (last_of run from l) l) ≡ true
      go (yes k) = rw (last_end run from l h sp re t (omega arith) p, eq-eqb l l refl) (or-true (eqb l none))
      go (no k) = rw (last_none run from l h sp re t (omega arith))

  pub slot-sound : 0 < l → l < none → sound slot_bytes (top_of run from l) (last_of run from l) ≡ true
  slot-sound p n = go (dec_le (from + l) (length re.front))
    where
      go : Dec (from + l ≤ length re.front) → sound slot_bytes (top_of run from l) (last_of run from l) ≡ true
      go (yes t) = sound-past p t
      go (no t) = sound_in (omega arith) n

pub cut-sound : CutSound
unfolding slot_at
cut-sound run l s output p after e =
    let z = cut-accepted run l s output p after e in
    let a = accepted run l s (length output) z in
    let w = whole-good run a.packets in
    let h = slot-within run l s (length output) a in
    let k = listed_bounds l a.listed in
    let sp = split run (record { ended = w.1; good = w.0 }) (s * l) (omega arith) in
    let g = sym (slot-cut run l s output z) ∙ e in
    let o : Pointers = record { 0 = (slot_at run l s).top; 1 = (slot_at run l s).last } in
    let q : o ≡ p = cc (ap (λ x. x.0) g) in
    let b : (slot_at run l s).bytes ≡ after = ap (λ x. x.1) g in
    rw (← b, ← q)
    (slot-sound run (s * l) l h sp (reach run (s * l) l sp h (omega arith)) (omega arith) (omega arith))
