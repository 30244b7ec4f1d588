-- Why the slots of a run give no note and exactly its packets: the slot machine holds the run up to each slot's end.
use Prim.Native.Nat.{ℕ, zero, suc, ◌+◌, ◌*◌, ◌≤◌, ◌<◌}
use mathlib.Core.Path.{◌≡◌, refl, sym, ◌∙◌, ap}
use mathlib.Core.Bool.{Bool, true, cond}
use mathlib.Core.List.{List, [], ◌∷◌, map, map-map, cons≢nil}
use native.Mathlib.Nat.{zero-mul, suc-mul, mul-le-mul_right}
use native.Mathlib.Numerals.{add-one}
use native.Mathlib.Omega.{arith}
use lib.ListN.{length, take, drop, length-drop}
use lib.Seq.{take-add, take_all, drop-drop, length-take-le}
use lib.Dec.{eqb}
use Rattle.tlv.specs.Packet.{cut}
use Rattle.tlv.specs.Slot.{none}
use Rattle.tlv.specs.Run.{Slot, State, searching, given, step, packets, Clean, intact}
use Rattle.tlv.specs.Run.{run as events}
use Rattle.tlv.specs.Row.{bytes_of, all_bytes, row, row_packets}
use Rattle.tlv.specs.Claims.{Seen, Filled, seen, seen_in_row}
use Rattle.tlv.proofs.Runs.{step_given}
use Rattle.tlv.proofs.RowCuts.{bytes-tagged, bytes-append, row_cut}
use Rattle.tlv.proofs.Rows.{run_row}
use Rattle.cutter.specs.Slot.{slot_at}
use Rattle.cutter.proofs.SlotLaws.{accepts, slot-cut}
use Rattle.cutter.specs.Claims.{slots_from, AllShort, CutEach, CutRun}
use Rattle.cutter.proofs.Packets.{whole-good}
use Rattle.cutter.proofs.Table.{listed_bounds}
use Rattle.cutter.proofs.Splits.{Whole, split}
use Rattle.cutter.proofs.Steps.{clean-append, Holds, holds, Kept, kept-held, kept-first, top-first}

next-slot : (s l : ℕ) → (s + 1) * l ≡ s * l + l
next-slot s l = rw (add-one, suc-mul)

-- each slot of a run that fills n of them lies in it
pub cut_each : CutEach
cut_each run l n s output f h e =
    slot-cut run l s output
    (accepts run l s (length output)
    (record {
      packets = f.packets;
      listed = f.listed;
      within = rw f.multiple (mul-le-mul_right l (omega arith));
      fits = e;
    }))

-- the first slot starts with a packet
top-zero : (run : List ℕ) → AllShort (cut run).packets → (l : ℕ) → 4 ≤ l → l < none → Whole run → 0 * l + l ≤ length run
    → (slot_at run l 0).top ≡ 0
unfolding slot_at
top-zero run short l least most w h =
    top-first run short (0 * l) l h least most (split run w (0 * l) (omega arith)) (omega arith)

module _ {A : Type 0} (run : List ℕ) (short : AllShort (cut run).packets) (l : ℕ) (least : 4 ≤ l) (most : l < none) where
  abbrev slots_in : List (A × Slot) → List Slot
  slots_in = map (λ (x : A × Slot). x.1)

  -- the machine is searching before the first slot, and then holds the run so far
  data Ready (n : ℕ) : State A → Type 0 where
    fresh : n ≡ 0 → Whole run → Ready n searching
    going : {st : State A} → Holds run n st → Ready n st

  one : (s : ℕ) (x : A × Slot) (st : State A) → x.1 ≡ slot_at run l s → s * l + l ≤ length run → Ready (s * l) st
      → Kept run (s * l + l) (step st (given x.0 x.1))
  unfolding slot_at
  one s x st e h (fresh z w) =
      let sp = split run w (s * l) (omega arith) in
      rw (e, step_given) (kept-first run short (s * l) l h least most sp z x.0)
  one s x st e h (going (holds ls sp)) = rw (e, step_given) (kept-held run short (s * l) l h least most sp x.0 ls)

  cleans : (n s : ℕ) (xs : List (A × Slot)) (st : State A) → slots_in xs ≡ slots_from run l s n → s * l + n * l ≤ length run
      → Ready (s * l) st → Clean (events st (intact xs))
  unfolding events
  cleans zero s [] st e h d = tt
  cleans zero s (x ∷ xs) st e h d = absurd (cons≢nil e)
  cleans (suc n) s [] st e h d = absurd (cons≢nil (sym e))
  cleans (suc n) s (x ∷ xs) st e h d =
      let m : suc n * l ≡ n * l + l = suc-mul n l in
      let k : (s + 1) * l ≡ s * l + l = next-slot s l in
      let i : x.1 ≡ slot_at run l s = cc in
      let j : slots_in xs ≡ slots_from run l (s + 1) n = cc in
      let r = one s x st i (omega arith) d in
      let t = step st (given x.0 x.1) in
      clean-append t.events (events t.state (intact xs)) r.clean
      (cleans n (s + 1) xs t.state j (omega arith) (going (rw k r.state)))

  -- the bytes of the slots are the run's
  bytes-from : (n s : ℕ) (xs : List (A × Slot)) → slots_in xs ≡ slots_from run l s n
      → bytes_of (all_bytes xs) ≡ take (n * l) (drop (s * l) run)
  unfolding all_bytes
  bytes-from zero s [] e = rw (zero-mul l)
  bytes-from zero s (x ∷ xs) e = absurd (cons≢nil e)
  bytes-from (suc n) s [] e = absurd (cons≢nil (sym e))
  bytes-from (suc n) s (x ∷ xs) e =
      let i : x.1 ≡ slot_at run l s = cc in
      let j : slots_in xs ≡ slots_from run l (s + 1) n = cc in
      let k : suc n * l ≡ l + n * l = omega (arith, suc-mul n l) in
      let d : drop ((s + 1) * l) run ≡ drop l (drop (s * l) run) = rw (next-slot s l) (sym (drop-drop l (s * l) run)) in
      let b : x.1.bytes ≡ take l (drop (s * l) run) = rw i (unfold slot_at in refl) in
      rw (bytes-append, bytes-tagged, bytes-from n (s + 1) xs j, b, d, k) (sym (take-add l (n * l) (drop (s * l) run)))

  filled : (n s : ℕ) (xs : List (A × Slot)) → slots_in xs ≡ slots_from run l s n → s * l + n * l ≤ length run → Filled xs
  filled n s [] e h = tt
  filled zero s (x ∷ xs) e h = absurd (cons≢nil e)
  filled (suc n) s (x ∷ xs) e h =
      let i : x.1 ≡ slot_at run l s = cc in
      let j : slots_in xs ≡ slots_from run l (s + 1) n = cc in
      let k = suc-mul n l in
      let b : x.1.bytes ≡ take l (drop (s * l) run) = rw i (unfold slot_at in refl) in (
        rw (b, length-take-le l (drop (s * l) run) (rw length-drop (omega arith))) (omega arith),
        filled n (s + 1) xs j (omega (arith, next-slot s l)),
      )

  -- and so is the row
  row-run : (n : ℕ) (xs : List (A × Slot)) → Whole run → slots_in xs ≡ slots_from run l 0 n → length run ≡ n * l
      → bytes_of (row xs) ≡ run
  unfolding row
  row-run zero [] w e h = take_all 0 run (omega arith)
  row-run zero (x ∷ xs) w e h = absurd (cons≢nil e)
  row-run (suc n) [] w e h = absurd (cons≢nil (sym e))
  row-run (suc n) (x ∷ xs) w e h =
      let i : x.1 ≡ slot_at run l 0 = cc in
      let k = suc-mul n l in
      let t : x.1.top ≡ 0 = rw i (top-zero run short l least most w (omega arith)) in
      ap (λ (k : ℕ). bytes_of (cond (eqb k none) (row xs) (drop k (all_bytes (x ∷ xs))))) t
      ∙ bytes-from (suc n) 0 (x ∷ xs) e
      ∙ rw (zero-mul l) (take_all (suc n * l) run (omega arith))

pub cut-run : CutRun
cut-run A run l n xs f short e =
    let g = whole-good run f.packets in
    let w : Whole run = record { ended = g.1; good = g.0 } in
    let b = listed_bounds l f.listed in
    let least : 4 ≤ l = omega arith in
    let most : l < none = omega arith in
    let c = cleans run short l least most n 0 xs searching e (omega (arith, f.multiple)) (fresh (omega arith) w) in
    let fl = filled run short l least most n 0 xs e (omega (arith, f.multiple)) in
    let es = events searching (intact xs) in
    let keep : A → Bool = λ (a : A). true in (
      c,
      sym (map-map (λ (v : Seen). v.bytes) (seen keep) (packets es))
          ∙ ap (map (λ (v : Seen). v.bytes)) (run_row A keep xs c fl)
          ∙ map-map (λ (v : Seen). v.bytes) (seen_in_row keep) (row_packets xs)
          ∙ row_cut A xs
          ∙ ap (λ (d : List ℕ). (cut d).packets) (row-run run short l least most n xs w e f.multiple),
    )
