-- What an accepted control block keeps to, and what stands at each slot of its layout.
use Prim.Native.Nat.{ℕ, zero, suc, ◌+◌, ◌-◌, ◌<◌, ◌≤◌}
use mathlib.Core.Path.{◌≡◌, refl, ap}
use mathlib.Core.Bool.{Bool, true, false, cond}
use mathlib.Core.List.{List}
use native.Mathlib.Nat.{add-zero}
use native.Mathlib.Omega.{arith}
use lib.ListN.{length, get_or}
use lib.Dec.{eqb, ltb}
use borrow.Author.Tests.{eqb-true, eqb-false, ltb-true, ltb-false}
use Rattle.wire.proofs.Choice.{either}
use Rattle.tmcc.specs.Decoded.{Decoded}
use Rattle.tmcc.specs.declared.layout.Pointers.{Pointers}
use Rattle.wire.proofs.TabLaws.{get_or-tab, length-tab}
use Rattle.tmcc.specs.Count.{all_below, count_below}
use Rattle.tmcc.specs.Mode.{slot_count, slots_of, mode_good, modes_good, mode_from, mode_of, slot_length}
use Rattle.tmcc.proofs.ModeLaws.{slots-one}
use Rattle.tmcc.specs.Stream.{chosen, own_slot}
use Rattle.tmcc.specs.Layout.{layout_of, pointers_at}
use Rattle.tmcc.specs.Block.{decode_of, own_stream, Accepted}
use Rattle.tmcc.proofs.BlockLaws.{accepts}
use Rattle.tmcc.proofs.Cases.{and_left, and_right, by_test}
use Rattle.tmcc.proofs.Table.{slot-most}

-- an answer with no refusal is not the other one
first : (t : Bool) (x y : Decoded) → (cond t x y).refusal ≡ 0 → (y.refusal ≡ 0 → ⊥) → (t ≡ true) × (x.refusal ≡ 0)
first true x y e n = (refl, e)
first false x y e n = absurd (n e)

second : (t : Bool) (x y : Decoded) → (cond t x y).refusal ≡ 0 → (x.refusal ≡ 0 → ⊥) → t ≡ false
second true x y e n = absurd (n e)
second false x y e n = refl

-- a block that is not refused is accepted
pub accepted : (b : List ℕ) (id : ℕ) → (decode_of b id).refusal ≡ 0 → Accepted b id
unfolding decode_of
accepted b id e =
    let p = first (eqb (length b) 1178) _ _ e (λ z. omega arith) in
    let q = first (modes_good b) _ _ p.1 (λ z. omega arith) in
    let r = first (eqb (count_below (chosen b id) 16) 1) _ _ q.1 (λ z. omega arith) in
    let s = second (eqb (count_below (own_slot b (own_stream b id)) 120) 0) _ _ r.1 (λ z. omega arith) in
    record { size = eqb-true _ _ p.0; modes = q.0; one = eqb-true _ _ r.0; some = eqb-false _ _ s }

pub accepted-layout : (b : List ℕ) (id : ℕ) → (decode_of b id).refusal ≡ 0 → (decode_of b id).layout ≡ layout_of b (own_stream b id)
accepted-layout b id e = ap (λ (d : Decoded). d.layout) (accepts b id (accepted b id e))

-- and one that is refused has its number
abbrev Numbered : Decoded → Type 0
Numbered d = (d.refusal ≡ 0 → ⊥) → (10 ≤ d.refusal) × (d.refusal ≤ 14)

pub refusal-number : (b : List ℕ) (id : ℕ) → Numbered (decode_of b id)
unfolding decode_of
refusal-number b id =
    either Numbered (eqb (length b) 1178)
    (either Numbered (modes_good b)
    (either Numbered (eqb (count_below (chosen b id) 16) 1)
    (either Numbered (eqb (count_below (own_slot b (own_stream b id)) 120) 0) (λ z. (omega arith, omega arith)) (λ z. absurd (z refl)))
    (λ z. (omega arith, omega arith)))
    (λ z. (omega arith, omega arith)))
    (λ z. (omega arith, omega arith))

-- a layout's three arrays have 120 entries, and at slot s stands what the block gives it
pub layout-sizes : (b : List ℕ) (own : ℕ)
    → (length (layout_of b own).pointers ≡ 120) × (length (layout_of b own).lengths ≡ 120) × (length (layout_of b own).own ≡ 120)
unfolding layout_of
layout-sizes b own = (length-tab _ 120, length-tab _ 120, length-tab _ 120)

pub layout-pointers : (b : List ℕ) (own s : ℕ) (d : Pointers) → s < 120 → get_or (layout_of b own).pointers s d ≡ pointers_at b s
unfolding layout_of
layout-pointers b own s d h = get_or-tab (pointers_at b) 120 s d h

pub layout-length : (b : List ℕ) (own s : ℕ) → s < 120 → get_or (layout_of b own).lengths s 0 ≡ slot_length b s
unfolding layout_of
layout-length b own s h = get_or-tab (slot_length b) 120 s 0 h

pub layout-own : (b : List ℕ) (own s : ℕ) → s < 120 → get_or (layout_of b own).own s false ≡ own_slot b own s
unfolding layout_of
layout-own b own s h = get_or-tab (own_slot b own) 120 s false h

-- no slot is longer than 5049 bytes, and an own slot has bytes
pub layout-most : (b : List ℕ) (own s : ℕ) → s < 120 → get_or (layout_of b own).lengths s 0 ≤ 5049
layout-most b own s h = rw (layout-length b own s h) (slot-most b s)

pub own-live : (b : List ℕ) (own s : ℕ) → own_slot b own s ≡ true → 0 < slot_length b s
unfolding own_slot
own-live b own s e = ltb-true _ _ (and_left _ _ e)

-- a slot that lies in the modes from k on falls to one of them
mode_among : (b : List ℕ) (m k s : ℕ) → s + slots_of b k < slots_of b (k + m) → mode_from b m k s < k + m
unfolding mode_from
mode_among b zero k s h = let e : slots_of b (k + 0) ≡ slots_of b k = rw add-zero in omega arith
mode_among b (suc m) k s h =
    let e : k + suc m ≡ k + 1 + m = omega arith in
    let g : slots_of b (k + suc m) ≡ slots_of b (k + 1 + m) = ap (slots_of b) e in
    by_test (ltb s (slot_count b k)) (λ n. n < k + suc m) k (mode_from b m (k + 1) (s - slot_count b k))
    (λ t. omega arith)
    (λ t.
    let l : slot_count b k ≤ s = ltb-false _ _ t in
    let i = mode_among b m (k + 1) (s - slot_count b k) (omega (arith, slots-one b k)) in
    omega (arith, i))

-- each slot of a frame whose modes keep the rules falls to one of the eight
pub slot_mode : (b : List ℕ) (s : ℕ) → modes_good b ≡ true → s < 120 → mode_of b s < 8
unfolding modes_good mode_of slots_of
slot_mode b s g h =
    let e : slots_of b 8 ≡ 120 = eqb-true _ _ (and_right (all_below (mode_good b) 8) _ g) in
    mode_among b 8 0 s (omega arith)
