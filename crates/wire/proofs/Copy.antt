-- A turn of a loop that copies, at the code's `i + 1`.
use Prim.Native.Nat.{ℕ, ◌+◌, ◌-◌, ◌<◌, ◌≤◌}
use mathlib.Core.Path.{◌≡◌, sym, ◌∙◌, subst}
use mathlib.Core.List.{List, ◌++◌}
use native.Mathlib.Numerals.{add-one}
use native.Mathlib.Omega.{arith}
use lib.ListN.{length, get_or, set, take, drop, length-drop}
use lib.Seq.{paste, paste-suc, get_or-drop, get_or-append-add, length_paste_head}

pub turn : (d₀ d s : List ℕ) (at i : ℕ) → at + i < length d₀ → i < length s → d ≡ paste d₀ at s i
    → set d (at + i) (get_or s i 0) ≡ paste d₀ at s (i + 1)
turn d₀ d s at i hd hs e = rw (e, add-one) (paste-suc d₀ at s i 0 hd hs)

-- what a copy has not reached yet
pub get_d_past : (d s : List ℕ) (at n k : ℕ) → at ≤ length d → n ≤ length s → at + n ≤ k
    → get_or (paste d at s n) k 0 ≡ get_or d k 0
get_d_past d s at n k hd hs h =
    let j : ℕ = k - (at + n) in
    let e : k ≡ at + n + j = omega arith in
    let p : List ℕ = take at d ++ take n s in
    let l : length p ≡ at + n = length_paste_head d at s n hd hs in
    let g : get_or (paste d at s n) (at + n + j) 0 ≡ get_or d (at + n + j) 0 =
    rw l at (get_or-append-add p (drop (at + n) d) j 0) ∙ get_or-drop (at + n) d j 0 in
    subst (λ (x : ℕ). get_or (paste d at s n) x 0 ≡ get_or d x 0) (sym e) g

-- a turn of a loop that copies within one memory, downward
pub turn_down : (m₀ m : List ℕ) (to from i : ℕ) → to ≤ from → from + i < length m₀ → m ≡ paste m₀ to (drop from m₀) i
    → set m (to + i) (get_or m (from + i) 0) ≡ paste m₀ to (drop from m₀) (i + 1)
turn_down m₀ m to from i h hi e =
    let hl : i < length (drop from m₀) = simp length-drop (omega arith) in
    let g : get_or m (from + i) 0 ≡ get_or (drop from m₀) i 0 =
    rw e (get_d_past m₀ (drop from m₀) to i (from + i) (omega arith) (omega arith) (omega arith)) ∙ sym (get_or-drop from m₀ i 0) in
    rw g (turn m₀ m (drop from m₀) to i (omega arith) hl e)
