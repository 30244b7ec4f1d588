-- Laws of places in a slot: the packet there, and where the walk from there comes to.
use Rattle.std.specs.Prelude.{ℕ, ◌+◌, ◌-◌, ◌≤◌, ◌<◌, ◌≡◌, Bool, List, drop, get_or, Some, None}
use Rattle.std.proofs.Math.Path.{refl}
use Rattle.std.proofs.Math.Bool.{true, false, cond}
use native.Mathlib.Omega.{arith}
use Rattle.std.proofs.Math.ListN.{length, length-drop}
use Rattle.std.proofs.Common.{drop_of_length-le, drop-cons}
use Rattle.std.proofs.Math.Seq.{drop-drop}
use Rattle.tlv.specs.Packet.{good_first, total, complete, marked, cut, packet_at, walk_of}
use Rattle.tlv.proofs.CutsLaws.{complete_if, complete-fits, short-header, short-packet, cut-end, cut-more}

module _ (s : List ℕ) (at : ℕ) where
  pub header-past : length s - at < 4 → complete (drop at s) ≡ false
  header-past h = short-header (drop at s) (rw length-drop h)

  pub packet-past : 4 ≤ length s - at → length s - at < total (drop at s) → complete (drop at s) ≡ false
  packet-past h t = short-packet (drop at s) (rw length-drop h) (rw length-drop t)

  pub packet-within : 4 ≤ length s - at → total (drop at s) ≤ length s - at → complete (drop at s) ≡ true
  packet-within h t = complete_if (drop at s) (rw length-drop h) (rw length-drop t)

  pub tail_there : complete (drop at s) ≡ false → packet_at s at ≡ None
  unfolding packet_at
  tail_there e = rw e

  pub packet_there : complete (drop at s) ≡ true → packet_at s at ≡ Some (at + total (drop at s))
  unfolding packet_at
  packet_there e = rw e

  -- the first byte there
  pub marked-at : at < length s → marked (drop at s) ≡ good_first (get_or s at 0)
  unfolding marked
  marked-at h = rw (drop-cons s at 0 h)

  pub marked-end : length s ≤ at → marked (drop at s) ≡ true
  unfolding marked
  marked-end h = rw (drop_of_length-le s h)

-- a first byte that is not good spoils the cut
pub cut_unmarked : (b : List ℕ) → marked b ≡ false → (cut b).good ≡ false
cut_unmarked b m = go (complete b) refl
  where
    go : (c : Bool) → complete b ≡ c → (cut b).good ≡ false
    go true e = rw (cut-more b e, m)
    go false e = rw (cut-end b e, m)

-- what the answer for one packet says
complete_is : (b : Bool) (e to : ℕ) → cond b (Some e) None ≡ Some to → (b ≡ true) × (e ≡ to)
complete_is true e to p = (refl, cc)
complete_is false e to p = (cc, cc)

complete_not : (b : Bool) (e : ℕ) → cond b (Some e) None ≡ None → b ≡ false
complete_not true e p = cc
complete_not false e p = refl

-- the three cases of the walk
module _ (s : List ℕ) (at : ℕ) where
  pub walk_unmarked : marked (drop at s) ≡ false → walk_of s at ≡ None
  unfolding walk_of
  walk_unmarked m = rw (cut_unmarked (drop at s) m)

  pub walk_tail : at ≤ length s → marked (drop at s) ≡ true → packet_at s at ≡ None → walk_of s at ≡ Some at
  unfolding packet_at walk_of
  walk_tail h m p =
      let l : length s - (length s - at) ≡ at = omega arith in
      let e = complete_not (complete (drop at s)) _ p in
      rw (cut-end (drop at s) e, m, length-drop at s, l)

  pub walk_on : marked (drop at s) ≡ true → (to : ℕ) → packet_at s at ≡ Some to → walk_of s at ≡ walk_of s to
  unfolding packet_at walk_of
  walk_on m to p =
      let e = complete_is (complete (drop at s)) _ to p in
      rw (← e.1, cut-more (drop at s) e.0, m, drop-drop (total (drop at s)) at s)

  -- a packet has at least its header
  pub packet_within : (to : ℕ) → packet_at s at ≡ Some to → (at < to) × (to ≤ length s)
  unfolding packet_at
  packet_within to p =
      let e = complete_is (complete (drop at s)) _ to p in
      let f = complete-fits (drop at s) e.0 in
      let l = length-drop at s in
      (omega (arith, e.1), omega (arith, e.1))

  pub packet_past : length s ≤ at → packet_at s at ≡ None
  unfolding packet_at
  packet_past h = rw (short-header (drop at s) (rw length-drop (omega arith)))

-- and what each answer of it says
tail_at : (g : Bool) (e end : ℕ) → cond g (Some e) None ≡ Some end → (g ≡ true) × (e ≡ end)
tail_at true e end w = (refl, cc)
tail_at false e end w = (cc, cc)

module _ (s : List ℕ) (at : ℕ) where
  pub unmarked_bad : walk_of s at ≡ None → (cut (drop at s)).good ≡ false
  unfolding walk_of
  unmarked_bad w = go (cut (drop at s)).good w
    where
      go : (g : Bool) → cond g (Some (length s - length (cut (drop at s)).tail)) None ≡ None → g ≡ false
      go true w = cc
      go false w = refl

  pub tail-good : (end : ℕ) → walk_of s at ≡ Some end
      → ((cut (drop at s)).good ≡ true) × (length s - length (cut (drop at s)).tail ≡ end)
  unfolding walk_of
  tail-good end w = tail_at (cut (drop at s)).good (length s - length (cut (drop at s)).tail) end w
