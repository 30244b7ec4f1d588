-- Parts of packet memory, and what stands there once a slot, and the packet that it continues, are copied in.
use Prim.Native.Nat.{ℕ, ◌+◌, ◌-◌, ◌≤◌}
use mathlib.Core.Path.{◌≡◌, sym, ◌∙◌, ap}
use mathlib.Core.List.{List, ◌++◌}
use native.Mathlib.Omega.{arith}
use lib.ListN.{length, take, drop, length-drop}
use lib.Seq.{length-take-le, take-length, take-append-le, take-take, drop-drop, take-add, drop_at, take-paste}
use Rattle.wire.specs.Memory.{part_of, pasted}
use Rattle.wire.proofs.MemoryLaws.{part-inside, length-pasted}
use Rattle.tlv.specs.Packet.{cut}
use Rattle.tlv.proofs.CutsLaws.{cut-tail, cut-tail-length}
use Rattle.intake.specs.declared.held.Held.{Held}
use Rattle.intake.specs.Slot.{slot_area, copied, moved_mem, continued_mem, held_bytes, held_len}

module _ (p : List ℕ) where
  pub front-is : (n : ℕ) → n ≤ length p → part_of p 0 n ≡ take n p
  front-is n h = part-inside p 0 n (omega arith)

  pub length_front : (n : ℕ) → n ≤ length p → length (part_of p 0 n) ≡ n
  length_front n h = rw (front-is n h) (length-take-le n p h)

  -- the part from s up to e is also the end of the first e bytes
  window : (s e : ℕ) → s ≤ e → e ≤ length p → drop s (take e p) ≡ take (e - s) (drop s p)
  window s e h k =
      let z : e ≡ s + (e - s) = omega arith in
      ap (λ (n : ℕ). drop s (take n p)) z
      ∙ ap (drop s) (take-add s (e - s) p)
      ∙ drop_at (take s p) (take (e - s) (drop s p)) s (length-take-le s p (omega arith))

  module _ (s e : ℕ) (h : s ≤ e) (k : e ≤ length p) where
    pub part_end : drop s (part_of p 0 e) ≡ part_of p s (e - s)
    part_end = ap (drop s) (front-is e k) ∙ window s e h k ∙ sym (part-inside p s (e - s) (omega arith))

    pub length-part-end : length (drop s (part_of p 0 e)) ≡ e - s
    length-part-end = length-drop s (part_of p 0 e) ∙ ap (λ (n : ℕ). n - s) (length_front e k)

    -- its first n bytes
    pub part-first : (n : ℕ) → s + n ≤ e → take n (drop s (part_of p 0 e)) ≡ part_of p s n
    part-first n l =
        ap (λ (b : List ℕ). take n (drop s b)) (front-is e k)
        ∙ ap (take n) (window s e h k)
        ∙ take-take n (e - s) (drop s p) (omega arith)
        ∙ sym (part-inside p s n (omega arith))

  -- where the tail of it stands
  module _ (s e : ℕ) (h : s ≤ e) (k : e ≤ length p) where
    abbrev bytes : List ℕ
    bytes = drop s (part_of p 0 e)

    abbrev rest : ℕ
    rest = length (cut bytes).tail

    pub tail-inside : rest ≤ e - s
    tail-inside = rw length-part-end at (cut-tail-length bytes)

    pub part-tail : part_of p (e - rest) rest ≡ (cut bytes).tail
    part-tail =
        let l = tail-inside in
        let m : length bytes ≡ e - s = length-part-end s e h k in
        let u : rest ≡ e - (e - rest) = omega arith in
        let v : e - rest ≡ s + (length bytes - rest) = omega arith in
        ap (part_of p (e - rest)) u
        ∙ sym (part_end (e - rest) e (omega arith) k)
        ∙ ap (λ (n : ℕ). drop n (part_of p 0 e)) v
        ∙ sym (drop-drop (length bytes - rest) s (part_of p 0 e))
        ∙ cut-tail bytes

-- a slot copied to byte `slot_area`
module _ (m d : List ℕ) (room : slot_area + length d ≤ length m) where
  pub length-copied : length (copied m d) ≡ length m
  unfolding copied
  length-copied = length-pasted m slot_area d (length d) room (omega arith)

  copied_up_to : take (slot_area + length d) (copied m d) ≡ take slot_area m ++ d
  unfolding copied pasted
  copied_up_to =
      take-paste m slot_area d (length d) (omega arith) (omega arith) ∙ ap (λ (b : List ℕ). take slot_area m ++ b) (take-length d)

  -- the slot, from top on
  pub copied-slot : (top : ℕ) → drop (slot_area + top) (part_of (copied m d) 0 (slot_area + length d)) ≡ drop top d
  copied-slot top =
      ap (drop (slot_area + top)) (front-is (copied m d) (slot_area + length d) (rw length-copied room) ∙ copied_up_to)
      ∙ sym (drop-drop top slot_area (take slot_area m ++ d))
      ∙ ap (drop top) (drop_at (take slot_area m) d slot_area (length-take-le slot_area m (omega arith)))

  -- what stands before it
  pub copied-front : (n : ℕ) → n ≤ slot_area → part_of (copied m d) 0 n ≡ take n m
  copied-front n h =
      front-is (copied m d) n (rw length-copied (omega arith))
      ∙ sym (take-take n (slot_area + length d) (copied m d) (omega arith))
      ∙ ap (take n) copied_up_to
      ∙ take-append-le n (take slot_area m) d (rw (length-take-le slot_area m (omega arith)) h)
      ∙ take-take n slot_area m h

-- held bytes moved to byte 0, with k bytes of the slot behind them
module _ (h : Held) (p d : List ℕ) (k : ℕ) (inside : h.start + h.len ≤ length p) (fits : held_len h p + k ≤ length p)
    (enough : k ≤ length d) where
  held-length : held_len h p ≡ h.len
  held-length =
      rw (part-inside p h.start h.len inside) (length-take-le h.len (drop h.start p) (rw length-drop (omega arith)))

  bytes_left : held_len h p ≤ length (drop h.start p)
  bytes_left = rw (held-length, length-drop h.start p) (omega arith)

  abbrev moved : List ℕ
  moved = pasted p 0 (drop h.start p) (held_len h p)

  length_moved : length moved ≡ length p
  length_moved = length-pasted p 0 (drop h.start p) (held_len h p) (omega arith) bytes_left

  moved_front : take (held_len h p) moved ≡ held_bytes h p
  unfolding pasted
  moved_front =
      let z : held_len h p ≡ 0 + held_len h p = omega arith in
      ap (λ (n : ℕ). take n moved) z
      ∙ take-paste p 0 (drop h.start p) (held_len h p) (omega arith) bytes_left
      ∙ ap (λ (n : ℕ). take n (drop h.start p)) held-length
      ∙ sym (part-inside p h.start h.len inside)

  pub length-continued : length (continued_mem h p d k) ≡ length p
  unfolding continued_mem moved_mem
  length-continued = length-pasted moved (held_len h p) d k (rw length_moved fits) enough ∙ length_moved

  pub continued-front : take (held_len h p + k) (continued_mem h p d k) ≡ held_bytes h p ++ take k d
  unfolding continued_mem moved_mem pasted
  continued-front =
      take-paste moved (held_len h p) d k (rw length_moved (omega arith)) enough
      ∙ ap (λ (b : List ℕ). b ++ take k d) moved_front
