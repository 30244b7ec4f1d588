-- Why next takes from the cursor what it has yet to give, piece by piece: by what stands at the cursor.
use Prim.Native.Nat.{ℕ, ◌+◌, ◌-◌, ◌≤◌, ◌<◌}
use mathlib.Core.Path.{◌≡◌, refl, sym, ◌∙◌, ap}
use mathlib.Core.Bool.{Bool, true, false, true≢false}
use mathlib.Core.List.{List, ◌∷◌, ◌++◌, append-nil}
use native.Mathlib.Nat.{sub-zero}
use native.Mathlib.Omega.{arith}
use lib.ListN.{length, take, drop}
use lib.Seq.{drop-drop}
use lib.Dec.{eqb}
use borrow.Author.Tests.{eqb-true}
use Rattle.wire.specs.Memory.{part_of}
use Rattle.tlv.specs.declared.note.SlotNote.TheVariants.{TooLong}
use Rattle.tlv.specs.Notes.{number_of}
use Rattle.tlv.specs.Packet.{total, complete, too_long, cut, packet_at, in_front}
use Rattle.tlv.proofs.CutsLaws.{complete-fits, cut-end, cut-more}
use Rattle.delivery.specs.Found.{Advanced}
use Rattle.queue.specs.Event.{Note}
use Rattle.delivery.specs.Found.{Event, Packet, Tail, Done}
use Rattle.intake.specs.declared.held.Cursor.{Cursor}
use Rattle.intake.specs.declared.held.Held.{Held}
use Rattle.intake.specs.Slot.{holding, noted}
use Rattle.delivery.specs.Cursor.{tail_advanced, slot_advanced, advanced_of, left}
use Rattle.broadcast.specs.Pending.{
  Found,
  slot-notes,
  a-packet,
  some_if,
  slot_pending,
  held_after,
  cursor_pending,
  cursor_leaves,
}
use Rattle.broadcast.specs.SlotClaims.{CursorGood, Advances, Advance}
use Rattle.broadcast.proofs.SlotCut.{cut_gives, cut_leaves, leaves-cut}
use Rattle.broadcast.proofs.SlotMemory.{length-part-end, part-first}

abbrev Goes : Cursor → Held → List ℕ → Advanced → Type 0
Goes c h p r = Advances r.found c r.cursor h p

-- the same place, with another note and another packet
abbrev with : ℕ → ℕ → Cursor → Cursor
with n k c = record { note = n; packet = k; reading = c.reading; at = c.at; end = c.end }

module _ (n k : ℕ) (c : Cursor) (h : Held) (p : List ℕ) where
  same_pending : (r : Bool) → slot_pending r c p ≡ slot_pending r (with n k c) p
  same_pending true = refl
  same_pending false = refl

  same-held : (r : Bool) → held_after r c h p ≡ held_after r (with n k c) h p
  same-held true = leaves-cut c h p ∙ sym (leaves-cut (with n k c) h p)
  same-held false = refl

  same-leaves : cursor_leaves c h p ≡ cursor_leaves (with n k c) h p
  unfolding cursor_leaves
  same-leaves = same-held c.reading

  same_good : CursorGood c h p → k ≤ length p → CursorGood (with n k c) h p
  same_good g l =
      record { packet-inside = l; slot-inside = g.slot-inside; held_none = g.held_none; placeless = g.placeless }

module _ (c : Cursor) (h : Held) (p : List ℕ) (g : CursorGood c h p) where
  -- the slot's own note
  note-next : eqb c.note 0 ≡ false → Goes c h p (advanced_of c p)
  note-next e =
      let r : advanced_of c p ≡ record { found = Event (Note c.note 0); cursor = with 0 c.packet c } = unfold advanced_of in rw e in
      rw r (
        refl,
        record {
          gives = unfold cursor_pending in rw (e, ← same_pending 0 c.packet c h p c.reading);
          leaves = same-leaves 0 c.packet c h p;
          good = same_good 0 c.packet c h p g g.packet-inside;
        },
      )

  -- the packet that it completed
  packet-next : eqb c.note 0 ≡ true → eqb c.packet 0 ≡ false → Goes c h p (advanced_of c p)
  packet-next e k =
      let r : advanced_of c p ≡ record { found = Packet 0 c.packet; cursor = with c.note 0 c } =
      unfold advanced_of in rw (e, k) in
      rw r
      (record {
        ordered = omega arith;
        inside = g.packet-inside;
        gives = unfold cursor_pending in rw (e, k, ← same_pending c.note 0 c h p c.reading, sub-zero);
        leaves = same-leaves c.note 0 c h p;
        good = same_good c.note 0 c h p g (omega arith);
        falls = unfold left in rw k (omega arith);
      })

-- no slot is read
abbrev pub still : ℕ → ℕ → Cursor
still n k = record { note = n; packet = k; reading = false; at = 0; end = 0 }

pub still-good : (n k : ℕ) (h : Held) (p : List ℕ) → k ≤ length p → CursorGood (still n k) h p
still-good n k h p l =
    record {
      packet-inside = l;
      slot-inside = λ r. absurd (true≢false (sym r));
      held_none = λ r. absurd (true≢false (sym r));
      placeless = λ r. (refl, refl);
    }

pub still-gives : (n k : ℕ) (p : List ℕ)
    → cursor_pending (still n k) p ≡ some_if n (slot-notes n) ++ some_if k (a-packet (part_of p 0 k))
unfolding cursor_pending
still-gives n k p = ap (λ (l : List Found). some_if n (slot-notes n) ++ l) (append-nil (some_if k (a-packet (part_of p 0 k))))

pub still-leaves : (n k : ℕ) (h : Held) (p : List ℕ) → cursor_leaves (still n k) h p ≡ h
unfolding cursor_leaves
still-leaves n k h p = refl

-- neither a note nor a packet waits
module _ (n k at end : ℕ) (h : Held) (p : List ℕ) (e : eqb n 0 ≡ true) (f : eqb k 0 ≡ true) where
  abbrev cur : Bool → ℕ → Cursor
  cur r i = record { note = n; packet = k; reading = r; at = i; end = end }

  -- nothing is read
  done_next : CursorGood (cur false at) h p → Goes (cur false at) h p (advanced_of (cur false at) p)
  done_next g =
      let r : advanced_of (cur false at) p ≡ record { found = Done; cursor = cur false at } = unfold advanced_of in rw (e, f) in
      let u : n ≡ 0 = eqb-true n 0 e in
      let v : k ≡ 0 = eqb-true k 0 f in
      let x = g.placeless refl in
      rw r
      (record {
        gives = unfold cursor_pending in rw (e, f);
        leaves = unfold cursor_leaves in refl;
        stays = refl;
        over = cc;
      })

  abbrev slot : List ℕ
  slot = part_of p 0 end

  -- the slot is read from i on
  pending_slot : (i : ℕ) → cursor_pending (cur true i) p ≡ cut_gives (cut (drop i slot))
  unfolding cursor_pending
  pending_slot i = rw (e, f)

  leaves-slot : (i : ℕ) → cursor_leaves (cur true i) h p ≡ cut_leaves end (cut (drop i slot))
  unfolding cursor_leaves
  leaves-slot i = leaves-cut (cur true i) h p

  less-left : (i j : ℕ) → i < j → j ≤ end → left (cur true j) < left (cur true i)
  unfolding left
  less-left i j l m = omega arith

  module _ (g : CursorGood (cur true at) h p) where
    abbrev bytes : List ℕ
    bytes = drop at slot

    inside : (at ≤ end) × (end ≤ length p)
    inside = g.slot-inside refl

    -- a packet of the slot
    read_next : complete bytes ≡ true → Goes (cur true at) h p (advanced_of (cur true at) p)
    read_next m =
        let next : ℕ = at + total bytes in
        let r : advanced_of (cur true at) p ≡ record { found = Packet at next; cursor = cur true next } =
        unfold advanced_of slot_advanced packet_at in rw (e, f, m) in
        let i = inside in
        let l : length bytes ≡ end - at = length-part-end p at end i.0 i.1 in
        let w : (4 ≤ total bytes) × (total bytes ≤ length bytes) = complete-fits bytes m in
        let y : cut bytes ≡ in_front bytes (cut (drop next slot)) =
        cut-more bytes m ∙ ap (λ (b : List ℕ). in_front bytes (cut b)) (drop-drop (total bytes) at slot) in
        let z : total bytes ≡ next - at = omega arith in
        let x : take (total bytes) bytes ≡ part_of p at (next - at) =
        part-first p at end i.0 i.1 (total bytes) (omega arith) ∙ ap (part_of p at) z in
        rw r
        (record {
          ordered = omega arith;
          inside = omega arith;
          gives = pending_slot at
              ∙ ap cut_gives y
              ∙ ap (λ (b : List ℕ). a-packet b ∷ cut_gives (cut (drop next slot))) x
              ∙ ap (λ (l : List Found). a-packet (part_of p at (next - at)) ∷ l) (sym (pending_slot next));
          leaves = leaves-slot at ∙ ap (cut_leaves end) y ∙ sym (leaves-slot next);
          good = record {
            packet-inside = g.packet-inside;
            slot-inside = λ q. (omega arith, i.1);
            held_none = g.held_none;
            placeless = λ q. absurd (true≢false q);
          };
          falls = less-left at next (omega arith) (omega arith);
        })

    -- its tail
    tail-next : complete bytes ≡ false → (l : Bool) → too_long bytes ≡ l → Goes (cur true at) h p (advanced_of (cur true at) p)
    tail-next m true l =
        let r : advanced_of (cur true at) p ≡ record { found = Event (Note (number_of TooLong) 0); cursor = noted 0 } =
        unfold advanced_of slot_advanced packet_at tail_advanced in rw (e, f, m, l) in
        rw r (
          refl,
          record {
            gives = pending_slot at ∙ ap cut_gives (cut-end bytes m) ∙ rw l (unfold cursor_pending in refl);
            leaves = leaves-slot at ∙ ap (cut_leaves end) (cut-end bytes m) ∙ rw l (unfold cursor_leaves in sym (g.held_none refl));
            good = still-good 0 0 h p (omega arith);
          },
        )
    tail-next m false l =
        let r : advanced_of (cur true at) p ≡ record { found = Tail at (end - at); cursor = noted 0 } =
        unfold advanced_of slot_advanced packet_at tail_advanced in rw (e, f, m, l) in
        let i = inside in
        let u : length bytes ≡ end - at = length-part-end p at end i.0 i.1 in
        let z : end - (end - at) ≡ at = omega arith in
        rw r
        (record {
          gives = pending_slot at ∙ ap cut_gives (cut-end bytes m) ∙ rw l;
          gives_more = unfold cursor_pending in refl;
          leaves = leaves-slot at ∙ ap (cut_leaves end) (cut-end bytes m) ∙ rw (l, u, z);
          leaves-more = unfold cursor_leaves in refl;
          good = still-good 0 0 (holding at (end - at)) p (omega arith);
          falls = unfold left in omega arith;
        })

    slot_next : Goes (cur true at) h p (advanced_of (cur true at) p)
    slot_next = go (complete bytes) refl
      where
        go : (b : Bool) → complete bytes ≡ b → Goes (cur true at) h p (advanced_of (cur true at) p)
        go true m = read_next m
        go false m = tail-next m (too_long bytes) refl

pub advance : Advance
advance c h p g = go (eqb c.note 0) (eqb c.packet 0) c.reading refl refl g
  where
    at-end : Bool → Cursor
    at-end r = record { note = c.note; packet = c.packet; reading = r; at = c.at; end = c.end }

    go : (x y r : Bool) → eqb c.note 0 ≡ x → eqb c.packet 0 ≡ y → CursorGood (at-end r) h p
        → Goes (at-end r) h p (advanced_of (at-end r) p)
    go false y r e f g = note-next (at-end r) h p g e
    go true false r e f g = packet-next (at-end r) h p g e f
    go true true false e f g = done_next c.note c.packet c.at c.end h p e f g
    go true true true e f g = slot_next c.note c.packet c.at c.end h p e f g
