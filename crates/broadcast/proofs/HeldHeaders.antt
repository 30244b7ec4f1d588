-- Held headers: each call leaves a state and packet memory whose held bytes, once the slot is read, are those of slots over lists.
use Prim.Native.Nat.{ℕ, suc, zero, ◌+◌, ◌≤◌}
use mathlib.Core.Path.{◌≡◌, refl, sym, ◌∙◌}
use mathlib.Core.Bool.{Bool, true, false, true≢false}
use mathlib.Core.List.{List, [], ◌∷◌}
use native.Mathlib.Omega.{arith}
use lib.ListN.{length}
use lib.Dec.{eqb}
use borrow.Author.Tests.{eqb-true}
use Rattle.wire.proofs.Choice.{either, by_test}
use Rattle.tmcc.specs.declared.layout.Pointers.{Pointers}
use Rattle.tmcc.specs.Block.{decode_of}
use Rattle.tlv.specs.Packet.{marked}
use Rattle.tlv.specs.Run.{State as Slot-state, searching as slot-searching, held, Stepped, lost, given}
use Rattle.tlv.specs.Claims.{HeldGood}
use Rattle.tlv.proofs.HeldGood.{step-held-good}
use Rattle.reassembly.specs.declared.config.Config.{Config}
use Rattle.intake.specs.declared.held.Cursor.{Cursor}
use Rattle.intake.specs.declared.held.Held.{Held}
use Rattle.intake.specs.Slot.{packet_memory, searching, holding, noted, held_bytes}
use Rattle.queue.specs.Event.{Event}
use Rattle.queue.specs.Event.{Nothing, Note, Unit, Refused}
use Rattle.delivery.specs.Found.{Found}
use Rattle.delivery.specs.Found.{Event as AnEvent, Packet, Tail, Done}
use Rattle.queue.specs.Waiting.{Queue}
use Rattle.delivery.specs.Cursor.{advanced_of, turn_by, turn_of, left}
use Rattle.queue.specs.Queue.{event_taken}
use Rattle.state.specs.State.{State, Called, with_slot, with_queue}
use Rattle.state.specs.Start.{start_refusal, fresh_state, start_of, start_from}
use Rattle.frames.specs.Frame.{frame_busy, frame_of, loss_of, lost_frame_of}
use Rattle.frames.proofs.FrameLaws.{free}
use Rattle.frames.specs.Slot.{SlotOut, slot_refusal, counted, due_length, due_pointers, due_own, wrong_length, slot_taken, slot_of, loss_taken, lost_slot_of, short_by}
use Rattle.frames.proofs.SlotLaws.{ready, right-length}
use Rattle.receiver.specs.Next.{NextOut, packet_of, past, onwards, read_on, read_all, next_of}
use Rattle.receiver.proofs.ReadOnLaws.{packet-kept}
use Rattle.broadcast.specs.Drains.{HeldIs}
use Rattle.broadcast.specs.Pending.{cursor_leaves}
use Rattle.broadcast.specs.SlotClaims.{Short, CursorGood, Same, slot_from, Advances}
use Rattle.broadcast.specs.Calls.{Machine, Call, frame, lost-frame, slot, lost-slot, next, did, Made, own, shows, added, machine_after, machine_after_all}
use Rattle.broadcast.specs.Demand3.{started}
use Rattle.broadcast.specs.HeldHeaders.{HeldHeader, HeldHeaders}
use Rattle.broadcast.proofs.Advance.{advance, still-good}
use Rattle.broadcast.proofs.SlotReads.{own-reads, loss_reads}

-- once the cursor has given all, the held bytes are those of a state over lists that begin with a good first byte
pub record Holds (st : State) (p : List ℕ) : Type 0 where
  pub slots : Slot-state ℕ
  pub first : HeldGood slots
  pub short : Short slots
  pub leaves : HeldIs (cursor_leaves st.cursor st.held p) p slots
  pub good : CursorGood st.cursor st.held p
  pub paid : st.owed ≡ false → st.cursor ≡ noted 0

-- where nothing is owed, they are held now
held-now : (st : State) (p : List ℕ) (k : Holds st p) → st.owed ≡ false → HeldIs st.held p k.slots
unfolding cursor_leaves
held-now st p k o = rw (k.paid o) at k.leaves

-- a slot was taken
taken-holds : (st : State) (p : List ℕ) (w : Stepped ℕ) → Same st.cursor st.held p w → st.owed ≡ true → HeldGood w.state
    → Holds st p
taken-holds st p w s o h =
    record {
      slots = w.state;
      first = h;
      short = s.short;
      leaves = s.leaves;
      good = s.good;
      paid = λ e. absurd (true≢false (sym o ∙ e));
    }

-- nothing of the slot changed
module _ (st : State) (p : List ℕ) (k : Holds st p) where
  kept-holds : (after : State) → after.owed ≡ st.owed → after.held ≡ st.held → after.cursor ≡ st.cursor → Holds after p
  kept-holds after o h c =
      record {
        slots = k.slots;
        first = k.first;
        short = k.short;
        leaves = rw (h, c) k.leaves;
        good = rw (h, c) k.good;
        paid = λ e. c ∙ k.paid (sym o ∙ e);
      }

  counted-holds : Holds (counted st) p
  unfolding counted
  counted-holds =
      record {
        slots = k.slots;
        first = k.first;
        short = k.short;
        leaves = k.leaves;
        good = k.good;
        paid = λ e. absurd (true≢false e);
      }

  -- next moved the cursor, and owes more
  moved_holds : (cur : Cursor) → st.owed ≡ true → cursor_leaves st.cursor st.held p ≡ cursor_leaves cur st.held p
      → CursorGood cur st.held p → Holds (with_slot st st.held cur) p
  moved_holds cur o l g =
      record {
        slots = k.slots;
        first = k.first;
        short = k.short;
        leaves = rw l at k.leaves;
        good = g;
        paid = λ e. absurd (true≢false (sym o ∙ e));
      }

-- frame and lost frame
module _ (st : State) (p : List ℕ) (k : Holds st p) where
  abbrev Leaves : Called → Type 0
  Leaves r = Holds r.state p

  frame-holds : (b : List ℕ) → Leaves (frame_of st b)
  unfolding frame_of
  frame-holds b =
      either Leaves (eqb (length b) 1178)
      (either Leaves (frame_busy st) k
      (either Leaves (eqb (decode_of b st.config.stream).refusal 0) (kept-holds st p k _ refl refl refl) k))
      k

  -- a slot is lost, counted before or not
  loss_holds : (s : State) → s.held ≡ st.held → st.owed ≡ false → Holds (loss_of s) p
  loss_holds s h o =
      let r = loss_reads s p k.slots (rw h (held-now st p k o)) in
      taken-holds (loss_of s) p _ r.slot r.owed (step-held-good ℕ k.slots lost k.first)

  lost-frame-holds : Leaves (lost_frame_of st)
  unfolding lost_frame_of
  lost-frame-holds = by_test Leaves (frame_busy st) _ _ (λ b. k) (λ b. loss_holds st refl (free st b).1)

  -- slot, with its data or lost
  loss_taken_lem : (o : Bool) → st.owed ≡ false → Holds (loss_taken o st) p
  loss_taken_lem true e = loss_holds (counted st) (unfold counted in refl) e
  loss_taken_lem false e = counted-holds st p k

  lost-slot-holds : (packet collecting : ℕ) → Leaves (lost_slot_of st packet collecting)
  unfolding lost_slot_of
  lost-slot-holds packet collecting =
      by_test Leaves (eqb (slot_refusal st packet collecting) 0) _ _
      (λ e. loss_taken_lem (due_own st) (ready st packet collecting (eqb-true _ _ e)).free) (λ e. k)

  abbrev Both : SlotOut → Type 0
  Both r = Holds r.0.state r.1

  slot-taken : (o : Bool) (d : List ℕ) (t : Pointers) → st.owed ≡ false → packet_memory ≤ length p → length d ≤ 5049
      → Both (slot_taken o st p d t)
  unfolding counted
  slot-taken true d t e l n =
      let r = own-reads 0 (counted st) p d t refl (omega arith) (omega arith) k.slots (held-now st p k e) k.short in
      taken-holds _ _ _ r.slot r.owed (step-held-good ℕ k.slots (given 0 (slot_from d t)) k.first)
  slot-taken false d t e l n = counted-holds st p k

  slot-holds : (c d : List ℕ) → Both (slot_of st p c d)
  unfolding slot_of
  slot-holds c d =
      by_test Both (eqb (slot_refusal st (length p) (length c)) 0) _ _
      (λ e.
      let r = ready st (length p) (length c) (eqb-true _ _ e) in
      by_test Both (wrong_length (due_length st) (length d)) _ _ (λ w. k)
      (λ w. slot-taken (due_own st) d (due_pointers st) r.free r.packets (right-length _ _ w).0))
      (λ e. k)

-- next
abbrev LeavesNext : List ℕ → NextOut → Type 0
LeavesNext p r = Holds r.0.state p

module _ (p : List ℕ) (more : State → List ℕ → NextOut)
    (again : (st : State) (c : List ℕ) → st.owed ≡ true → Holds st p → LeavesNext p (more st c)) where
  -- what was found, the queue being empty; the cursor cur is past it
  found-holds : (x : Found) (st : State) (c : List ℕ) (cur : Cursor) → st.owed ≡ true → (k : Holds st p)
      → Advances x st.cursor cur st.held p → LeavesNext p (onwards x (with_slot st st.held cur) p c more)
  found-holds (AnEvent Nothing) st c cur o k a = absurd a
  found-holds (AnEvent (Note n id)) st c cur o k a = moved_holds st p k cur o a.1.leaves a.1.good
  found-holds (AnEvent (Unit g)) st c cur o k a = absurd a
  found-holds (AnEvent (Refused n)) st c cur o k a = absurd a
  found-holds (Packet s e) st c cur o k a =
      let st' = with_slot st st.held cur in
      let q = packet-kept st' p c s e in
      let r = packet_of st' p c s e in
      again r.0 r.1 (q.owed ∙ o)
      (kept-holds st' p (moved_holds st p k cur o a.leaves a.good) r.0 q.owed q.held q.cursor)
  found-holds (Tail s l) st c cur o k a =
      again (with_slot st (holding s l) cur) c o
      (record {
        slots = k.slots;
        first = k.first;
        short = k.short;
        leaves = rw a.leaves-more (rw a.leaves at k.leaves);
        good = a.good;
        paid = λ e. absurd (true≢false (sym o ∙ e));
      })
  found-holds Done st c cur o k a =
      record {
        slots = k.slots;
        first = k.first;
        short = k.short;
        leaves = rw a.stays k.leaves;
        good = rw a.stays k.good;
        paid = λ e. a.stays ∙ a.over;
      }

  -- what was taken from the queue, or, where it is empty, found next
  turned-holds : (e : Event) (st : State) (c : List ℕ) (q : Queue) → st.owed ≡ true → Holds st p
      → let t = turn_by e q st.cursor p in LeavesNext p (onwards t.found (past st t) p c more)
  turned-holds Nothing st c q o k =
      let a = advanced_of st.cursor p in
      found-holds a.found (with_queue st q) c a.cursor o (kept-holds st p k (with_queue st q) refl refl refl)
      (advance st.cursor st.held p k.good)
  turned-holds (Note n id) st c q o k = kept-holds st p k _ refl refl refl
  turned-holds (Unit g) st c q o k = kept-holds st p k _ refl refl refl
  turned-holds (Refused n) st c q o k = kept-holds st p k _ refl refl refl

read-holds : (n : ℕ) (p : List ℕ) (st : State) (c : List ℕ) → st.owed ≡ true → Holds st p → LeavesNext p (read_on n st p c)
unfolding read_on turn_of
read-holds zero p st c o k = k
read-holds (suc n) p st c o k =
    let t = event_taken st.queue p in
    turned-holds p (λ s d. read_on n s p d) (read-holds n p) t.event st c t.queue o k

next-holds : (st : State) (p c : List ℕ) → Holds st p → LeavesNext p (next_of st p c)
unfolding next_of read_all
next-holds st p c k =
    either (LeavesNext p) (short_by st.config (length p) (length c)) k
    (by_test (LeavesNext p) st.owed _ _ (λ o. read-holds (suc (left st.cursor)) p st c o k) (λ o. k))

-- a call, and a list of them
HoldsIn : Machine → Type 0
HoldsIn m = Holds m.state m.packet

did-holds : (c : Call) (m : Machine) → HoldsIn m → HoldsIn (did c m).machine
unfolding did HoldsIn
did-holds (frame b) m k = frame-holds m.state m.packet k b
did-holds lost-frame m k = lost-frame-holds m.state m.packet k
did-holds (slot d) m k = slot-holds m.state m.packet k m.collecting d
did-holds lost-slot m k = lost-slot-holds m.state m.packet k (length m.packet) (length m.collecting)
did-holds next m k = next-holds m.state m.packet m.collecting k

made_holds : (x : Made) (m : Machine) → HoldsIn m → HoldsIn (machine_after x m)
made_holds (own c) m k = did-holds c m k
made_holds shows m k = k
made_holds (added c) m k = did-holds c m k

all-holds : (xs : List Made) (m : Machine) → HoldsIn m → HoldsIn (machine_after_all m xs)
all-holds [] m k = k
all-holds (x ∷ xs) m k = all-holds xs (machine_after x m) (made_holds x m k)

fresh_holds : (cfg : Config) (p : List ℕ) → Holds (fresh_state cfg) p
unfolding fresh_state cursor_leaves
fresh_holds cfg p =
    record {
      slots = slot-searching;
      first = tt;
      short = tt;
      leaves = refl;
      good = still-good 0 0 searching p (omega arith);
      paid = λ e. refl;
    }

start-holds : (cfg : Config) (p : List ℕ) → Holds (start_of cfg).state p
unfolding start_from
start-holds cfg p =
    either (λ (r : Called). Holds r.state p) (eqb (start_refusal cfg) 0) (fresh_holds cfg p) (fresh_holds _ p)

-- what is held now
good-now : (h : Held) (p : List ℕ) (tl : Slot-state ℕ) → HeldIs h p tl → HeldGood tl → h.on ≡ true
    → (h.start + h.len ≤ length p) × (marked (held_bytes h p) ≡ true)
good-now h p slot-searching i m o = absurd (true≢false (sym o ∙ i))
good-now h p (held ls b) i m o = (i.1, rw i.2 m)

held-header : (m : Machine) → HoldsIn m → m.state.held.on ≡ true → HeldHeader m
unfolding HoldsIn cursor_leaves
held-header m k o = go m.state.cursor.reading refl
  where
    go : (r : Bool) → m.state.cursor.reading ≡ r → HeldHeader m
    go true e = absurd (true≢false (sym (rw (k.good.held_none e) at o)))
    go false e =
        let q = good-now m.state.held m.packet k.slots (rw e at k.leaves) k.first o in
        record { inside = q.0; begins = q.1 }

pub held_headers : HeldHeaders
unfolding HoldsIn
held_headers cfg p c xs o = held-header _ (all-holds xs (started cfg p c) (start-holds cfg p)) o
