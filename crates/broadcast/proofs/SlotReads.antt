-- Why a slot in packet memory gives and leaves what it does over lists: by whether it is sound, whether bytes are held, and
-- what becomes of their packet.
use Prim.Native.Nat.{ℕ, ◌+◌, ◌≤◌, ◌<◌}
use mathlib.Core.Path.{◌≡◌, refl, sym, ◌∙◌, ap, subst}
use mathlib.Core.Bool.{Bool, true, false, cond, true≢false}
use mathlib.Core.List.{List, [], ◌∷◌, ◌++◌, map, map-append, append_assoc}
use native.Mathlib.Omega.{arith}
use lib.ListN.{length, take, drop, length-append, length-drop}
use lib.Seq.{take-length, length-take-le}
use lib.Dec.{eqb}
use borrow.Author.Tests.{ne_eqb}
use Rattle.wire.specs.Memory.{part_of}
use Rattle.tmcc.specs.declared.layout.Pointers.{Pointers}
use Rattle.tlv.specs.declared.held.Continuation.{Continuation}
use Rattle.tlv.specs.declared.held.Continuation.TheVariants.{Dropped, Ends, GoesOn}
use Rattle.tlv.specs.declared.note.SlotNote.TheVariants.{Lost, Unsound}
use Rattle.tlv.specs.Notes.{number_of}
use Rattle.tlv.proofs.NotesLaws.{not_none}
use Rattle.tlv.specs.Packet.{cut}
use Rattle.tlv.proofs.CutsLaws.{cut-tail-length}
use Rattle.tlv.specs.Slot.{none, sound}
use Rattle.tlv.specs.Held.{continuation_of}
use Rattle.tlv.specs.Run.{
  Slot,
  State as Slot-state,
  searching as slot-searching,
  held,
  Stepped,
  Event,
  lost,
  given,
  stops,
  after,
  note,
  read_from,
  finished,
  resumed,
  arrived,
  step,
}
use Rattle.tlv.proofs.Answers.{says, top-inside}
use Rattle.tlv.proofs.Runs.{step_given}
use Rattle.intake.specs.declared.held.Cursor.{Cursor}
use Rattle.intake.specs.declared.held.Held.{Held}
use Rattle.state.specs.State.{State, with_slot, with_intake}
use Rattle.intake.specs.Slot.{
  packet_memory,
  searching,
  holding,
  noted,
  slot_area,
  cursor_from,
  held_bytes,
  packet_end,
  resumed_as,
  continued_mem,
  resumed_mem,
  copied,
  resumed_of,
  taken_by,
  intake_of,
  lost_of,
}
use Rattle.frames.specs.Frame.{loss_of}
use Rattle.frames.specs.Slot.{counted, own_of}
use Rattle.broadcast.specs.Drains.{HeldIs}
use Rattle.broadcast.specs.Pending.{Found, slot-notes, a-packet, bare, some_if, cursor_pending, cursor_leaves}
use Rattle.broadcast.specs.SlotClaims.{Short, CursorGood, Same, Reads, slot_from, OwnSlot, LostSlot, LostFrame}
use Rattle.broadcast.proofs.SlotMemory.{
  front-is,
  part-tail,
  tail-inside,
  length-copied,
  copied-slot,
  copied-front,
  length-continued,
  continued-front,
}
use Rattle.broadcast.proofs.SlotCut.{cut_gives, cut_leaves, leaves-cut, cut_step, cut-gives, cut-leaves, cut_short}
use Rattle.broadcast.proofs.SlotFits.{Fits, fits_so}
use Rattle.broadcast.proofs.Advance.{still, still-good, still-gives, still-leaves}

-- only a note is given, and the bytes held are dropped
stops_same : {A : Type 0} (n : ℕ) (es : List (Event A)) (q : List ℕ) → some_if n (slot-notes n) ++ [] ≡ map bare es
    → Same (noted n) searching q (stops es)
stops_same n es q e =
    record {
      gives = still-gives n 0 q ∙ e;
      leaves = rw (still-leaves n 0 searching q) refl;
      short = tt;
      good = still-good n 0 searching q (omega arith);
    }

abbrev slot_of : List ℕ → ℕ → ℕ → Slot
slot_of d top last = record { top = top; last = last; bytes = d }

-- packets are read from the top pointer
module _ {A : Type 0} (a : A) (d : List ℕ) (top last : ℕ) (small : length d ≤ slot_area) where
  abbrev s : Slot
  s = slot_of d top last

  read_short : (b : Bool) → Short (read_from b a s).state
  unfolding read_from
  read_short true = tt
  read_short false = cut_short a (cut (drop top d)) (omega (arith, cut-tail-length (drop top d), length-drop top d))

  module _ (m : List ℕ) (room : slot_area + length d ≤ length m) where
    abbrev q : List ℕ
    q = copied m d

    abbrev reading : ℕ → ℕ → Cursor
    reading k n = record { note = k; packet = n; reading = true; at = slot_area + top; end = slot_area + length d }

    slot-gives : (k n : ℕ) → cursor_pending (reading k n) q
        ≡ some_if k (slot-notes k) ++ (some_if n (a-packet (part_of q 0 n)) ++ map bare (read_from false a s).events)
    unfolding cursor_pending read_from
    slot-gives k n =
        ap (λ (l : List Found). some_if k (slot-notes k) ++ (some_if n (a-packet (part_of q 0 n)) ++ l))
        (ap (λ (b : List ℕ). cut_gives (cut b)) (copied-slot m d room top) ∙ cut-gives a (cut (drop top d)))

    slot-leaves : (k n : ℕ) (h : Held) → top ≤ length d → HeldIs (cursor_leaves (reading k n) h q) q (read_from false a s).state
    unfolding cursor_leaves read_from
    slot-leaves k n h t =
        let end : ℕ = slot_area + length d in
        let b : List ℕ = drop (slot_area + top) (part_of q 0 end) in
        let l : end ≤ length q = rw (length-copied m d room) room in
        let i = tail-inside q (slot_area + top) end (omega arith) l in
        let f : HeldIs (cut_leaves end (cut b)) q (cut_step a (cut b)).state =
        cut-leaves a (cut b) end q (omega arith) l (part-tail q (slot_area + top) end (omega arith) l) in
        rw (leaves-cut (reading k n) h q)
        (subst (λ (x : List ℕ). HeldIs (cut_leaves end (cut b)) q (cut_step a (cut x)).state) (copied-slot m d room top) f)

    -- behind the note k, and the packet of n bytes that the slot completed
    from_gives : (b : Bool) → eqb top none ≡ b → (k n : ℕ) → cursor_pending (cursor_from k n top (length d)) q
        ≡ some_if k (slot-notes k) ++ (some_if n (a-packet (part_of q 0 n)) ++ map bare (read_from b a s).events)
    unfolding cursor_from
    from_gives true e k n = rw e (unfold cursor_pending read_from in refl)
    from_gives false e k n = rw e (slot-gives k n)

    module _ (k n : ℕ) (within : n ≤ length m) where
      from-leaves : (b : Bool) → eqb top none ≡ b → (b ≡ false → top < length d)
          → HeldIs (cursor_leaves (cursor_from k n top (length d)) searching q) q (read_from b a s).state
      unfolding cursor_from
      from-leaves true e t = rw e (unfold cursor_leaves read_from in refl)
      from-leaves false e t = let u = t refl in rw e (slot-leaves k n searching (omega arith))

      from-good : (b : Bool) → eqb top none ≡ b → (b ≡ false → top < length d)
          → CursorGood (cursor_from k n top (length d)) searching q
      unfolding cursor_from
      from-good true e t = rw e (still-good k n searching q (rw (length-copied m d room) within))
      from-good false e t =
          let u = t refl in
          let z : length q ≡ length m = length-copied m d room in
          rw e
          (record {
            packet-inside = rw z within;
            slot-inside = λ r. (omega arith, rw z room);
            held_none = λ r. refl;
            placeless = λ r. absurd (true≢false r);
          })

    from-same : (b : Bool) → eqb top none ≡ b → (b ≡ false → top < length d) → (k n : ℕ) → n ≤ length m
        → (es : List (Event A)) → some_if k (slot-notes k) ++ some_if n (a-packet (part_of q 0 n)) ≡ map bare es
        → Same (cursor_from k n top (length d)) searching q (after es (read_from b a s))
    from-same b e t k n l es u =
        let more : List Found = map bare (read_from b a s).events in
        record {
          gives = from_gives b e k n
              ∙ sym (append_assoc (some_if k (slot-notes k)) (some_if n (a-packet (part_of q 0 n))) more)
              ∙ ap (λ (x : List Found). x ++ more) u
              ∙ sym (map-append bare es (read_from b a s).events);
          leaves = from-leaves k n l b e t;
          short = read_short b;
          good = from-good k n l b e t;
        }

-- the slot call, on a state that owes next: it leaves held bytes and a cursor
made : {A : Type 0} (st : State) (p : List ℕ) → st.owed ≡ true → (h : Held) (c : Cursor) (q : List ℕ) (w : Stepped A)
    → length q ≡ length p → Same c h q w → Reads st st.frame p (with_slot st h c, q) w
made st p o h c q w e x =
    record {
      slot = x;
      same_length = e;
      config = refl;
      frame = refl;
      owed = o;
      queue = refl;
      channels = refl;
    }

-- ... where bytes are held
module _ {A : Type 0} (a : A) (st : State) (p d : List ℕ) (top last : ℕ) (owed : st.owed ≡ true) (small : length d ≤ slot_area)
    (room : slot_area + length d ≤ length p) where
  abbrev bytes : List ℕ
  bytes = held_bytes st.held p

  -- the held packet goes on for e bytes of the slot
  module _ (inside : st.held.start + st.held.len ≤ length p) (e : ℕ) (fits : length bytes + e ≤ slot_area)
      (within : e ≤ length d) where
    abbrev mem : List ℕ
    mem = continued_mem st.held p d e

    abbrev out : List ℕ
    out = copied mem d

    mem-length : length mem ≡ length p
    mem-length = length-continued st.held p d e inside (omega arith) within

    mem-room : slot_area + length d ≤ length mem
    mem-room = rw mem-length room

    out-length : length out ≡ length p
    out-length = length-copied mem d mem-room ∙ mem-length

    front : part_of out 0 (length bytes + e) ≡ bytes ++ take e d
    front = copied-front mem d mem-room (length bytes + e) fits ∙ continued-front st.held p d e inside (omega arith) within

    finished-gives : (ls : List A) (h : List ℕ) → part_of out 0 (length h + e) ≡ h ++ take e d
        → some_if (packet_end (length h) e) (a-packet (part_of out 0 (packet_end (length h) e)))
        ≡ map bare (finished ls h a (take e d))
    unfolding finished
    finished-gives ls [] f = refl
    finished-gives ls (x ∷ h) f = rw (ne_eqb (length (x ∷ h)) 0 (omega arith), ne_eqb (length (x ∷ h) + e) 0 (omega arith), f)

    packet-within : (b : Bool) → cond b 0 (length bytes + e) ≤ length mem
    packet-within true = omega arith
    packet-within false = rw mem-length (omega arith)

    -- it ends there, and no packet starts in the slot
    ends_same : (ls : List A) → eqb top none ≡ true
        → Same (cursor_from 0 (packet_end (length bytes) e) top (length d)) (holding 0 0) out
        (record { state = held [] []; events = finished ls bytes a (take e d) })
    ends_same ls z =
        let n : ℕ = packet_end (length bytes) e in
        let c : cursor_from 0 n top (length d) ≡ still 0 n = unfold cursor_from in rw z in
        rw c
        (record {
          gives = still-gives 0 n out ∙ finished-gives ls bytes front;
          leaves = rw (still-leaves 0 n (holding 0 0) out) (refl, omega arith, front-is out 0 (omega arith));
          short = omega arith;
          good = still-good 0 n (holding 0 0) out (rw (length-copied mem d mem-room) (packet-within (eqb (length bytes) 0)));
        })

    -- ... or the first one starts there
    ends-before : (ls : List A) → eqb top none ≡ false → top < length d
        → Same (cursor_from 0 (packet_end (length bytes) e) top (length d)) searching out
        (after (finished ls bytes a (take e d)) (read_from false a (slot_of d top last)))
    ends-before ls z t =
        from-same a d top last small mem mem-room false z (λ q. t) 0 (packet_end (length bytes) e)
        (packet-within (eqb (length bytes) 0)) (finished ls bytes a (take e d)) (finished-gives ls bytes front)

    -- it goes on past the slot
    goes_same : (ls : List A) (b : List ℕ) → take e d ≡ b
        → Same (noted 0) (holding 0 (length bytes + e)) out (record { state = held ls (bytes ++ b); events = [] })
    goes_same ls b u =
        let h : Held = holding 0 (length bytes + e) in
        let f : part_of out 0 (length bytes + e) ≡ bytes ++ b = front ∙ ap (λ (x : List ℕ). bytes ++ x) u in
        let l : length (bytes ++ b) ≡ length bytes + e = rw (← u, length-append bytes (take e d), length-take-le e d within) in
        record {
          gives = still-gives 0 0 out;
          leaves = rw (still-leaves 0 0 h out) (refl, rw out-length (omega arith), f);
          short = rw l (omega arith);
          good = still-good 0 0 h out (omega arith);
        }

  module _ (inside : st.held.start + st.held.len ≤ length p) (ls : List A) where
    resumed-reads : (k : Continuation) (b : Bool) → eqb top none ≡ b → (b ≡ false → top < length d) → Fits k bytes d
        → Reads st st.frame p (with_intake st (resumed_as k (length bytes) top (length d)), copied (resumed_mem k st.held p d) d)
        (resumed k b ls bytes a (slot_of d top last))
    unfolding resumed_as resumed_mem resumed
    resumed-reads (Dropped x) b z t f =
        made st p owed _ _ _ _ (length-copied p d room)
        (from-same a d top last small p room b z t (number_of x) 0 (omega arith) (note (number_of x) ∷ []) (rw (not_none x)))
    resumed-reads (Ends e) true z t f =
        rw z (made st p owed _ _ _ _ (out-length inside e f.0 f.1) (ends_same inside e f.0 f.1 ls z))
    resumed-reads (Ends e) false z t f =
        rw z (made st p owed _ _ _ _ (out-length inside e f.0 f.1) (ends-before inside e f.0 f.1 ls z (t refl)))
    resumed-reads GoesOn b z t f =
        made st p owed _ _ _ _ (out-length inside (length d) f (omega arith))
        (goes_same inside (length d) f (omega arith) (ls ++ (a ∷ [])) d (take-length d))

-- by whether the slot is sound and whether bytes are held
module _ {A : Type 0} (a : A) (st : State) (p d : List ℕ) (t : Pointers) (owed : st.owed ≡ true) (small : length d ≤ slot_area)
    (room : slot_area + length d ≤ length p) where
  abbrev Own : Bool → Bool → Stepped A → Type 0
  Own b on w = let r = taken_by b on st.held p d t in Reads st st.frame p (with_intake st r.0, copied r.1 d) w

  held_reads : (ls : List A) → st.held.start + st.held.len ≤ length p → length (held_bytes st.held p) ≤ slot_area
      → (eqb t.0 none ≡ false → t.0 < length d)
      → Own true true (arrived true (held ls (held_bytes st.held p)) a (slot_from d t))
  unfolding arrived resumed_of
  held_reads ls i l u =
      let h : List ℕ = held_bytes st.held p in
      resumed-reads a st p d t.0 t.1 owed small room i ls (continuation_of h d t.0 t.1) (eqb t.0 none) refl u
      (fits_so h d t.0 t.1 l u (eqb t.0 none) refl (continuation_of h d t.0 t.1) refl (says h d t.0 t.1))

  own-by : (b : Bool) → sound d t.0 t.1 ≡ b → (tl : Slot-state A) → HeldIs st.held p tl → Short tl
      → Own b st.held.on (arrived b tl a (slot_from d t))
  unfolding arrived
  own-by false e tl h l =
      made st p owed _ _ _ _ (length-copied p d room) (stops_same (number_of Unsound) (note (number_of Unsound) ∷ []) (copied p d) refl)
  own-by true e slot-searching h l =
      subst (λ (on : Bool). Own true on (read_from (eqb t.0 none) a (slot_from d t))) (sym h)
      (made st p owed _ _ _ _ (length-copied p d room)
      (from-same a d t.0 t.1 small p room (eqb t.0 none) refl (top-inside d t.0 t.1 e) 0 0 (omega arith) [] refl))
  own-by true e (held ls b) h l =
      subst (λ (on : Bool). Own true on (arrived true (held ls b) a (slot_from d t))) (sym h.0)
      (subst (λ (x : List ℕ). Own true true (arrived true (held ls x) a (slot_from d t))) h.2
      (held_reads ls h.1 (rw h.2 l) (top-inside d t.0 t.1 e)))

  pub own-reads : (tl : Slot-state A) → HeldIs st.held p tl → Short tl
      → Reads st st.frame p (own_of st p d t) (step tl (given a (slot_from d t)))
  unfolding intake_of
  own-reads tl h l = rw (step_given tl a (slot_from d t)) (own-by (sound d t.0 t.1) refl tl h l)

-- a lost slot
module _ {A : Type 0} (st : State) (p : List ℕ) where
  loss_by : (tl : Slot-state A) (on : Bool) → st.held.on ≡ on → HeldIs st.held p tl
      → Same (noted (cond on (number_of Lost) 0)) searching p (step tl lost)
  unfolding step
  loss_by slot-searching true e h = absurd (true≢false (sym e ∙ h))
  loss_by slot-searching false e h = stops_same 0 [] p refl
  loss_by (held ls b) true e h = stops_same (number_of Lost) (note (number_of Lost) ∷ []) p refl
  loss_by (held ls b) false e h = absurd (true≢false (sym h.0 ∙ e))

  pub loss_reads : (tl : Slot-state A) → HeldIs st.held p tl → Reads st st.frame p (loss_of st, p) (step tl lost)
  unfolding loss_of lost_of
  loss_reads tl h =
      record {
        slot = loss_by tl st.held.on refl h;
        same_length = refl;
        config = refl;
        frame = refl;
        owed = refl;
        queue = refl;
        channels = refl;
      }

-- the slot is counted first: nothing but the frame is another
from-counted : {A : Type 0} (st : State) (p : List ℕ) (r : State × List ℕ) (w : Stepped A)
    → Reads (counted st) (counted st).frame p r w → Reads st (counted st).frame p r w
unfolding counted
from-counted st p r w x =
    record {
      slot = x.slot;
      same_length = x.same_length;
      config = x.config;
      frame = x.frame;
      owed = x.owed;
      queue = x.queue;
      channels = x.channels;
    }

pub own-slot : OwnSlot
unfolding counted
own-slot A a cfg st p c tl f k l d n t =
    let m : packet_memory ≤ length p = k.packet-long in
    from-counted st p _ _ (own-reads a (counted st) p d t refl (omega arith) (omega arith) tl k.held l)

pub lost-slot : LostSlot
unfolding counted
lost-slot A cfg st p c tl f k = from-counted st p _ _ (loss_reads (counted st) p tl k.held)

pub lost-frame : LostFrame
lost-frame A cfg st p c tl f k = loss_reads st p tl k.held
