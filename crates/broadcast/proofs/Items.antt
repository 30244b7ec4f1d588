-- Each call of a reading: it is accepted, and with the calls of next after it shows what the account gives.
use Prim.Native.Nat.{ℕ, suc, ◌<◌, ◌≤◌}
use mathlib.Core.Path.{◌≡◌, refl, sym, ap, ◌∙◌, subst}
use mathlib.Core.Bool.{true, false, false≢true}
use mathlib.Core.List.{List, [], map}
use native.Mathlib.Omega.{arith}
use lib.ListN.{length, get_or}
use borrow.Author.Tests.{lt-leb, le-ltb}
use native.Mathlib.Numerals.{add-one}
use Rattle.tmcc.specs.Layout.{Layout}
use Rattle.tmcc.specs.declared.layout.Pointers.{Pointers}
use Rattle.tlv.specs.Run.{Stepped, State as Slot-state, step, given, lost}
use Rattle.reassembly.specs.declared.config.Config.{Config}
use Rattle.reassembly.specs.Run.{Lane}
use Rattle.intake.specs.Slot.{packet_memory}
use Rattle.state.specs.State.{Frame, State}
use Rattle.queue.specs.Waiting.{Queue}
use Rattle.frames.specs.Frame.{frame_busy, loss_of, lost_frame_of}
use Rattle.frames.specs.Slot.{counted, own_of, slot_refusal, short_by, wrong_length, due_pointers}
use Rattle.frames.proofs.SlotLaws.{right-length, slot-own, slot-not-own, lost-own, lost-not-own}
use Rattle.broadcast.specs.Account.{events, lanes_after}
use Rattle.broadcast.specs.Drains.{Shown, strip, Drains, Tracks}
use Rattle.broadcast.specs.Pending.{cursor_pending, cursor_leaves, queue_pending}
use Rattle.broadcast.specs.SlotClaims.{Short, Reads}
use Rattle.broadcast.specs.Machines.{At}
use Rattle.broadcast.specs.PacketClaims.{QueueEmpty, QueueGood}
use Rattle.broadcast.proofs.SlotReads.{own-slot, lost-slot as lost-slot-reads, lost-frame as lost-frame-reads}
use Rattle.broadcast.specs.Frames.{slot_at}
use Rattle.broadcast.specs.Calls.{Machine, Call, lost-frame, slot, lost-slot, accepted, Did, did}
use Rattle.broadcast.proofs.Draining.{Settles, settle}

-- an empty queue has nothing to give
empty_pending : (q : Queue) (p c : List ℕ) → QueueEmpty q → queue_pending q p c ≡ []
unfolding queue_pending
empty_pending q p c e = rw (e.0, e.1, e.2)

empty-good : (q : Queue) (p : List ℕ) → QueueEmpty q → QueueGood q p
empty-good q p e = rw e.2 tt

module _ {A : Type 0} (cfg : Config) where
  -- a slot was taken, and next is owed
  reads_settles : (st : State) (fr : Frame) (p c : List ℕ) (tl : Slot-state A) (f : ℕ → Lane (List A)) (r : State × List ℕ)
      (w : Stepped A) → Tracks cfg st p c tl f → Reads st fr p r w
      → Settles cfg fr r.1 w.state (lanes_after cfg f w.events) (map strip (events cfg f w.events)) r.0 c
  reads_settles st fr p c tl f r w k d =
      let long : packet_memory ≤ length r.1 = rw d.same_length k.packet-long in
      settle cfg fr r.1 long w.state (lanes_after cfg f w.events)
      (map strip (events cfg f w.events)) r.0 c
      (record {
        waiting = w.events;
        now = f;
        lanes = record {
          config = d.config ∙ k.config;
          channels = ap length d.channels ∙ k.channels;
          starts = k.starts;
          collecting-long = k.collecting-long;
          lanes = λ i h. rw d.channels (k.lanes i h);
        };
        frame = d.frame;
        owed = d.owed;
        queue-good = rw d.queue (empty-good st.queue r.1 k.queue);
        cursor-good = d.slot.good;
        finds = d.slot.gives;
        shows = rw (d.queue, empty_pending st.queue r.1 c k.queue);
        leaves = d.slot.leaves;
        ends = refl;
      })

-- a call is accepted, and next after it shows es
pub record Item {A : Type 0} (cfg : Config) (m : Machine) (k : Call) (tl : Slot-state A) (f : ℕ → Lane (List A)) (es : List Shown)
    (l : Layout) (s : ℕ) : Type 0 where
  pub answer : (did k m).answer ≡ accepted
  pub state : State
  pub collecting : List ℕ
  pub drains : Drains (did k m).machine.packet (did k m).machine.state (did k m).machine.collecting es state collecting
  pub at : At cfg (record { state = state; packet = (did k m).machine.packet; collecting = collecting }) tl f l s

-- the same by what the call did
Item_by : {A : Type 0} (cfg : Config) (d : Did) (tl : Slot-state A) (f : ℕ → Lane (List A)) (es : List Shown) (l : Layout) (s : ℕ) → Type 0
Item_by cfg d tl f es l s =
    (d.answer ≡ accepted) × (st : State) × (c : List ℕ) × Drains d.machine.packet d.machine.state d.machine.collecting es st c
    × At cfg (record { state = st; packet = d.machine.packet; collecting = c }) tl f l s

item_by : {A : Type 0} (cfg : Config) (m : Machine) (k : Call) (d : Did) (tl : Slot-state A) (f : ℕ → Lane (List A)) (es : List Shown)
    (l : Layout) (s : ℕ) → did k m ≡ d → Item_by cfg d tl f es l s → Item cfg m k tl f es l s
unfolding Item_by
item_by cfg m k d tl f es l s e i =
    let j = subst (λ (x : Did). Item_by cfg x tl f es l s) (sym e) i in
    record { answer = j.0; state = j.1; collecting = j.2; drains = j.3; at = j.4 }

-- the slot that is due is not refused for the state or the memories
pub due : {A : Type 0} (cfg : Config) (m : Machine) (tl : Slot-state A) (f : ℕ → Lane (List A)) (l : Layout) (s : ℕ) → At cfg m tl f l s
    → s < 120 → slot_refusal m.state (length m.packet) (length m.collecting) ≡ 0
unfolding slot_refusal short_by
due cfg m tl f l s a h =
    let k = a.tracks in
    rw (a.frame, k.config, k.paid, lt-leb _ _ h, le-ltb _ _ k.packet-long, le-ltb _ _ k.collecting-long)

-- the next slot is due
next-due : (st : State) (l : Layout) (s : ℕ) → st.frame ≡ record { layout = l; at = s }
    → (counted st).frame ≡ record { layout = l; at = suc s }
unfolding counted
next-due st l s e = rw (e, add-one)

abbrev pointers_in : Layout → ℕ → Pointers
pointers_in l s = get_or l.pointers s (record { 0 = 0; 1 = 0 })

module _ {A : Type 0} (cfg : Config) (m : Machine) (tl : Slot-state A) (f : ℕ → Lane (List A)) (l : Layout) where
  -- the account after slot events of w
  abbrev Item_of : Call → Stepped A → ℕ → Type 0
  Item_of k w s = Item cfg m k w.state (lanes_after cfg f w.events) (map strip (events cfg f w.events)) l s

  -- from what a call did to its item
  taken_item : (k : Call) (fr : Frame) (r : State × List ℕ) (w : Stepped A) (s : ℕ)
      → did k m ≡ record { answer = accepted; machine = record { state = r.0; packet = r.1; collecting = m.collecting } }
      → fr ≡ record { layout = l; at = s } → Tracks cfg m.state m.packet m.collecting tl f → Reads m.state fr m.packet r w
      → Item_of k w s
  unfolding Item_by
  taken_item k fr r w s e g t d =
      let x = reads_settles cfg m.state fr m.packet m.collecting tl f r w t d in
      item_by cfg m k _ w.state (lanes_after cfg f w.events) (map strip (events cfg f w.events)) l s e
      (refl, x.state, x.collecting, x.drains, record { tracks = x.tracks; short = d.slot.short; frame = x.frame ∙ g })

  pub own-item : (a : A) (s : ℕ) (d : List ℕ) → At cfg m tl f l s → s < 120 → get_or l.own s false ≡ true
      → wrong_length (get_or l.lengths s 0) (length d) ≡ false
      → Item_of (slot d) (step tl (given a (slot_at l s d))) (suc s)
  unfolding did
  own-item a s d k h o w =
      let st = m.state in
      let e = due cfg m tl f l s k h in
      let q = slot-own st m.packet m.collecting d e (rw k.frame w) (rw k.frame o) in
      let g : due_pointers st ≡ pointers_in l s = rw k.frame in
      taken_item (slot d) (counted st).frame (own_of (counted st) m.packet d (pointers_in l s)) _ (suc s) (rw (q, g))
      (next-due st l s k.frame) k.tracks
      (own-slot A a cfg st m.packet m.collecting tl f k.tracks k.short d (right-length _ _ w).0 (pointers_in l s))

  pub lost-item : (s : ℕ) → At cfg m tl f l s → s < 120 → get_or l.own s false ≡ true → Item_of lost-slot (step tl lost) (suc s)
  unfolding did
  lost-item s k h o =
      let st = m.state in
      let q = lost-own st (length m.packet) (length m.collecting) (due cfg m tl f l s k h) (rw k.frame o) in
      taken_item lost-slot (counted st).frame (loss_of (counted st), m.packet) _ (suc s) (rw q) (next-due st l s k.frame)
      k.tracks (lost-slot-reads A cfg st m.packet m.collecting tl f k.tracks)

  pub lost-frame-item : At cfg m tl f l 120 → Item_of lost-frame (step tl lost) 120
  unfolding did lost_frame_of frame_busy
  lost-frame-item k =
      let st = m.state in
      let q : frame_busy st ≡ false = rw (k.frame, k.tracks.paid) in
      taken_item lost-frame st.frame (loss_of st, m.packet) _ 120 (rw q) k.frame k.tracks
      (lost-frame-reads A cfg st m.packet m.collecting tl f k.tracks)

  -- another stream's slot, or a dummy: it is only counted
  abbrev quiet : Stepped A
  quiet = record { state = tl; events = [] }

  other-reads : Tracks cfg m.state m.packet m.collecting tl f → Short tl
      → Reads m.state (counted m.state).frame m.packet (counted m.state, m.packet) quiet
  unfolding counted cursor_pending cursor_leaves
  other-reads k h =
      record {
        slot = record {
          gives = rw k.cursor;
          leaves = rw k.cursor k.held;
          short = h;
          good = rw k.cursor (record {
            packet-inside = omega arith;
            slot-inside = λ e. absurd (false≢true e);
            held_none = λ e. absurd (false≢true e);
            placeless = λ e. (refl, refl);
          });
        };
        same_length = refl;
        config = refl;
        frame = refl;
        owed = refl;
        queue = refl;
        channels = refl;
      }

  pub other_item : (s : ℕ) (d : List ℕ) → At cfg m tl f l s → s < 120 → get_or l.own s false ≡ false
      → wrong_length (get_or l.lengths s 0) (length d) ≡ false → Item_of (slot d) quiet (suc s)
  unfolding did
  other_item s d k h o w =
      let st = m.state in
      let q = slot-not-own st m.packet m.collecting d (due cfg m tl f l s k h) (rw k.frame w) (rw k.frame o) in
      taken_item (slot d) (counted st).frame (counted st, m.packet) quiet (suc s) (rw q) (next-due st l s k.frame) k.tracks
      (other-reads k.tracks k.short)

  pub other-lost-item : (s : ℕ) → At cfg m tl f l s → s < 120 → get_or l.own s false ≡ false → Item_of lost-slot quiet (suc s)
  unfolding did
  other-lost-item s k h o =
      let st = m.state in
      let q = lost-not-own st (length m.packet) (length m.collecting) (due cfg m tl f l s k h) (rw k.frame o) in
      taken_item lost-slot (counted st).frame (counted st, m.packet) quiet (suc s) (rw q) (next-due st l s k.frame) k.tracks
      (other-reads k.tracks k.short)
