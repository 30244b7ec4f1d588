-- The calls of next after a slot give what the account gives, and leave what it leaves.
use Prim.Native.Nat.{ℕ, zero, suc, ◌-◌, ◌*◌, ◌<◌, ◌≤◌}
use mathlib.Core.Path.{◌≡◌, refl, sym, ap, ◌∙◌, subst}
use mathlib.Core.Bool.{true}
use mathlib.Core.List.{List, [], ◌∷◌, ◌++◌, map, map-append}
use native.Mathlib.Omega.{arith}
use lib.ListN.{length}
use borrow.Author.Tests.{le-ltb}
use Rattle.wire.specs.Memory.{part_of}
use Rattle.tlv.specs.Run.{Labelled, Event as Slot-event, note as slot-note, packet as slot-packet, State as Slot-state}
use Rattle.reassembly.specs.declared.config.Config.{Config}
use Rattle.reassembly.specs.Run.{Lane, Event as Account-event}
use Rattle.queue.specs.Event.{Event}
use Rattle.queue.specs.Event.{Nothing, Note, Unit, Refused}
use Rattle.delivery.specs.Found.{Found}
use Rattle.delivery.specs.Found.{Event as AnEvent, Packet, Tail, Done}
use Rattle.intake.specs.declared.held.Cursor.{Cursor}
use Rattle.words.specs.Config.{kept_config}
use Rattle.state.specs.State.{Frame, State, with_slot, with_queue}
use Rattle.queue.specs.Waiting.{Queue}
use Rattle.intake.specs.Slot.{packet_memory, holding}
use Rattle.queue.specs.Queue.{event_taken}
use Rattle.frames.specs.Slot.{short_by}
use Rattle.receiver.specs.Next.{NextOut, onwards, read_on, read_all, next_of, past, packet_of}
use Rattle.delivery.specs.Cursor.{advanced_of, turn_by, turn_of, left}
use Rattle.broadcast.specs.Account.{Read, read_of, after_read, events, lanes_after}
use Rattle.broadcast.specs.Drains.{Shown, note, strip, shown, Drains, stops, notes, units, HeldIs, Tracks}
use Rattle.broadcast.specs.Pending.{bare, Found as Waiting, slot-notes, a-packet, cursor_pending, cursor_leaves, queue_pending}
use Rattle.broadcast.specs.SlotClaims.{CursorGood, Advances}
use Rattle.broadcast.specs.PacketClaims.{QueueEmpty, QueueGood, LanesAre, Takes}
use Rattle.broadcast.proofs.Advance.{advance}
use Rattle.broadcast.proofs.PacketReads.{packet-does}
use Rattle.broadcast.proofs.QueueTakes.{queue-gives}

-- what a list of slot events is, by what is found of it
module _ {A : Type 0} where
  none-waits : (ws : List (Slot-event A)) → [] ≡ map bare ws → ws ≡ []
  none-waits [] e = refl
  none-waits (w ∷ ws) e = let z : ◌≡◌ {A = ℕ} 0 1 = cc in absurd (omega arith)

  pub record NoteFirst (n : ℕ) (r : List Waiting) (ws : List (Slot-event A)) : Type 0 where
    pub rest : List (Slot-event A)
    pub first : ws ≡ slot-note n ∷ rest
    pub more : r ≡ map bare rest

  note-first : (n : ℕ) (r : List Waiting) (ws : List (Slot-event A)) → slot-notes n ∷ r ≡ map bare ws → NoteFirst n r ws
  note-first n r [] e = let z : ◌≡◌ {A = ℕ} 0 1 = cc in absurd (omega arith)
  note-first n r (slot-note m ∷ ws) e =
      let q : m ≡ n = cc in
      record { rest = ws; first = rw q; more = cc }
  note-first n r (slot-packet p ∷ ws) e = let z : ◌≡◌ {A = ℕ} 0 1 = cc in absurd (omega arith)

  pub record PacketFirst (b : List ℕ) (r : List Waiting) (ws : List (Slot-event A)) : Type 0 where
    pub labelled : Labelled A
    pub rest : List (Slot-event A)
    pub first : ws ≡ slot-packet labelled ∷ rest
    pub bytes : labelled.bytes ≡ b
    pub more : r ≡ map bare rest

  packet-first : (b : List ℕ) (r : List Waiting) (ws : List (Slot-event A)) → a-packet b ∷ r ≡ map bare ws → PacketFirst b r ws
  packet-first b r [] e = let z : ◌≡◌ {A = ℕ} 0 1 = cc in absurd (omega arith)
  packet-first b r (slot-note m ∷ ws) e = let z : ◌≡◌ {A = ℕ} 0 1 = cc in absurd (omega arith)
  packet-first b r (slot-packet p ∷ ws) e = record { labelled = p; rest = ws; first = refl; bytes = cc; more = cc }

-- a state that owes next stands for slot events that are yet to be read, after its queue: shown in all are es, and the slots'
-- state and the lanes at the end are tl and f
pub record Owes {A : Type 0} (cfg : Config) (fr : Frame) (p : List ℕ) (es : List Shown) (tl : Slot-state A) (f : ℕ → Lane (List A))
    (st : State) (c : List ℕ) : Type 0 where
  pub waiting : List (Slot-event A)
  pub now : ℕ → Lane (List A)
  pub lanes : LanesAre cfg st c now
  pub frame : st.frame ≡ fr
  pub owed : st.owed ≡ true
  pub queue-good : QueueGood st.queue p
  pub cursor-good : CursorGood st.cursor st.held p
  pub finds : cursor_pending st.cursor p ≡ map bare waiting
  pub shows : es ≡ queue_pending st.queue p c ++ map strip (events cfg now waiting)
  pub leaves : HeldIs (cursor_leaves st.cursor st.held p) p tl
  pub ends : lanes_after cfg now waiting ≡ f

-- an event of next, the first of those that wait
pub record First {A : Type 0} (cfg : Config) (fr : Frame) (p : List ℕ) (es : List Shown) (tl : Slot-state A) (f : ℕ → Lane (List A))
    (e : Shown) (st : State) (c : List ℕ) : Type 0 where
  pub later : List Shown
  pub first : es ≡ e ∷ later
  pub owes : Owes cfg fr p later tl f st c

-- nothing waits, and the state stands for tl and f
pub record Paid {A : Type 0} (cfg : Config) (fr : Frame) (p : List ℕ) (es : List Shown) (tl : Slot-state A) (f : ℕ → Lane (List A))
    (st : State) (c : List ℕ) : Type 0 where
  pub none : es ≡ []
  pub frame : st.frame ≡ fr
  pub tracks : Tracks cfg st p c tl f

-- the calls of next until nothing waits show es, and leave a state that stands for tl and f
pub record Settles {A : Type 0} (cfg : Config) (fr : Frame) (p : List ℕ) (tl : Slot-state A) (f : ℕ → Lane (List A)) (es : List Shown)
    (st : State) (c : List ℕ) : Type 0 where
  pub state : State
  pub collecting : List ℕ
  pub drains : Drains p st c es state collecting
  pub frame : state.frame ≡ fr
  pub tracks : Tracks cfg state p collecting tl f

module _ {A : Type 0} (cfg : Config) (fr : Frame) (p : List ℕ)
    (long : packet_memory ≤ length p) (tl : Slot-state A) (f : ℕ → Lane (List A)) where
  abbrev Told : List Shown → Event → State → List ℕ → Type 0
  Told es Nothing st c = Paid cfg fr p es tl f st c
  Told es (Note n id) st c = First cfg fr p es tl f (note n id) st c
  Told es (Unit g) st c = First cfg fr p es tl f (shown g p c) st c
  Told es (Refused n) st c = ⊥

  abbrev ToldOut : List Shown → NextOut → Type 0
  ToldOut es r = Told es r.0.event r.0.state r.1

  -- the lanes do not depend on the queue, the cursor or the held bytes
  relaned : {st st' : State} {c : List ℕ} {g : ℕ → Lane (List A)} → LanesAre cfg st c g → st'.config ≡ st.config
      → st'.channels ≡ st.channels → LanesAre cfg st' c g
  relaned l e k =
      record {
        config = e ∙ l.config;
        channels = ap length k ∙ l.channels;
        starts = l.starts;
        collecting-long = l.collecting-long;
        lanes = λ i h. rw k (l.lanes i h);
      }

  -- what is owed with another queue
  requeued : {es es' : List Shown} (st : State) (c : List ℕ) (q : Queue) (o : Owes cfg fr p es tl f st c) → QueueGood q p
      → es' ≡ queue_pending q p c ++ map strip (events cfg o.now o.waiting) → Owes cfg fr p es' tl f (with_queue st q) c
  requeued st c q o g e =
      record {
        waiting = o.waiting;
        now = o.now;
        lanes = relaned o.lanes refl refl;
        frame = o.frame;
        owed = o.owed;
        queue-good = g;
        cursor-good = o.cursor-good;
        finds = o.finds;
        shows = e;
        leaves = o.leaves;
        ends = o.ends;
      }

  -- the events from a packet on
  abbrev events_behind : Read → (ℕ → Lane (List A)) → List A → List (Slot-event A) → List (Account-event (List A))
  events_behind r g a ws = let y = after_read cfg r g a in y.events ++ events cfg y.lanes ws

  -- what waits where the queue is empty
  waits : {es : List Shown} {st : State} {c : List ℕ} (o : Owes cfg fr p es tl f st c) → queue_pending st.queue p c ≡ []
      → es ≡ map strip (events cfg o.now o.waiting)
  waits o e = o.shows ∙ ap (λ (l : List Shown). l ++ map strip (events cfg o.now o.waiting)) e

  module _ (more : State → List ℕ → NextOut) (n : ℕ)
      (again : (es : List Shown) (st : State) (c : List ℕ) → left st.cursor < n → Owes cfg fr p es tl f st c
      → ToldOut es (more st c)) where
    -- what was found, the queue being empty; st has the cursor past it
    found_told : (x : Found) (es : List Shown) (st : State) (c : List ℕ) (cur : Cursor) → left st.cursor < suc n
        → Owes cfg fr p es tl f st c → QueueEmpty st.queue → queue_pending st.queue p c ≡ []
        → Advances x st.cursor cur st.held p → ToldOut es (onwards x (with_slot st st.held cur) p c more)
    unfolding events lanes_after
    found_told (AnEvent Nothing) es st c cur h o q e a = absurd a
    found_told (AnEvent (Note k id)) es st c cur h o q e b =
        let a = b.1 in
        let w = note-first k (cursor_pending cur p) o.waiting (sym a.gives ∙ o.finds) in
        rw b.0
        (record {
          later = map strip (events cfg o.now w.rest);
          first = waits o e ∙ ap (λ (ws : List (Slot-event A)). map strip (events cfg o.now ws)) w.first;
          owes = record {
            waiting = w.rest;
            now = o.now;
            lanes = relaned o.lanes refl refl;
            frame = o.frame;
            owed = o.owed;
            queue-good = o.queue-good;
            cursor-good = a.good;
            finds = w.more;
            shows = rw e;
            leaves = rw a.leaves at o.leaves;
            ends = ap (lanes_after cfg o.now) (sym w.first) ∙ o.ends;
          };
        })
    found_told (AnEvent (Unit g)) es st c cur h o q e a = absurd a
    found_told (AnEvent (Refused n)) es st c cur h o q e a = absurd a
    found_told (Packet s t) es st c cur h o q e a =
        let st' = with_slot st st.held cur in
        let b = part_of p s (t - s) in
        let w = packet-first b (cursor_pending cur p) o.waiting (sym a.gives ∙ o.finds) in
        let r = packet_of st' p c s t in
        let d = packet-does A cfg st' p c s t o.now w.labelled.labels a.ordered a.inside (relaned o.lanes refl refl) q in
        let y = after_read cfg (read_of cfg b) o.now w.labelled.labels in
        again es r.0 r.1 (rw d.cursor (omega (arith, a.falls)))
        (record {
          waiting = w.rest;
          now = y.lanes;
          lanes = d.lanes;
          frame = d.frame ∙ o.frame;
          owed = d.owed ∙ o.owed;
          queue-good = d.good;
          cursor-good = rw (d.cursor, d.held) a.good;
          finds = rw d.cursor w.more;
          shows =
              waits o e ∙ ap (λ (ws : List (Slot-event A)). map strip (events cfg o.now ws)) w.first
              ∙ ap (λ (x : List ℕ). map strip (events_behind (read_of cfg x) o.now w.labelled.labels w.rest)) w.bytes
              ∙ map-append strip y.events (events cfg y.lanes w.rest)
              ∙ ap (λ (l : List Shown). l ++ map strip (events cfg y.lanes w.rest)) (sym d.events);
          leaves = rw (d.cursor, d.held) (rw a.leaves at o.leaves);
          ends =
              ap (λ (x : List ℕ). lanes_after cfg (after_read cfg (read_of cfg x) o.now w.labelled.labels).lanes w.rest)
              (sym w.bytes)
              ∙ ap (lanes_after cfg o.now) (sym w.first) ∙ o.ends;
        })
    found_told (Tail s l) es st c cur h o q e a =
        let z = none-waits o.waiting (sym a.gives ∙ o.finds) in
        again es (with_slot st (holding s l) cur) c (omega (arith, a.falls))
        (record {
          waiting = [];
          now = o.now;
          lanes = relaned o.lanes refl refl;
          frame = o.frame;
          owed = o.owed;
          queue-good = o.queue-good;
          cursor-good = a.good;
          finds = a.gives_more;
          shows = o.shows ∙ ap (λ (ws : List (Slot-event A)). queue_pending st.queue p c ++ map strip (events cfg o.now ws)) z;
          leaves = rw a.leaves-more (rw a.leaves at o.leaves);
          ends = ap (lanes_after cfg o.now) (sym z) ∙ o.ends;
        })
    found_told Done es st c cur h o q e a =
        let z = none-waits o.waiting (sym a.gives ∙ o.finds) in
        let g : o.now ≡ f = ap (lanes_after cfg o.now) (sym z) ∙ o.ends in
        record {
          none = waits o e ∙ ap (λ (ws : List (Slot-event A)). map strip (events cfg o.now ws)) z;
          frame = o.frame;
          tracks = record {
            config = o.lanes.config;
            packet-long = long;
            collecting-long = o.lanes.collecting-long;
            starts = o.lanes.starts;
            channels = o.lanes.channels;
            paid = refl;
            cursor = a.stays ∙ a.over;
            queue = q;
            held = rw a.leaves at o.leaves;
            lanes = rw g at o.lanes.lanes;
          };
        }

    -- what was taken from the queue, or, where it is empty, found next
    taken_told : (e : Event) (es : List Shown) (st : State) (c : List ℕ) (q : Queue) → left st.cursor < suc n
        → Owes cfg fr p es tl f st c → Takes e st.queue q p c → QueueGood q p
        → (let t = turn_by e q st.cursor p in ToldOut es (onwards t.found (past st t) p c more))
    taken_told Nothing es st c q h o t g =
        let st' = with_queue st q in
        let o' = requeued st c q o g (waits o t.0 ∙ rw t.1) in
        let a = advanced_of st.cursor p in
        found_told a.found es st' c a.cursor h o' t.2 t.1 (advance st.cursor st.held p o.cursor-good)
    taken_told (Note k id) es st c q h o t g =
        record {
          later = queue_pending q p c ++ map strip (events cfg o.now o.waiting);
          first = o.shows ∙ ap (λ (l : List Shown). l ++ map strip (events cfg o.now o.waiting)) t;
          owes = requeued st c q o g refl;
        }
    taken_told (Unit u) es st c q h o t g =
        record {
          later = queue_pending q p c ++ map strip (events cfg o.now o.waiting);
          first = o.shows ∙ ap (λ (l : List Shown). l ++ map strip (events cfg o.now o.waiting)) t;
          owes = requeued st c q o g refl;
        }
    taken_told (Refused k) es st c q h o t g = absurd t

  -- reading on, with fuel for all that the cursor has left
  read_told : (n : ℕ) (es : List Shown) (st : State) (c : List ℕ) → left st.cursor < n → Owes cfg fr p es tl f st c
      → ToldOut es (read_on n st p c)
  unfolding read_on turn_of
  read_told zero es st c h o = absurd (omega arith)
  read_told (suc n) es st c h o =
      let t = event_taken st.queue p in
      let g = queue-gives st.queue p c o.queue-good in
      taken_told (λ s d. read_on n s p d) n (read_told n) t.event es st c t.queue h o g.0 g.1

  -- a call of next
  next-reads : (st : State) (c : List ℕ) → st.config ≡ kept_config cfg → st.owed ≡ true → cfg.watch.n * cfg.rules.limit ≤ length c
      → next_of st p c ≡ read_on (suc (left st.cursor)) st p c
  unfolding next_of read_all short_by
  next-reads st c e o h = rw (e, o, le-ltb _ _ long, le-ltb _ _ h)

  settle-by : (es : List Shown) (st st' : State) (c c' : List ℕ) (e : Event) → next_of st p c ≡ (record { event = e; state = st' }, c')
      → Told es e st' c' → ((xs : List Shown) (x : Shown) → es ≡ x ∷ xs → Owes cfg fr p xs tl f st' c' → Settles cfg fr p tl f xs st' c')
      → Settles cfg fr p tl f es st c
  settle-by es st st' c c' Nothing q t h =
      record {
        state = st';
        collecting = c';
        drains = rw t.none (stops q);
        frame = t.frame;
        tracks = t.tracks;
      }
  settle-by es st st' c c' (Note n id) q t h =
      let s = h t.later (note n id) t.first t.owes in
      record {
        state = s.state;
        collecting = s.collecting;
        drains = rw t.first (notes q s.drains);
        frame = s.frame;
        tracks = s.tracks;
      }
  settle-by es st st' c c' (Unit g) q t h =
      let s = h t.later (shown g p c') t.first t.owes in
      record {
        state = s.state;
        collecting = s.collecting;
        drains = rw t.first (units q s.drains);
        frame = s.frame;
        tracks = s.tracks;
      }
  settle-by es st st' c c' (Refused n) q t h = absurd t

  pub settle : (es : List Shown) (st : State) (c : List ℕ) → Owes cfg fr p es tl f st c → Settles cfg fr p tl f es st c
  settle [] st c o =
      let r = read_on (suc (left st.cursor)) st p c in
      settle-by [] st r.0.state c r.1 r.0.event (next-reads st c o.lanes.config o.owed o.lanes.collecting-long)
      (read_told (suc (left st.cursor)) [] st c (omega arith) o)
      (λ xs x q u. let z : ◌≡◌ {A = ℕ} 0 1 = cc in absurd (omega arith))
  settle (y ∷ ys) st c o =
      let r = read_on (suc (left st.cursor)) st p c in
      settle-by (y ∷ ys) st r.0.state c r.1 r.0.event
      (next-reads st c o.lanes.config o.owed o.lanes.collecting-long)
      (read_told (suc (left st.cursor)) (y ∷ ys) st c (omega arith) o)
      (λ xs x q u.
      let e : xs ≡ ys = cc in
      subst (λ (l : List Shown). Settles cfg fr p tl f l r.0.state r.1) (sym e)
      (settle ys r.0.state r.1 (subst (λ (l : List Shown). Owes cfg fr p l tl f r.0.state r.1) e u)))
