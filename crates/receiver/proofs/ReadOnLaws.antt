-- Laws of specs/ReadOn.antt.
use Rattle.std.specs.Prelude.{ℕ, zero, suc, ◌*◌, ◌≤◌, ◌<◌, ◌≡◌, Bool, true, false, List, length, get_or, set}
use Rattle.std.proofs.Math.Path.{refl}
use Rattle.std.proofs.Common.{sym, ◌∙◌, ap, arith}
use Rattle.std.proofs.lemmas.List.{set-get_or}
use Rattle.reassembly.specs.Channel.{unheard}
use Rattle.queue.specs.Event.{Event as AnEvent}
use Rattle.queue.specs.Event.{Nothing}
use Rattle.state.specs.State.{State, with_owed, with_slot, with_queue, with_channels}
use Rattle.delivery.specs.Arrived.{Arrived, Silent, Noted, Good}
use Rattle.delivery.specs.Packet.{JoinedPacket, arrived_at, place_of, received_of}
use Rattle.delivery.specs.Cursor.{Turn, turn_of, left}
use Rattle.delivery.proofs.CursorLaws.{turn-less}
use Rattle.delivery.specs.Found.{Found}
use Rattle.delivery.specs.Found.{Event, Packet, Tail, Done}
use Rattle.intake.specs.Slot.{holding}
use Rattle.delivery.proofs.WithinLaws.{arrived-fits, length-received}
use Rattle.frames.specs.Slot.{short_by}
use Rattle.receiver.specs.Next.{NextOut, answered, arrived_by, packet_of, past, onwards, read_on, read_all, next_of}
use Rattle.receiver.proofs.NextLaws.{next-short, next-idle, next-reads, short-room}
use Rattle.receiver.specs.ReadOn.{Kept, Calm, Ample}

module _ (st : State) (p c : List ℕ) where
  arrived-kept : (a : Arrived) → Kept st (arrived_by a st p c).0
  arrived-kept Silent = record { config = refl; frame = refl; owed = refl; held = refl; cursor = refl }
  arrived-kept (Noted n id) = record { config = refl; frame = refl; owed = refl; held = refl; cursor = refl }
  arrived-kept (Good l) = record { config = refl; frame = refl; owed = refl; held = refl; cursor = refl }

  pub packet-kept : (start end : ℕ) → Kept st (packet_of st p c start end).0
  unfolding packet_of
  packet-kept start end = arrived-kept (arrived_at st.config p start end)

  -- a packet by the state of its packet_id and the queue
  abbrev pub received_by : Arrived → State × List ℕ
  received_by a =
      let r = received_of a (get_or st.channels (place_of a) unheard) st.queue p c st.config.rules in
      (with_queue (with_channels st (set st.channels (place_of a) r.0.channel)) r.0.queue, r.1)

  arrived-received : (a : Arrived) → arrived_by a st p c ≡ received_by a
  unfolding received_of
  arrived-received Silent = rw (set-get_or st.channels 0 unheard)
  arrived-received (Noted n id) = rw (set-get_or st.channels 0 unheard)
  arrived-received (Good l) = refl

  pub packet-received : (start end : ℕ) → packet_of st p c start end ≡ received_by (arrived_at st.config p start end)
  unfolding packet_of
  packet-received start end = arrived-received (arrived_at st.config p start end)

  pub length-packet : (start end : ℕ) → st.config.watch.n * st.config.rules.limit ≤ length c
      → length (packet_of st p c start end).1 ≡ length c
  length-packet start end h =
      let a = arrived_at st.config p start end in
      rw (packet-received start end)
      (length-received a _ st.queue p c st.config.rules (arrived-fits st.config p start end a (length c) refl h))

-- `f` and `g` do the same where the cursor has less left than `n`
abbrev Agree : ℕ → List ℕ → (State → List ℕ → NextOut) → (State → List ℕ → NextOut) → Type 0
Agree n p f g = (s : State) (d : List ℕ) → left s.cursor < n → f s d ≡ g s d

onwards-same : (st : State) (p c : List ℕ) (f g : State → List ℕ → NextOut) (x : Found) → (turn_of st.queue st.cursor p).found ≡ x
    → Agree (left st.cursor) p f g
    → let s = past st (turn_of st.queue st.cursor p) in onwards x s p c f ≡ onwards x s p c g
onwards-same st p c f g (Event e) h k = refl
onwards-same st p c f g (Packet start end) h k =
    let t = turn_of st.queue st.cursor p in
    let r = packet_of (past st t) p c start end in
    k r.0 r.1 (rw (packet-kept (past st t) p c start end).cursor (turn-less st.queue st.cursor p (rw h refl)))
onwards-same st p c f g (Tail start len) h k = k _ c (turn-less st.queue st.cursor p (rw h refl))
onwards-same st p c f g Done h k = refl

-- more fuel than the cursor has left changes nothing
pub read-on-enough : (f g : ℕ) (st : State) (p c : List ℕ) → left st.cursor < f → left st.cursor < g
    → read_on f st p c ≡ read_on g st p c
unfolding read_on
read-on-enough zero g st p c h k = absurd (omega arith)
read-on-enough (suc f) zero st p c h k = absurd (omega arith)
read-on-enough (suc f) (suc g) st p c h k =
    onwards-same st p c (λ s d. read_on f s p d) (λ s d. read_on g s p d) _ refl
    (λ s d l. read-on-enough f g s p d (omega arith) (omega arith))

-- reading on, one turn at a time
pub read_step : (st : State) (p c : List ℕ) → let t = turn_of st.queue st.cursor p in
    read_all st p c ≡ onwards t.found (past st t) p c (λ s d. read_all s p d)
unfolding read_all read_on
read_step st p c =
    onwards-same st p c (λ s d. read_on (left st.cursor) s p d) (λ s d. read_on (suc (left s.cursor)) s p d) _ refl
    (λ s d l. read-on-enough (left st.cursor) (suc (left s.cursor)) s p d l (omega arith))

module _ (st : State) (p c : List ℕ) where
  abbrev turned : Turn
  turned = turn_of st.queue st.cursor p

  read_by : (x : Found) → turned.found ≡ x → read_all st p c ≡ onwards x (past st turned) p c (λ s d. read_all s p d)
  read_by x h = read_step st p c ∙ ap (λ (y : Found). onwards y (past st turned) p c (λ s d. read_all s p d)) h

  pub read-event : (e : AnEvent) → turned.found ≡ Event e → read_all st p c ≡ answered e (past st turned) c
  read-event e h = read_by (Event e) h

  pub read-packet : (start end : ℕ) → turned.found ≡ Packet start end
      → let r = packet_of (past st turned) p c start end in read_all st p c ≡ read_all r.0 p r.1
  read-packet start end h = read_by (Packet start end) h

  -- a packet by what it comes to
  pub read-received : (start end : ℕ) (a : Arrived) (j : JoinedPacket) (d : List ℕ) → turned.found ≡ Packet start end
      → arrived_at st.config p start end ≡ a
      → (j, d) ≡ received_of a (get_or st.channels (place_of a) unheard) turned.queue p c st.config.rules
      → read_all st p c
      ≡ read_all (with_queue (with_channels (past st turned) (set st.channels (place_of a) j.channel)) j.queue) p d
  read-received start end a j d h e r =
      read-packet start end h
      ∙ ap (λ (x : State × List ℕ). read_all x.0 p x.1)
      (packet-received (past st turned) p c start end ∙ ap (received_by (past st turned) p c) e)
      ∙ ap (λ (x : JoinedPacket × List ℕ).
      read_all (with_queue (with_channels (past st turned) (set st.channels (place_of a) x.0.channel)) x.0.queue) p x.1)
      (sym r)

  pub read-tail : (start len : ℕ) → turned.found ≡ Tail start len
      → read_all st p c ≡ read_all (with_slot (past st turned) (holding start len) turned.cursor) p c
  read-tail start len h = read_by (Tail start len) h

  pub read_done : turned.found ≡ Done → read_all st p c ≡ answered Nothing (with_owed (past st turned) false) c
  read_done h = read_by Done h

onwards-calm : (x : Found) (st : State) (p c : List ℕ) (f : State → List ℕ → NextOut) → Ample st c
    → ((s : State) (d : List ℕ) → Ample s d → Calm s d (f s d)) → Calm st c (onwards x st p c f)
onwards-calm (Event e) st p c f h k = record { config = refl; frame = refl; size = refl }
onwards-calm (Packet start end) st p c f h k =
    let r = packet_of st p c start end in
    let q = packet-kept st p c start end in
    let l = length-packet st p c start end h in
    let i = k r.0 r.1 (rw (q.config, l) h) in
    record { config = i.config ∙ q.config; frame = i.frame ∙ q.frame; size = i.size ∙ l }
onwards-calm (Tail start len) st p c f h k =
    let i = k (with_slot st (holding start len) st.cursor) c h in
    record { config = i.config; frame = i.frame; size = i.size }
onwards-calm Done st p c f h k = record { config = refl; frame = refl; size = refl }

read-on-calm : (f : ℕ) (st : State) (p c : List ℕ) → Ample st c → Calm st c (read_on f st p c)
unfolding read_on
read-on-calm zero st p c h = record { config = refl; frame = refl; size = refl }
read-on-calm (suc f) st p c h =
    let t = turn_of st.queue st.cursor p in
    let i = onwards-calm t.found (past st t) p c (λ s d. read_on f s p d) h (λ s d l. read-on-calm f s p d l) in
    record { config = i.config; frame = i.frame; size = i.size }

pub next-calm : (st : State) (p c : List ℕ) → Calm st c (next_of st p c)
unfolding read_all
next-calm st p c = go (short_by st.config (length p) (length c)) st.owed refl refl
  where
    go : (b o : Bool) → short_by st.config (length p) (length c) ≡ b → st.owed ≡ o → Calm st c (next_of st p c)
    go true o e q = rw (next-short st p c e) (record { config = refl; frame = refl; size = refl })
    go false false e q = rw (next-idle st p c e q) (record { config = refl; frame = refl; size = refl })
    go false true e q = rw (next-reads st p c e q) (read-on-calm _ st p c (short-room _ _ _ e))

module _ (st : State) (p c : List ℕ) where
  pub next-config : (next_of st p c).0.state.config ≡ st.config
  next-config = (next-calm st p c).config

  pub next-frame : (next_of st p c).0.state.frame ≡ st.frame
  next-frame = (next-calm st p c).frame

  pub length-next : length (next_of st p c).1 ≡ length c
  length-next = (next-calm st p c).size
