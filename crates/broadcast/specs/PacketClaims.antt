-- One packet over the memories stands for one packet of the account, and next takes what it left, one event at a time.
use Rattle.std.specs.Prelude.{ℕ, ◌+◌, ◌-◌, ◌*◌, ◌≤◌, ◌<◌, ◌≡◌, true, false, List, [], ◌∷◌, map, length, get_or, drop}
use Rattle.wire.specs.Memory.{part_of}
use Rattle.mmtp.specs.Unit.{aggregate}
use Rattle.reassembly.specs.declared.config.Config.{Config}
use Rattle.reassembly.specs.Channel.{unheard}
use Rattle.reassembly.specs.Run.{Lane}
use Rattle.queue.specs.Event.{Event}
use Rattle.queue.specs.Event.{Nothing, Note, Unit, Refused}
use Rattle.queue.specs.Waiting.{Give, Nothing as NoUnit, One, Many, Queue}
use Rattle.words.specs.Config.{kept_config}
use Rattle.state.specs.State.{State}
use Rattle.state.specs.Start.{Starts}
use Rattle.queue.specs.Queue.{empty, event_taken}
use Rattle.receiver.specs.Next.{packet_of}
use Rattle.broadcast.specs.Account.{After, read_of, after_read}
use Rattle.broadcast.specs.Drains.{note, shown, strip, LaneIs}
use Rattle.broadcast.specs.Pending.{queue_pending}

-- nothing waits in the queue
abbrev pub QueueEmpty : Queue → Type 0
QueueEmpty q = (q.note ≡ 0) × (q.over ≡ false) × (q.give ≡ empty.give)

-- what is left of an aggregate is cut into whole units
abbrev pub GiveGood : Give → List ℕ → Type 0
GiveGood NoUnit p = Prim.Unit {0}
GiveGood (One g) p = Prim.Unit {0}
GiveGood (Many a) p =
    let y = a.packet.payload in
    (aggregate (drop a.at (part_of p a.start (a.end - a.start))) y.kind y.wide).fits ≡ true

abbrev pub QueueGood : Queue → List ℕ → Type 0
QueueGood q p = GiveGood q.give p

-- the collecting memory has its places, and each packet_id's state and bytes are those of its lane
pub record LanesAre {A : Type 0} (cfg : Config) (st : State) (c : List ℕ) (f : ℕ → Lane (List A)) : Type 0 where
  pub config : st.config ≡ kept_config cfg
  pub channels : length st.channels ≡ 16
  pub starts : Starts cfg
  pub collecting-long : cfg.watch.n * cfg.rules.limit ≤ length c
  pub lanes : (k : ℕ) → k < cfg.watch.n → LaneIs (get_or st.channels k unheard) k cfg.rules c (f k)

-- the state and the collecting memory after a packet: the lanes and the events are those of the account, the rest is as it was
pub record Stands {A : Type 0} (cfg : Config) (st st' : State) (p c c' : List ℕ) (w : After (List A)) : Type 0 where
  pub lanes : LanesAre cfg st' c' w.lanes
  pub events : queue_pending st'.queue p c' ≡ map strip w.events
  pub good : QueueGood st'.queue p
  pub size : length c' ≡ length c
  pub frame : st'.frame ≡ st.frame
  pub owed : st'.owed ≡ st.owed
  pub held : st'.held ≡ st.held
  pub cursor : st'.cursor ≡ st.cursor

-- the TLV packet that stands from `s` to `e` in packet memory
abbrev pub PacketDoes : Type 1
PacketDoes =
    (A : Type 0) (cfg : Config) (st : State) (p c : List ℕ) (s e : ℕ) (f : ℕ → Lane (List A)) (a : List A)
    → s ≤ e → e ≤ length p → LanesAre cfg st c f → QueueEmpty st.queue
    → let r = packet_of st p c s e in
    Stands cfg st r.0 p c r.1 (after_read cfg (read_of cfg (part_of p s (e - s))) f a)

-- what is taken is the first that waits, with the bytes that show returns; it is Nothing only where nothing waits
abbrev pub Takes : Event → Queue → Queue → List ℕ → List ℕ → Type 0
Takes Nothing q q' p c = (queue_pending q p c ≡ []) × (queue_pending q' p c ≡ []) × QueueEmpty q'
Takes (Note n id) q q' p c = queue_pending q p c ≡ note n id ∷ queue_pending q' p c
Takes (Unit g) q q' p c = queue_pending q p c ≡ shown g p c ∷ queue_pending q' p c
Takes (Refused n) q q' p c = ⊥

abbrev pub QueueGives : Type 0
QueueGives =
    (q : Queue) (p c : List ℕ) → QueueGood q p
    → let t = event_taken q p in
    Takes t.event q t.queue p c × QueueGood t.queue p

-- a packet has no more events than two notes and a unit for each byte
abbrev pub FewEvents : Type 1
FewEvents =
    (A : Type 0) (cfg : Config) (b : List ℕ) (f : ℕ → Lane A) (a : A)
    → length (after_read cfg (read_of cfg b) f a).events ≤ length b + 2
