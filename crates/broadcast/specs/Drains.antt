-- Calls of next until nothing waits, each unit with the bytes that show returns right after, and when a receiver's state and
-- memories stand for the state of the account.
use Rattle.std.specs.Prelude.{ℕ, ◌+◌, ◌*◌, ◌≤◌, ◌<◌, ◌≡◌, true, false, List, [], ◌∷◌, length, get_or, take, drop}
use Rattle.tlv.specs.Run.{State as Slot-state, searching, held}
use Rattle.reassembly.specs.declared.config.Rules.{Rules}
use Rattle.reassembly.specs.declared.config.Config.{Config}
use Rattle.reassembly.specs.declared.channel.Channel.{Channel}
use Rattle.reassembly.specs.declared.channel.Phase.{Phase}
use Rattle.reassembly.specs.declared.channel.Phase.TheVariants.{Unheard, Waiting, Idle, Open}
use Rattle.reassembly.specs.Channel.{unheard}
use Rattle.reassembly.specs.Run.{Content, Event as Account-event, note as account-note, unit as account-unit, Lane}
use Rattle.queue.specs.Event.{Nothing, Note, Unit}
use Rattle.queue.specs.declared.event.Given.{Given}
use Rattle.intake.specs.declared.held.Held.{Held}
use Rattle.words.specs.Config.{kept_config}
use Rattle.state.specs.State.{State}
use Rattle.state.specs.Start.{Starts}
use Rattle.intake.specs.Slot.{packet_memory, noted, held_bytes}
use Rattle.queue.specs.Queue.{empty}
use Rattle.receiver.specs.Next.{next_of}
use Rattle.receiver.specs.Show.{show_of}

-- what a call of next shows
pub data Shown : Type 0 where
  note : ℕ → ℕ → Shown
  unit : Content → Shown

-- an event of the account without its labels
abbrev pub strip : {A : Type 0} → Account-event A → Shown
strip (account-note n id) = note n id
strip (account-unit u) = unit u.content

abbrev pub shown : Given → List ℕ → List ℕ → Shown
shown g p c = unit (record { info = g.unit; bytes = show_of p c g.place })

-- the calls of next from a state, with packet memory p, until it says that nothing waits: what they show, and what they leave
pub data Drains (p : List ℕ) : State → List ℕ → List Shown → State → List ℕ → Type 0 where
  stops : {st st' : State} {c c' : List ℕ} → next_of st p c ≡ (record { event = Nothing; state = st' }, c') → Drains p st c [] st' c'
  notes : {st st' st'' : State} {c c' c'' : List ℕ} {n id : ℕ} {es : List Shown}
      → next_of st p c ≡ (record { event = Note n id; state = st' }, c') → Drains p st' c' es st'' c''
      → Drains p st c (note n id ∷ es) st'' c''
  units : {st st' st'' : State} {c c' c'' : List ℕ} {g : Given} {es : List Shown}
      → next_of st p c ≡ (record { event = Unit g; state = st' }, c') → Drains p st' c' es st'' c''
      → Drains p st c (shown g p c' ∷ es) st'' c''

-- the held bytes
abbrev pub HeldIs : {A : Type 0} → Held → List ℕ → Slot-state A → Type 0
HeldIs h p searching = h.on ≡ false
HeldIs h p (held ls b) = (h.on ≡ true) × (h.start + h.len ≤ length p) × (held_bytes h p ≡ b)

-- the bytes of an open unit stand from the place of its packet_id on
abbrev pub OpenIs : Phase → ℕ → Rules → ℕ → List ℕ → List ℕ → Type 0
OpenIs Unheard k rules len b c = Prim.Unit {0}
OpenIs Waiting k rules len b c = Prim.Unit {0}
OpenIs Idle k rules len b c = Prim.Unit {0}
OpenIs Open k rules len b c = (len ≤ rules.limit) × (b ≡ take len (drop (k * rules.limit) c))

abbrev pub LaneIs : {A : Type 0} → Channel → ℕ → Rules → List ℕ → Lane A → Type 0
LaneIs ch k rules c l = (l.channel ≡ ch) × OpenIs ch.phase k rules ch.current.len l.bytes c

-- the receiver's state and memories, nothing being owed, stand for the state of the slots and of all packet_ids
pub record Tracks {A : Type 0} (cfg : Config) (st : State) (p c : List ℕ) (tl : Slot-state A) (f : ℕ → Lane (List A)) : Type 0 where
  pub config : st.config ≡ kept_config cfg
  pub packet-long : packet_memory ≤ length p
  pub collecting-long : cfg.watch.n * cfg.rules.limit ≤ length c
  pub starts : Starts cfg
  pub channels : length st.channels ≡ 16
  pub paid : st.owed ≡ false
  pub cursor : st.cursor ≡ noted 0
  pub queue : (st.queue.note ≡ 0) × (st.queue.over ≡ false) × (st.queue.give ≡ empty.give)
  pub held : HeldIs st.held p tl
  pub lanes : (k : ℕ) → k < cfg.watch.n → LaneIs (get_or st.channels k unheard) k cfg.rules c (f k)
