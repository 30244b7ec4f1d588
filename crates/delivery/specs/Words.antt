-- What a packet does to the words of the queue and of its packet_id's state.
use Rattle.std.specs.Prelude.{ℕ, ◌+◌, ◌*◌, ◌≡◌, List, length, get_or}
use Rattle.wire.specs.Words.{Holds, Beside, Within}
use Rattle.mmtp.specs.declared.payload.Indicator.{Indicator}
use Rattle.mmtp.specs.declared.payload.Indicator.TheVariants.{Whole}
use Rattle.reassembly.specs.declared.channel.Channel.{Channel}
use Rattle.reassembly.specs.declared.config.Rules.{Rules}
use Rattle.words.specs.Config.{KeptConfig}
use Rattle.words.specs.Channel.{read_channel, channel_words}
use Rattle.queue.specs.declared.located.Located.{Located}
use Rattle.queue.specs.Words.{read_queue, CleanQueue}
use Rattle.delivery.specs.Packet.{arrived_at, place_of, joined_of, received_of}

abbrev pub CleanChannel : List ℕ → ℕ → Type 0
CleanChannel t i = Holds t i 14 (channel_words (read_channel t i))

-- the words of the state of the packet_id at place n, where those of the sixteen stand from k on
abbrev pub channel_place : ℕ → ℕ → ℕ
channel_place k n = k + 14 * n

-- a packet is joined: the queue at i, the state of its packet_id among those from k on, collecting memory; nothing else changes
pub record Joins (before : List ℕ) (i k : ℕ) (l : Located) (p c : List ℕ) (rules : Rules) (after d : List ℕ) : Type 0 where
  pub joined : let n = channel_place k l.packet.place in
      (record { channel = read_channel after n; queue = read_queue after i }, d) ≡ joined_of (read_channel before n) l p c rules
  pub size : length after ≡ length before
  pub elsewhere : (m : ℕ) → Beside m i 17 → Beside m (channel_place k l.packet.place) 14 → get_or after m 0 ≡ get_or before m 0
  pub queue-clean : CleanQueue after i
  pub channel-clean : let n = channel_place k l.packet.place in CleanChannel before n → CleanChannel after n

-- a TLV packet comes to its packet_id and to the queue; what waited there is replaced, a silent packet leaves it
pub record Receives (config : KeptConfig) (before : List ℕ) (i k : ℕ) (p c : List ℕ) (start end : ℕ) (after d : List ℕ) : Type 0 where
  pub received : let a = arrived_at config p start end in
      let n = channel_place k (place_of a) in
      (record { channel = read_channel after n; queue = read_queue after i }, d)
      ≡ received_of a (read_channel before n) (read_queue before i) p c config.rules
  pub size : length after ≡ length before
  pub elsewhere : (m : ℕ) → Beside m i 17 → Beside m (channel_place k (place_of (arrived_at config p start end))) 14
      → get_or after m 0 ≡ get_or before m 0
  pub queue-clean : CleanQueue before i → CleanQueue after i
  pub channel-clean : let n = channel_place k (place_of (arrived_at config p start end)) in CleanChannel before n → CleanChannel after n

-- the state of a packet_id at n after a packet of this indicator was joined: of FI 00 the phase and the psn alone are stored
pub record Keeps (before : List ℕ) (n : ℕ) (i : Indicator) (ch : Channel) (after : List ℕ) : Type 0 where
  pub read : (i ≡ Whole → ch.current ≡ (read_channel before n).current) → read_channel after n ≡ ch
  pub within : Within before after n 14
  pub clean : (i ≡ Whole → ch.current ≡ (read_channel before n).current) → CleanChannel before n → CleanChannel after n
