-- What next has yet to give of a packet, in seventeen words that the caller lends. Reading is total; what is written is read back.
use Prim.Native.Nat.{ℕ, ◌+◌, ◌%◌, ◌<◌, ◌≤◌}
use Rattle.std.specs.Prelude.{◌≡◌, Bool, false, cond, eqb, length, get_or}
use mathlib.Core.List.{List, [], ◌∷◌, ◌++◌}
use Rattle.wire.specs.Words.{Holds, Put, Within, flag_of, flag_word}
use Rattle.mmtp.specs.declared.packet.Packet.{Packet}
use Rattle.mmtp.specs.declared.payload.Indicator.{Indicator}
use Rattle.mmtp.specs.declared.payload.Indicator.TheVariants.{Whole, First, Middle, Last}
use Rattle.mmtp.specs.Payload.{indicator_of}
use Rattle.words.specs.Channel.{read_unit, unit_words, SizedUnit}
use Rattle.queue.specs.Event.{Event}
use Rattle.queue.specs.declared.event.Memory.{Memory}
use Rattle.queue.specs.declared.event.Memory.TheVariants.{Packet as PacketMemory, Collecting}
use Rattle.queue.specs.Waiting.{Give, Nothing, One, Many, Queue}
use Rattle.queue.specs.Queue.{event_taken}

-- a memory of a number, and the numbers of memories and indicators
unfoldable pub memory_at : ℕ → Memory
memory_at n = cond (eqb n 0) PacketMemory Collecting

unfoldable pub memory_word : Memory → ℕ
memory_word PacketMemory = 0
memory_word Collecting = 1

unfoldable pub indicator_word : Indicator → ℕ
indicator_word Whole = 0
indicator_word First = 1
indicator_word Middle = 2
indicator_word Last = 3

-- an MMTP packet, ten words from i on
unfoldable pub read_packet : List ℕ → ℕ → Packet
read_packet t i =
    record {
      place = get_or t i 0;
      packet_id = get_or t (i + 1) 0 % 65536;
      psn = record { 0 = get_or t (i + 2) 0 % 4294967296 };
      payload = record {
        kind = get_or t (i + 3) 0 % 256;
        indicator = indicator_of (get_or t (i + 4) 0);
        counter = get_or t (i + 5) 0 % 256;
        mpu = get_or t (i + 6) 0 % 4294967296;
        aggregated = flag_of (get_or t (i + 7) 0);
        wide = flag_of (get_or t (i + 8) 0);
        start = get_or t (i + 9) 0;
      };
    }

unfoldable pub packet_words : Packet → List ℕ
packet_words k =
    k.place
    ∷ k.packet_id
    ∷ k.psn.0
    ∷ k.payload.kind
    ∷ indicator_word k.payload.indicator
    ∷ k.payload.counter
    ∷ k.payload.mpu
    ∷ flag_word k.payload.aggregated
    ∷ flag_word k.payload.wide
    ∷ k.payload.start
    ∷ []

-- units, by their number: none, one, those of an aggregate
unfoldable pub read_give : ℕ → List ℕ → ℕ → Give
read_give n t i =
    cond (eqb n 0) Nothing
    (cond (eqb n 1)
    (One
    (record {
      unit = read_unit t (i + 4);
      place = record { memory = memory_at (get_or t (i + 14) 0); start = get_or t (i + 15) 0; len = get_or t (i + 16) 0 };
    }))
    (Many
    (record {
      packet = read_packet t (i + 4);
      start = get_or t (i + 14) 0;
      end = get_or t (i + 15) 0;
      at = get_or t (i + 16) 0;
    })))

unfoldable pub give_words : Give → List ℕ
give_words Nothing = 0 ∷ 0 ∷ 0 ∷ 0 ∷ 0 ∷ 0 ∷ 0 ∷ 0 ∷ 0 ∷ 0 ∷ 0 ∷ 0 ∷ 0 ∷ 0 ∷ []
give_words (One g) =
    ((1 ∷ []) ++ unit_words g.unit) ++ (memory_word g.place.memory ∷ g.place.start ∷ g.place.len ∷ [])
give_words (Many a) = ((2 ∷ []) ++ packet_words a.packet) ++ (a.start ∷ a.end ∷ a.at ∷ [])

-- the queue, seventeen words
unfoldable pub read_queue : List ℕ → ℕ → Queue
read_queue t i =
    record {
      note = get_or t i 0 % 256;
      over = flag_of (get_or t (i + 1) 0);
      packet_id = get_or t (i + 2) 0 % 65536;
      give = read_give (get_or t (i + 3) 0) t i;
    }

unfoldable pub queue_words : Queue → List ℕ
queue_words q = (q.note ∷ flag_word q.over ∷ q.packet_id ∷ []) ++ give_words q.give

-- what the types keep to
pub record SizedPacket (k : Packet) : Type 0 where
  pub id : k.packet_id < 65536
  pub psn : k.psn.0 < 4294967296
  pub kind : k.payload.kind < 256
  pub counter : k.payload.counter < 256
  pub mpu : k.payload.mpu < 4294967296

abbrev pub SizedGive : Give → Type 0
SizedGive Nothing = Prim.Unit {0}
SizedGive (One g) = SizedUnit g.unit
SizedGive (Many a) = SizedPacket a.packet

-- words after a packet, the notes of the queue at i, or its units were stored
pub record PacketStored (before after : List ℕ) (i : ℕ) (k : Packet) : Type 0 where
  pub put : Put before after i 10 (packet_words k)
  pub sized : SizedPacket k

pub record NotesStored (before after : List ℕ) (i note : ℕ) (over : Bool) (id : ℕ) : Type 0 where
  pub put : Put before after i 3 (note ∷ flag_word over ∷ id ∷ [])
  pub note-sized : note < 256
  pub id-sized : id < 65536

pub record GiveStored (before after : List ℕ) (i : ℕ) (g : Give) : Type 0 where
  pub put : Put before after (i + 3) 14 (give_words g)
  pub sized : SizedGive g

-- words that are just those of what is read there
abbrev pub CleanQueue : List ℕ → ℕ → Type 0
CleanQueue t i = Holds t i 17 (queue_words (read_queue t i))

-- the queue at i has no note left, and its units are none (0), one (1), or those of an aggregate (from 2 on)
pub record Gives (t : List ℕ) (i n : ℕ) : Type 0 where
  pub room : i + 17 ≤ length t
  pub note : (read_queue t i).note ≡ 0
  pub over : (read_queue t i).over ≡ false
  pub units : cond (eqb n 2) (2 ≤ get_or t (i + 3) 0) (get_or t (i + 3) 0 ≡ n)

-- an event is taken from the queue at i
pub record Takes (before : List ℕ) (i : ℕ) (p : List ℕ) (r : Event) (after : List ℕ) : Type 0 where
  pub taken : record { event = r; queue = read_queue after i } ≡ event_taken (read_queue before i) p
  pub within : Within before after i 17
  pub clean : CleanQueue before i → CleanQueue after i

pub record SizedQueue (q : Queue) : Type 0 where
  pub note : q.note < 256
  pub id : q.packet_id < 65536
  pub give : SizedGive q.give
