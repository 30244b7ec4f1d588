-- Laws of specs/Words.antt.
use Prim.Native.Nat.{ℕ, ◌+◌, ◌<◌, ◌≤◌}
use Rattle.std.specs.Prelude.{◌≡◌, Bool, length, get_or, replicate}
use Rattle.std.proofs.Math.Path.{refl}
use mathlib.Core.List.{List, [], ◌∷◌, ◌++◌}
use Rattle.std.proofs.Common.{mod-eq_of_lt, add-zero}
use native.Mathlib.Omega.{arith}
use denote.Enum.Declared.{tag_of}
use Rattle.wire.specs.Words.{Holds, Put, Same, flag_of, flag_word}
use Rattle.wire.proofs.WordsLaws.{flag-back, same_first, put_on, zeros_hold, holds-put, holds-front, holds-behind}
use Rattle.mmtp.specs.declared.packet.Packet.{Packet}
use Rattle.mmtp.specs.declared.payload.Indicator.{Indicator}
use Rattle.mmtp.specs.contracts.payload.Indicator.{the_type as indicator_type}
use Rattle.mmtp.specs.declared.payload.Indicator.TheVariants.{Whole, First, Middle, Last}
use Rattle.mmtp.specs.Payload.{indicator_of}
use Rattle.reassembly.specs.declared.unit.Unit.{Unit}
use Rattle.words.specs.Channel.{read_unit, unit_words, field_words, SizedUnit}
use Rattle.words.proofs.ChannelLaws.{length-unit, unit-same, unit-put}
use Rattle.queue.specs.declared.event.Memory.{Memory}
use Rattle.queue.specs.contracts.event.Memory.{the_type as memory_type}
use Rattle.queue.specs.declared.event.Memory.TheVariants.{Packet as PacketMemory, Collecting}
use Rattle.queue.specs.Waiting.{Give, Nothing, One, Many, Queue}
use Rattle.queue.specs.Queue.{empty, giving}
use Rattle.queue.specs.Words.{memory_at, memory_word, indicator_word, read_packet, packet_words, read_give, give_words, read_queue, queue_words, SizedPacket, SizedGive, NotesStored, GiveStored, CleanQueue, SizedQueue}

-- Laws.
pub memory-back : (m : Memory) → memory_at (memory_word m) ≡ m
unfolding memory_at memory_word
memory-back PacketMemory = refl
memory-back Collecting = refl

pub indicator_back : (i : Indicator) → indicator_of (indicator_word i) ≡ i
unfolding indicator_of indicator_word
indicator_back Whole = refl
indicator_back First = refl
indicator_back Middle = refl
indicator_back Last = refl

-- the numbers as the code takes them
pub memory-number : (m : Memory) → tag_of memory_type m ≡ memory_word m
unfolding memory_word
memory-number PacketMemory = refl
memory-number Collecting = refl

pub indicator-number : (i : Indicator) → tag_of indicator_type i ≡ indicator_word i
unfolding indicator_word
indicator-number Whole = refl
indicator-number First = refl
indicator-number Middle = refl
indicator-number Last = refl

pub length-packet : (k : Packet) → length (packet_words k) ≡ 10
unfolding packet_words
length-packet k = refl

pub length-give : (g : Give) → length (give_words g) ≡ 14
unfolding give_words unit_words field_words packet_words
length-give Nothing = refl
length-give (One g) = refl
length-give (Many a) = refl

-- the same words, perhaps elsewhere, are read as the same
module _ (t : List ℕ) (i : ℕ) (u : List ℕ) (k : ℕ) where
  pub packet-same : Same t i u k 10 → read_packet t i ≡ read_packet u k
  unfolding read_packet
  packet-same s =
      rw (
        same_first t i u k 10 (omega arith) s,
        s 1 (omega arith),
        s 2 (omega arith),
        s 3 (omega arith),
        s 4 (omega arith),
        s 5 (omega arith),
        s 6 (omega arith),
        s 7 (omega arith),
        s 8 (omega arith),
        s 9 (omega arith),
      )

module _ (t : List ℕ) (i : ℕ) (u : List ℕ) (k : ℕ) where
  -- units by their number: the words behind it are the same
  pub give-same : (n : ℕ) → ((j : ℕ) → 4 ≤ j → j < 17 → get_or t (i + j) 0 ≡ get_or u (k + j) 0) → read_give n t i ≡ read_give n u k
  unfolding read_give
  give-same n s =
      rw (
        unit-same t (i + 4) u (k + 4) from,
        packet-same t (i + 4) u (k + 4) from,
        s 14 (omega arith) (omega arith),
        s 15 (omega arith) (omega arith),
        s 16 (omega arith) (omega arith),
      )
    where
      from : Same t (i + 4) u (k + 4) 10
      from j h =
          let a : i + 4 + j ≡ i + (4 + j) = omega arith in
          let b : k + 4 + j ≡ k + (4 + j) = omega arith in
          rw (a, b) (s (4 + j) (omega arith) (omega arith))

  pub queue-same : Same t i u k 17 → read_queue t i ≡ read_queue u k
  unfolding read_queue
  queue-same s =
      rw (
        same_first t i u k 17 (omega arith) s,
        s 1 (omega arith),
        s 2 (omega arith),
        s 3 (omega arith),
        give-same (get_or u (k + 3) 0) (λ j g h. s j h),
      )

-- words that stand there are read back
pub packet-held : (t : List ℕ) (i : ℕ) (k : Packet) → SizedPacket k → Holds t i 10 (packet_words k) → read_packet t i ≡ k
unfolding read_packet packet_words
packet-held t i k s h =
    rw (
      rw (add-zero i) at (h 0 (omega arith)),
      h 1 (omega arith),
      mod-eq_of_lt s.id,
      h 2 (omega arith),
      mod-eq_of_lt s.psn,
      h 3 (omega arith),
      mod-eq_of_lt s.kind,
      h 4 (omega arith),
      indicator_back k.payload.indicator,
      h 5 (omega arith),
      mod-eq_of_lt s.counter,
      h 6 (omega arith),
      mod-eq_of_lt s.mpu,
      h 7 (omega arith),
      flag-back k.payload.aggregated,
      h 8 (omega arith),
      flag-back k.payload.wide,
      h 9 (omega arith),
    )

unit-held : (t : List ℕ) (i : ℕ) (x : Unit) → SizedUnit x → Holds t i 10 (unit_words x) → read_unit t i ≡ x
unit-held t i x s h = unit-put t t i x (record { put = holds-put t i 10 (unit_words x) h; sized = s })

-- a number, ten words and three more stand from i + 3 on
record Parts (t : List ℕ) (i n : ℕ) (xs : List ℕ) (a b c : ℕ) : Type 0 where
  number : get_or t (i + 3) 0 ≡ n
  body : Holds t (i + 4) 10 xs
  first : get_or t (i + 14) 0 ≡ a
  second : get_or t (i + 15) 0 ≡ b
  third : get_or t (i + 16) 0 ≡ c

parts : (t : List ℕ) (i n : ℕ) (xs : List ℕ) (a b c : ℕ) → length xs ≡ 10
    → Holds t (i + 3) 14 (((n ∷ []) ++ xs) ++ (a ∷ b ∷ c ∷ [])) → Parts t i n xs a b c
parts t i n xs a b c l h =
    let k : ℕ = i + 3 in
    let ys : List ℕ = (n ∷ []) ++ xs in
    let m : length ys ≡ 11 = rw l in
    let f : Holds t k 11 ys = holds-front t k 11 14 ys (a ∷ b ∷ c ∷ []) (omega arith) (omega arith) h in
    let d : Holds t (k + 1) 10 xs = holds-behind t k 1 10 11 (n ∷ []) xs refl (omega arith) f in
    let z : Holds t (k + 11) 3 (a ∷ b ∷ c ∷ []) = holds-behind t k 11 3 14 ys (a ∷ b ∷ c ∷ []) m (omega arith) h in
    let e₀ : i + 3 + 0 ≡ i + 3 = omega arith in
    let e₁ : i + 3 + 1 ≡ i + 4 = omega arith in
    let e₂ : i + 3 + 11 + 0 ≡ i + 14 = omega arith in
    let e₃ : i + 3 + 11 + 1 ≡ i + 15 = omega arith in
    let e₄ : i + 3 + 11 + 2 ≡ i + 16 = omega arith in
    record {
      number = rw e₀ at (h 0 (omega arith));
      body = rw e₁ at d;
      first = rw e₂ at (z 0 (omega arith));
      second = rw e₃ at (z 1 (omega arith));
      third = rw e₄ at (z 2 (omega arith));
    }

pub give-held : (t : List ℕ) (i : ℕ) (g : Give) → SizedGive g → Holds t (i + 3) 14 (give_words g) → read_give (get_or t (i + 3) 0) t i ≡ g
unfolding read_give give_words
give-held t i Nothing s h = let e : i + 3 + 0 ≡ i + 3 = omega arith in rw (rw e at (h 0 (omega arith)))
give-held t i (One g) s h =
    let p = parts t i 1 (unit_words g.unit) _ _ _ (length-unit g.unit) h in
    rw (
      p.number,
      unit-held t (i + 4) g.unit s p.body,
      p.first,
      memory-back g.place.memory,
      p.second,
      p.third,
    )
give-held t i (Many a) s h =
    let p = parts t i 2 (packet_words a.packet) _ _ _ (length-packet a.packet) h in
    rw (p.number, packet-held t (i + 4) a.packet s p.body, p.first, p.second, p.third)

pub queue-held : (t : List ℕ) (i : ℕ) (q : Queue) → SizedQueue q → Holds t i 17 (queue_words q) → read_queue t i ≡ q
unfolding read_queue queue_words
queue-held t i q s h =
    rw (
      rw (add-zero i) at (h 0 (omega arith)),
      mod-eq_of_lt s.note,
      h 1 (omega arith),
      flag-back q.over,
      h 2 (omega arith),
      mod-eq_of_lt s.id,
      give-held t i q.give s.give
          (holds-behind t i 3 14 17 (q.note ∷ flag_word q.over ∷ q.packet_id ∷ []) (give_words q.give) refl (omega arith) h),
    )

-- the notes were stored, and then the units: the queue is read back, and its words are just its own
module _ (t u v : List ℕ) (i note : ℕ) (over : Bool) (id : ℕ) (g : Give) (n : NotesStored t u i note over id) (s : GiveStored u v i g) where
  abbrev stored : Queue
  stored = record { note = note; over = over; packet_id = id; give = g }

  pub queue_words_lem : Put t v i 17 (queue_words stored)
  unfolding queue_words
  queue_words_lem = put_on t u v i 3 14 17 (note ∷ flag_word over ∷ id ∷ []) (give_words g) refl refl n.put s.put

  pub queue-put : read_queue v i ≡ record { note = note; over = over; packet_id = id; give = g }
  queue-put =
      queue-held v i stored (record { note = n.note-sized; id = n.id-sized; give = s.sized }) queue_words_lem.holds

  pub queue-clean : CleanQueue v i
  queue-clean = rw queue-put queue_words_lem.holds

-- the units alone were stored
module _ (t u : List ℕ) (i : ℕ) (g : Give) (s : GiveStored t u i g) where
  pub give-put : read_queue u i ≡ giving (read_queue t i) g
  unfolding read_queue
  give-put =
      rw (
        s.put.below i (omega arith),
        s.put.below (i + 1) (omega arith),
        s.put.below (i + 2) (omega arith),
        give-held u i g s.sized s.put.holds,
      )

  give_words_lem : (q : Queue) → Holds t i 17 (queue_words q) → Holds u i 17 (queue_words (giving q g))
  unfolding queue_words
  give_words_lem q h =
      let xs : List ℕ = q.note ∷ flag_word q.over ∷ q.packet_id ∷ [] in
      let f : Holds t i 3 xs = holds-front t i 3 17 xs (give_words q.give) (omega arith) (omega arith) h in
      (put_on t t u i 3 14 17 xs (give_words g) refl refl (holds-put t i 3 xs f) s.put).holds

  pub give-clean : CleanQueue t i → CleanQueue u i
  give-clean h = rw give-put (give_words_lem (read_queue t i) h)

-- words that are 0: nothing waits
module _ (t : List ℕ) (i : ℕ) where
  pub queue-zero : ((j : ℕ) → j < 17 → get_or t (i + j) 0 ≡ 0) → read_queue t i ≡ empty
  unfolding read_queue read_give flag_of
  queue-zero z = queue-same t i [] 0 z

  empty_words : queue_words empty ≡ replicate 17 0
  unfolding queue_words give_words
  empty_words = refl

  pub queue-zero-clean : ((j : ℕ) → j < 17 → get_or t (i + j) 0 ≡ 0) → CleanQueue t i
  queue-zero-clean z = rw (queue-zero z, empty_words) (zeros_hold t i 17 z)
