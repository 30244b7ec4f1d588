-- A packet is joined over the words of its packet_id and of the queue: what is stored is what joining leaves.
use Rattle.std.specs.Prelude.{ℕ, ◌+◌, ◌≤◌, ◌≡◌, refl, Bool, List, [], ◌∷◌}
use Rattle.std.proofs.Common.{◌∙◌, inr, arith}
use Rattle.std.proofs.Math.Bool.{false}
use Rattle.wire.specs.Words.{Same, Within, flag_word}
use Rattle.wire.proofs.WordsLaws.{put-within, within-put}
use Rattle.mmtp.specs.declared.note.PacketNote.{PacketNote}
use Rattle.mmtp.specs.declared.unit.DataUnit.{DataUnit}
use Rattle.mmtp.specs.declared.payload.Indicator.{Indicator}
use Rattle.mmtp.specs.declared.payload.Indicator.TheVariants.{Whole}
use Rattle.mmtp.specs.Notes.{number_of}
use Rattle.reassembly.specs.declared.channel.Channel.{Channel}
use Rattle.reassembly.specs.declared.config.Rules.{Rules}
use Rattle.reassembly.specs.Joined.{Joined}
use Rattle.reassembly.specs.declared.join.Piece.{Piece}
use Rattle.reassembly.specs.Channel.{gap}
use Rattle.reassembly.specs.Join.{join_of, acted}
use Rattle.words.specs.Config.{KeptConfig}
use Rattle.words.specs.Channel.{phase_word, read_channel, channel_words, HeardStored, ChannelStored}
use Rattle.words.proofs.ChannelLaws.{heard-put, heard-clean, channel-put, channel-same, channel-clean}
use Rattle.queue.specs.declared.located.Located.{Located}
use Rattle.delivery.specs.Arrived.{Silent, Noted, Good}
use Rattle.wire.proofs.Choice.{by_test}
use Rattle.queue.specs.Waiting.{Give, Nothing}
use Rattle.delivery.specs.Packet.{arrived_at, bytes_at, unit_in, piece_from, step_of, base_of, collected, give_of, joined_of, received_of}
use Rattle.queue.specs.Words.{give_words, NotesStored, GiveStored}
use Rattle.queue.proofs.WordsLaws.{queue-put, queue-clean}
use Rattle.delivery.specs.Words.{CleanChannel, Keeps, Joins, Receives, channel_place}

-- FI 00 leaves the current unit as it was
pub whole_current : (ch : Channel) (p : Piece) (rules : Rules) → p.indicator ≡ Whole
    → (join_of ch p rules).channel.current ≡ ch.current
unfolding join_of acted
whole_current ch p rules e =
    by_test (λ (j : Joined). j.channel.current ≡ ch.current) (gap ch p.unit.psn) _ _ (λ g. rw e) (λ g. rw e)

-- the state of a packet_id is stored: all of it, or of FI 00 the phase and the psn alone
module _ (t u : List ℕ) (n : ℕ) (i : Indicator) (ch : Channel) where
  pub keeps-heard : i ≡ Whole → HeardStored t u n ch.phase ch.last → Keeps t n i ch u
  keeps-heard e s =
      record {
        read = λ w. heard-put t u n ch.phase ch.last s ∙ rw (← w e);
        within = within-put t u n 14 n 2 (phase_word ch.phase ∷ ch.last.0 ∷ []) (omega arith) (omega arith) s.put;
        clean = λ w h. heard-clean t u n ch.phase ch.last s h;
      }

  pub keeps-stored : ChannelStored t u n ch → Keeps t n i ch u
  keeps-stored s =
      record {
        read = λ w. channel-put t u n ch s;
        within = put-within t u n 14 (channel_words ch) s.put;
        clean = λ w h. channel-clean t u n ch s;
      }

-- notes and units are stored, and a packet_id's state elsewhere stays
module _ (t u v : List ℕ) (i note : ℕ) (over : Bool) (id : ℕ) (g : Give) (s : NotesStored t u i note over id) (r : GiveStored u v i g) where
  pub beside_queue : Within t v i 17
  beside_queue =
      let a = within-put t u i 17 i 3 (note ∷ flag_word over ∷ id ∷ []) (omega arith) (omega arith) s.put in
      let b = within-put u v i 17 (i + 3) 14 (give_words g) (omega arith) (omega arith) r.put in
      record { size = b.size ∙ a.size; elsewhere = λ m h. b.elsewhere m h ∙ a.elsewhere m h }

  module _ (n : ℕ) (h : i + 17 ≤ n) where
    stays : Same v n t n 14
    stays m g = beside_queue.elsewhere (n + m) (inr (omega arith))

    pub channel-stays : read_channel v n ≡ read_channel t n
    channel-stays = channel-same v n t n stays

    pub channel-stays-clean : CleanChannel t n → CleanChannel v n
    channel-stays-clean c = rw channel-stays (λ m g. stays m g ∙ c m g)

-- what joining leaves
module _ (t u v w : List ℕ) (i k : ℕ) (l : Located) (p c d : List ℕ) (rules : Rules) (room : i + 17 ≤ k) where
  abbrev at : ℕ
  at = channel_place k l.packet.place

  abbrev step : Joined
  step = step_of (read_channel t at) l p rules

  pub joins : d ≡ collected step.action c (base_of l rules.limit) (bytes_at l p) (unit_in l p)
      → Keeps t at l.packet.payload.indicator step.channel u
      → NotesStored u v i step.note step.over l.packet.packet_id
      → GiveStored v w i (give_of step.action step l (base_of l rules.limit) (unit_in l p))
      → Joins t i k l p c rules w d
  unfolding joined_of
  joins e y s r =
      let g : Give = give_of step.action step l (base_of l rules.limit) (unit_in l p) in
      let o = whole_current (read_channel t at) (piece_from l.packet (unit_in l p)) rules in
      let q = queue-put u v w i step.note step.over l.packet.packet_id g s r in
      let b = beside_queue u v w i step.note step.over l.packet.packet_id g s r in
      let x = channel-stays u v w i step.note step.over l.packet.packet_id g s r at (omega arith) in
      record {
        joined = rw (x, y.read o, q, e);
        size = b.size ∙ y.within.size;
        elsewhere = λ m f h. b.elsewhere m f ∙ y.within.elsewhere m h;
        queue-clean = queue-clean u v w i step.note step.over l.packet.packet_id g s r;
        channel-clean =
            λ h. channel-stays-clean u v w i step.note step.over l.packet.packet_id g s r at (omega arith) (y.clean o h);
      }

  -- also where the packet's bytes, its data unit and the step are known by what they equal
  pub joins-by : (m : List ℕ) (x : DataUnit) (j : Joined) → m ≡ bytes_at l p → x ≡ unit_in l p → j ≡ step
      → d ≡ collected j.action c (base_of l rules.limit) m x
      → Keeps t at l.packet.payload.indicator j.channel u
      → NotesStored u v i j.note j.over l.packet.packet_id
      → GiveStored v w i (give_of j.action j l (base_of l rules.limit) x)
      → Joins t i k l p c rules w d
  joins-by m x j a b e f y s r = joins (rw (a, b, e) at f) (rw e at y) (rw e at s) (rw (b, e) at r)

-- a TLV packet: silent, noted, or joined
module _ (config : KeptConfig) (t : List ℕ) (i k : ℕ) (p c : List ℕ) (start end : ℕ) where
  pub receives_silent : arrived_at config p start end ≡ Silent → Receives config t i k p c start end t c
  unfolding received_of
  receives_silent a =
      record {
        received = rw a;
        size = refl;
        elsewhere = λ m f h. refl;
        queue-clean = λ h. h;
        channel-clean = λ h. h;
      }

  pub receives_noted : (u v : List ℕ) (n : PacketNote) (id : ℕ) → i + 17 ≤ k → arrived_at config p start end ≡ Noted n id
      → NotesStored t u i (number_of n) false id → GiveStored u v i Nothing → Receives config t i k p c start end v c
  unfolding received_of
  receives_noted u v n id room a s r =
      let b = beside_queue t u v i (number_of n) false id Nothing s r in
      let q = queue-put t u v i (number_of n) false id Nothing s r in
      let x = channel-stays t u v i (number_of n) false id Nothing s r (channel_place k 0) (omega arith) in
      record {
        received = rw a (rw (x, q));
        size = b.size;
        elsewhere = λ m f h. b.elsewhere m f;
        queue-clean = λ h. queue-clean t u v i (number_of n) false id Nothing s r;
        channel-clean = rw a (channel-stays-clean t u v i (number_of n) false id Nothing s r (channel_place k 0) (omega arith));
      }

  pub receives_good : (v d : List ℕ) (l : Located) → arrived_at config p start end ≡ Good l
      → Joins t i k l p c config.rules v d → Receives config t i k p c start end v d
  unfolding received_of
  receives_good v d l a j =
      record {
        received = rw a j.joined;
        size = j.size;
        elsewhere = rw a j.elsewhere;
        queue-clean = λ h. j.queue-clean;
        channel-clean = rw a j.channel-clean;
      }
