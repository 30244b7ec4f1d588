-- The states of packet_ids in words that the caller lends. Reading is total, also of words that no call writes; what is written is
-- read back.
use Prim.Native.Nat.{ℕ, ◌+◌, ◌%◌, ◌<◌}
use Rattle.std.specs.Prelude.{cond, eqb, get_or}
use mathlib.Core.List.{List, [], ◌∷◌, ◌++◌}
use Rattle.wire.specs.Words.{Put}
use Rattle.mmtp.specs.declared.header.Psn.{Psn}
use Rattle.mmtp.specs.declared.unit.Fields.{Fields}
use Rattle.reassembly.specs.declared.channel.Phase.{Phase}
use Rattle.reassembly.specs.declared.channel.Phase.TheVariants.{Unheard, Waiting, Idle, Open}
use Rattle.reassembly.specs.declared.channel.Channel.{Channel}
use Rattle.reassembly.specs.declared.unit.Unit.{Unit}

-- a phase of a number: every number from 3 on is Open
unfoldable pub phase_of : ℕ → Phase
phase_of n = cond (eqb n 0) Unheard (cond (eqb n 1) Waiting (cond (eqb n 2) Idle Open))

unfoldable pub phase_word : Phase → ℕ
phase_word Unheard = 0
phase_word Waiting = 1
phase_word Idle = 2
phase_word Open = 3

-- fields, six words from i on
unfoldable pub read_fields : List ℕ → ℕ → Fields
read_fields t i =
    record {
      movie_fragment = get_or t i 0 % 4294967296;
      sample = get_or t (i + 1) 0 % 4294967296;
      offset = get_or t (i + 2) 0 % 4294967296;
      priority = get_or t (i + 3) 0 % 256;
      dependency = get_or t (i + 4) 0 % 256;
      item = get_or t (i + 5) 0 % 4294967296;
    }

unfoldable pub field_words : Fields → List ℕ
field_words f = f.movie_fragment ∷ f.sample ∷ f.offset ∷ f.priority ∷ f.dependency ∷ f.item ∷ []

-- what a unit carries, ten words
unfoldable pub read_unit : List ℕ → ℕ → Unit
read_unit t i =
    record {
      packet_id = get_or t i 0 % 65536;
      kind = get_or t (i + 1) 0 % 256;
      psn = record { 0 = get_or t (i + 2) 0 % 4294967296 };
      mpu = get_or t (i + 3) 0 % 4294967296;
      fields = read_fields t (i + 4);
    }

unfoldable pub unit_words : Unit → List ℕ
unit_words u = (u.packet_id ∷ u.kind ∷ u.psn.0 ∷ u.mpu ∷ []) ++ field_words u.fields

-- the state of a packet_id, fourteen words
unfoldable pub read_channel : List ℕ → ℕ → Channel
read_channel t i =
    record {
      phase = phase_of (get_or t i 0);
      last = record { 0 = get_or t (i + 1) 0 % 4294967296 };
      current = record { unit = read_unit t (i + 2); counter = get_or t (i + 12) 0 % 256; len = get_or t (i + 13) 0 };
    }

unfoldable pub channel_words : Channel → List ℕ
channel_words ch =
    ((phase_word ch.phase ∷ ch.last.0 ∷ []) ++ unit_words ch.current.unit)
    ++ (ch.current.counter ∷ ch.current.len ∷ [])

-- what the types keep to
pub record SizedFields (f : Fields) : Type 0 where
  pub fragment : f.movie_fragment < 4294967296
  pub sample : f.sample < 4294967296
  pub offset : f.offset < 4294967296
  pub priority : f.priority < 256
  pub dependency : f.dependency < 256
  pub item : f.item < 4294967296

pub record SizedUnit (u : Unit) : Type 0 where
  pub id : u.packet_id < 65536
  pub kind : u.kind < 256
  pub psn : u.psn.0 < 4294967296
  pub mpu : u.mpu < 4294967296
  pub fields : SizedFields u.fields

pub record SizedChannel (ch : Channel) : Type 0 where
  pub last : ch.last.0 < 4294967296
  pub unit : SizedUnit ch.current.unit
  pub counter : ch.current.counter < 256

-- words after fields, what a unit carries, or a packet_id's state was stored from i on
pub record FieldsStored (before after : List ℕ) (i : ℕ) (f : Fields) : Type 0 where
  pub put : Put before after i 6 (field_words f)
  pub sized : SizedFields f

pub record UnitStored (before after : List ℕ) (i : ℕ) (u : Unit) : Type 0 where
  pub put : Put before after i 10 (unit_words u)
  pub sized : SizedUnit u

pub record ChannelStored (before after : List ℕ) (i : ℕ) (ch : Channel) : Type 0 where
  pub put : Put before after i 14 (channel_words ch)
  pub sized : SizedChannel ch

-- the phase and the last psn alone
pub record HeardStored (before after : List ℕ) (i : ℕ) (phase : Phase) (last : Psn) : Type 0 where
  pub put : Put before after i 2 (phase_word phase ∷ last.0 ∷ [])
  pub sized : last.0 < 4294967296
