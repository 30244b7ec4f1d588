-- An example of an account, computed: three small slots, two packet_ids, a whole unit and a joined one.
use Rattle.std.specs.Prelude.{ℕ, ◌≡◌, Bool, not, List, [], ◌∷◌, ◌++◌, eqb, take, drop, replicate}
use Rattle.tlv.specs.Run.{Slot, intact, damaged}
use Rattle.mmtp.specs.Unit.{no_fields}
use Rattle.reassembly.specs.declared.config.Config.{Config}
use Rattle.reassembly.specs.Run.{Content, Labelled, note, unit}
use Rattle.broadcast.specs.Account.{account}
use Rattle.broadcast.specs.Carried.{carried_units, intact_units, contents}

-- CID 2, packet_ids 17 and 18
abbrev config : Config
config = record { stream = 1; cid = 2; watch = record { ids = 17 ∷ 18 ∷ []; n = 2 }; rules = record { limit = 100 } }

-- a TLV packet of 23 bytes, two of them signalling, by packet_id, psn, first payload byte (FI in its top two bits) and counter
abbrev pub packet : ℕ → ℕ → ℕ → ℕ → List ℕ → List ℕ
packet id psn fi counter bytes =
    (0x7f ∷ 3 ∷ 0 ∷ 19 ∷ 0x00 ∷ 0x20 ∷ 0x61 ∷ [])
    ++ (0 ∷ 2 ∷ 0 ∷ id ∷ 0 ∷ 0 ∷ 0 ∷ 0 ∷ 0 ∷ 0 ∷ 0 ∷ psn ∷ [])
    ++ (fi ∷ counter ∷ bytes)

-- two pieces of packet_id 18, a whole unit of packet_id 17, and a null packet of two bytes
abbrev pub first : List ℕ
first = packet 18 5 0x40 1 (0xa1 ∷ 0xa2 ∷ [])

abbrev pub last : ℕ → List ℕ
last psn = packet 18 psn 0xc0 0 (0xa3 ∷ 0xa4 ∷ [])

abbrev alone : List ℕ
alone = packet 17 9 0 0 (0xb1 ∷ 0xb2 ∷ [])

abbrev null : List ℕ
null = 0x7f ∷ 0xff ∷ 0 ∷ 2 ∷ 0xff ∷ 0xff ∷ []

abbrev pub slot : ℕ → ℕ → List ℕ → Slot
slot top last bytes = record { top = top; last = last; bytes = bytes }

-- the whole unit's first header byte ends slot 1, the rest of it begins slot 2
abbrev slots : List (ℕ × Slot)
slots =
    (1, slot 0 23 (first ++ take 1 alone))
    ∷ (2, slot 22 28 (drop 1 alone ++ null))
    ∷ (3, slot 0 23 (last 6))
    ∷ []

-- the same without slot 2, not even lost, and with the wrong psn in slot 3
abbrev torn : List (ℕ × Slot)
torn = (1, slot 0 23 (first ++ take 1 alone)) ∷ (3, slot 0 23 (last 7)) ∷ []

-- packets noted 50, 51 and 52: an unknown header type, version 1, and FI 11 with counter 1
abbrev bad : List (ℕ × Slot)
bad = (
  1,
  slot 0 53 ((0x7f ∷ 3 ∷ 0 ∷ 3 ∷ 0x00 ∷ 0x20 ∷ 0x99 ∷ [])
      ++ ((0x7f ∷ 3 ∷ 0 ∷ 19 ∷ 0x00 ∷ 0x20 ∷ 0x61 ∷ 0x40 ∷ replicate 15 0) ++ packet 17 9 0xc0 1 (0xb1 ∷ 0xb2 ∷ []))),
) ∷ []

-- the whole unit's packet, but its first byte is 0x40
abbrev noise : List (ℕ × Slot)
noise = (1, slot 0 23 (0x40 ∷ drop 1 alone)) ∷ []

abbrev without : ℕ → ℕ → Bool
without n k = not (eqb n k)

-- the units
abbrev pub content : ℕ → ℕ → List ℕ → Content
content id psn bytes =
    record {
      info = record { packet_id = id; kind = 4; psn = record { 0 = psn }; mpu = 0; fields = no_fields };
      bytes = bytes;
    }

abbrev whole : Content
whole = content 17 9 (0xb1 ∷ 0xb2 ∷ [])

abbrev pub joined : Content
joined = content 18 5 (0xa1 ∷ 0xa2 ∷ 0xa3 ∷ 0xa4 ∷ [])

-- a unit with the labels of each of its packets
abbrev of : List (List ℕ) → Content → Labelled (List ℕ)
of ls u = record { labels = ls; content = u }

abbrev pub Examples : Type 0
Examples =
    -- undamaged: no note, two units, each in the slots of its packets
    (account config (intact slots)
    ≡ unit (of ((1 ∷ 2 ∷ []) ∷ []) whole) ∷ unit (of ((1 ∷ []) ∷ (3 ∷ []) ∷ []) joined) ∷ [])
    -- what the row carries, with the slot of each byte
    × (carried_units config slots
    ≡ of ((1 ∷ replicate 22 2) ∷ []) whole ∷ of (replicate 23 1 ∷ replicate 23 3 ∷ []) joined ∷ [])
    -- slot 2 lost: the open unit of packet_id 18 goes on
    × (account config (damaged (without 2) slots) ≡ note 40 0 ∷ unit (of ((1 ∷ []) ∷ (3 ∷ []) ∷ []) joined) ∷ [])
    × (contents (intact_units (without 2) (carried_units config slots)) ≡ joined ∷ [])
    -- slot 3 lost: only the joined unit is gone
    × (account config (damaged (without 3) slots) ≡ unit (of ((1 ∷ 2 ∷ []) ∷ []) whole) ∷ note 40 0 ∷ [])
    × (contents (intact_units (without 3) (carried_units config slots)) ≡ whole ∷ [])
    -- slot 1 lost, and with it one header byte of the whole unit's packet: both are gone, without a note
    × (account config (damaged (without 1) slots) ≡ [])
    × (contents (intact_units (without 1) (carried_units config slots)) ≡ [])
    -- two notes of one slot: the held byte does not go on in it, nor packet_id 18's psn in its packet
    × (account config (intact torn) ≡ note 42 0 ∷ note 60 18 ∷ [])
    -- damage inside a slot is noted; only 52 has a packet_id
    × (account config (intact bad) ≡ note 50 0 ∷ note 51 0 ∷ note 52 17 ∷ [])
    -- a header that does not begin 0x7F: the slot is unsound, and the broadcast not undamaged
    × (account config (intact noise) ≡ note 41 0 ∷ [])
