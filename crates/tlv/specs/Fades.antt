-- Examples of lost and noted slots: a packet whose header is split over two of three slots, one that goes through all three, and
-- slots with notes 41, 42 and 43.
use Rattle.std.specs.Prelude.{ℕ, ◌≡◌, not, List, [], ◌∷◌, ◌++◌, take, eqb}
use Rattle.tlv.specs.Slot.{none}
use Rattle.tlv.specs.Run.{Slot, note, packet_of, searching, held, Arrival}
use Rattle.tlv.specs.Run.{run, state_after, intact, damaged}
use Rattle.tlv.specs.Row.{tagged, row_packets}

-- a null packet that is only its header, and two IP packets
abbrev null_packet : List ℕ
null_packet = 0x7f ∷ 0xff ∷ 0 ∷ 0 ∷ []

abbrev split : List ℕ
split = 0x7f ∷ 3 ∷ 0 ∷ 2 ∷ 0x11 ∷ 0x22 ∷ []

abbrev small : List ℕ
small = 0x7f ∷ 3 ∷ 0 ∷ 1 ∷ 0x33 ∷ []

-- the end of a packet, a null packet and half of the header; the rest of that packet and the small one; a null packet and a tail
abbrev slots : List (ℕ × Slot)
slots =
    (1, record { top = 2; last = 6; bytes = 0x99 ∷ 0x98 ∷ null_packet ++ 0x7f ∷ 3 ∷ [] })
    ∷ (2, record { top = 4; last = 9; bytes = 0 ∷ 2 ∷ 0x11 ∷ 0x22 ∷ small })
    ∷ (3, record { top = 0; last = 4; bytes = null_packet ++ 0x7f ∷ [] })
    ∷ []

-- a packet, and its two bytes, three bytes and last three bytes in three slots; in the second none starts
abbrev long : List ℕ
long = 0x7f ∷ 3 ∷ 0 ∷ 4 ∷ 0x44 ∷ 0x55 ∷ 0x66 ∷ 0x77 ∷ []

abbrev through : List (ℕ × Slot)
through =
    (1, record { top = 0; last = none; bytes = 0x7f ∷ 3 ∷ [] })
    ∷ (2, record { top = none; last = none; bytes = 0 ∷ 4 ∷ 0x44 ∷ [] })
    ∷ (3, record { top = 3; last = 7; bytes = 0x55 ∷ 0x66 ∷ 0x77 ∷ null_packet })
    ∷ []

-- slots that are noted, each with a packet behind it that is read from its top pointer: two unsound slots, by the last pointer and
-- by the first byte of a tail; a slot without a top pointer, which nothing held fits; a tail of 16,385 bytes
abbrev next : ℕ × Slot
next = (2, record { top = 3; last = 7; bytes = 0x55 ∷ 0x66 ∷ 0x77 ∷ null_packet })

abbrev wrong_last : ℕ × Slot
wrong_last = (1, record { top = 0; last = 3; bytes = null_packet })

abbrev wrong_first : ℕ × Slot
wrong_first = (1, record { top = 0; last = 4; bytes = null_packet ++ 0x40 ∷ [] })

abbrev unfitting : ℕ × Slot
unfitting = (1, record { top = none; last = none; bytes = 0 ∷ 4 ∷ 0x44 ∷ [] })

abbrev tailed : ℕ × Slot
tailed = (1, record { top = 0; last = 4; bytes = null_packet ++ 0x7f ∷ 3 ∷ 0x3f ∷ 0xfd ∷ [] })

-- slot n is lost
abbrev without : ℕ → List (ℕ × Slot) → List (Arrival ℕ)
without n xs = damaged (λ (k : ℕ). not (eqb k n)) xs

abbrev pub Fades : Type 0
Fades =
    -- each packet has the labels of its slots
    (run searching (intact slots)
    ≡ packet_of (1 ∷ []) null_packet ∷ packet_of (1 ∷ 2 ∷ []) split ∷ packet_of (2 ∷ []) small ∷ packet_of (3 ∷ []) null_packet ∷ [])
    -- a lost slot takes away those that have a byte in it
    × (run searching (without 1 slots) ≡ packet_of (2 ∷ []) small ∷ packet_of (3 ∷ []) null_packet ∷ [])
    × (run searching (without 2 slots) ≡ packet_of (1 ∷ []) null_packet ∷ note 40 ∷ packet_of (3 ∷ []) null_packet ∷ [])
    × (run searching (without 3 slots)
    ≡ packet_of (1 ∷ []) null_packet ∷ packet_of (1 ∷ 2 ∷ []) split ∷ packet_of (2 ∷ []) small ∷ note 40 ∷ [])
    -- the row from the first top pointer on, cut
    × (row_packets slots
    ≡ tagged 1 null_packet
    ∷ (tagged 1 (0x7f ∷ 3 ∷ []) ++ tagged 2 (0 ∷ 2 ∷ 0x11 ∷ 0x22 ∷ []))
    ∷ tagged 2 small
    ∷ tagged 3 null_packet
    ∷ [])
    -- and through a slot in which no packet starts
    × (run searching (intact through) ≡ packet_of (1 ∷ 2 ∷ 3 ∷ []) long ∷ packet_of (3 ∷ []) null_packet ∷ [])
    × (run searching (without 2 through) ≡ note 40 ∷ packet_of (3 ∷ []) null_packet ∷ [])
    × (row_packets through
    ≡ (tagged 1 (0x7f ∷ 3 ∷ []) ++ tagged 2 (0 ∷ 4 ∷ 0x44 ∷ []) ++ tagged 3 (0x55 ∷ 0x66 ∷ 0x77 ∷ [])) ∷ tagged 3 null_packet ∷ [])
    -- "an unsound one gives 41, makes it searching, and nothing is read from it", also while searching
    × (run searching (intact (wrong_last ∷ next ∷ [])) ≡ note 41 ∷ packet_of (2 ∷ []) null_packet ∷ [])
    × (run (held [] []) (intact (wrong_last ∷ next ∷ [])) ≡ note 41 ∷ packet_of (2 ∷ []) null_packet ∷ [])
    × (run (held [] []) (intact (wrong_first ∷ next ∷ [])) ≡ note 41 ∷ packet_of (2 ∷ []) null_packet ∷ [])
    -- what is held then: one byte of a header; a packet that goes on
    × (state_after searching (intact slots) ≡ held (3 ∷ []) (0x7f ∷ []))
    × (state_after searching (take 2 (intact through)) ≡ held (1 ∷ 2 ∷ []) (0x7f ∷ 3 ∷ 0 ∷ 4 ∷ 0x44 ∷ []))
    -- 42, and "a drop with t = 0xFFFF, leaves it searching"
    × (run (held [] []) (intact (unfitting ∷ next ∷ [])) ≡ note 42 ∷ packet_of (2 ∷ []) null_packet ∷ [])
    -- a tail "whose known total is above 16,384 gives 43", behind the slot's packets, and leaves it searching
    × (run searching (intact (tailed ∷ next ∷ [])) ≡ packet_of (1 ∷ []) null_packet ∷ note 43 ∷ packet_of (2 ∷ []) null_packet ∷ [])
