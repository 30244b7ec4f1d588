-- The specimens of document 01 for slots, and further examples.
use Rattle.std.specs.Prelude.{ℕ, ◌≡◌, true, false, List, [], ◌∷◌, ◌++◌, replicate}
use Rattle.tlv.specs.declared.note.SlotNote.TheVariants.{Misfit, TooLong}
use Rattle.tlv.specs.declared.held.Continuation.TheVariants.{Dropped, Ends, GoesOn}
use Rattle.tlv.specs.Packet.{good_first, too_long}
use Rattle.tlv.specs.Slot.{sound, slot_note}
use Rattle.tlv.specs.Held.{continuation_of, note_of}

-- a slot of 1870 bytes that is one packet: its length field is 0x074a, 1866
abbrev one_packet : List ℕ
one_packet = 0x7f ∷ 3 ∷ 0x07 ∷ 0x4a ∷ replicate 1866 0

-- a slot of 1870 bytes whose last two begin a packet
abbrev late_start : List ℕ
late_start = replicate 1868 0 ++ 0x7f ∷ 3 ∷ []

-- the header and the first four bytes of a packet whose length field has the low byte x: 0x3ffc, a total of 16,384, or 0x3ffd
abbrev begun : ℕ → List ℕ
begun x = 0x7f ∷ 3 ∷ 0x3f ∷ x ∷ replicate 4 0

-- the starred ones
abbrev pub Specimens : Type 0
Specimens =
    -- "With L 1870: t 0, length field 1866, last 1870 sound"
    (slot_note one_packet 0 1870 ≡ 0)
    -- "last 1869: 41"
    × (slot_note one_packet 0 1869 ≡ 41)
    -- "t 1868, last 1868 sound"
    × (slot_note late_start 1868 1868 ≡ 0)
    -- "t 0xFFFF, last 1869: 41"
    × (slot_note one_packet 0xffff 1869 ≡ 41)
    -- "Held total 16,384 kept": held bytes that go on, and a tail
    × (note_of (continuation_of (begun 0xfc) (replicate 1870 0) 0xffff 0xffff) ≡ 0)
    × (too_long (begun 0xfc) ≡ false)
    -- "16,385: 43"
    × (note_of (continuation_of (begun 0xfd) (replicate 1870 0) 0xffff 0xffff) ≡ 43)
    × (too_long (begun 0xfd) ≡ true)

-- a slot of four bytes: a null packet that is only its header
abbrev null_packet : List ℕ
null_packet = 0x7f ∷ 0xff ∷ 0 ∷ 0 ∷ []

-- the held header of a packet with x bytes to come
abbrev header : ℕ → List ℕ
header x = 0x7f ∷ 3 ∷ 0 ∷ x ∷ []

-- first bytes, by document 02, item 2
abbrev pub FirstBytes : Type 0
FirstBytes =
    -- "a header is good only if its first byte is 0x7F" (document 02, item 2)
    (good_first 0x7f ≡ true)
    × (good_first 0x40 ≡ false)
    × (good_first 0x7e ≡ false)
    × (good_first 0xff ≡ false)
    -- a bad first byte spoils the slot: the first packet's, that of one behind it, the unfinished one's even if only that byte is there
    × (sound (null_packet ++ null_packet ++ 0x7f ∷ []) 0 8 ≡ true)
    × (sound (0x40 ∷ 0xff ∷ 0 ∷ 0 ∷ null_packet ++ 0x7f ∷ []) 0 8 ≡ false)
    × (sound (null_packet ++ 0x7e ∷ 0xff ∷ 0 ∷ 0 ∷ 0x7f ∷ []) 0 8 ≡ false)
    × (sound (null_packet ++ null_packet ++ 0x40 ∷ []) 0 8 ≡ false)
    -- bytes before t are not looked at, nor is a slot in which no packet starts
    × (sound (0x40 ∷ null_packet) 1 5 ≡ true)
    × (sound (0x40 ∷ 0x40 ∷ []) 0xffff 0xffff ≡ true)

-- small ones, by the readings of document 01
abbrev pub Examples : Type 0
Examples =
    -- "last is the end of the last packet complete from t, else t, or 0xFFFF if t is 0"
    (sound (3 ∷ 0x7f ∷ []) 1 0xffff ≡ false)
    × (sound (0x7f ∷ 3 ∷ []) 0 0xffff ≡ true)
    × (sound (0x7f ∷ 3 ∷ []) 0 0 ≡ false)
    -- "with t = 0xFFFF, last is 0xFFFF or L. Any other t is unsound"
    × (sound (0 ∷ 0 ∷ []) 0xffff 2 ≡ true)
    × (sound (0 ∷ 0 ∷ []) 2 2 ≡ false)
    -- "their header is completed from the slot, before or past t": a total of 0x7f03 and 4, by bytes of the next packet; 43, not 42
    × (continuation_of (0x7f ∷ 0xff ∷ []) (0x7f ∷ 0x03 ∷ 0 ∷ 0 ∷ []) 0 4 ≡ Dropped TooLong)
    × (continuation_of (0x7f ∷ []) (0xff ∷ 0x7f ∷ 0x03 ∷ 0 ∷ 0 ∷ []) 1 5 ≡ Dropped TooLong)
    -- "an end (0 if nothing is held) that differs from t"
    × (continuation_of [] (replicate 5 0 ++ null_packet) 5 9 ≡ Dropped Misfit)
    × (continuation_of (header 1) (0 ∷ null_packet) 1 5 ≡ Ends 1)
    × (continuation_of (header 2) (0 ∷ null_packet) 1 5 ≡ Dropped Misfit)
    -- "for t = 0xFFFF: an end inside the slot, or at L without last = L, or after L with last = L, or no packet held"
    × (continuation_of (header 3) (replicate 4 0) 0xffff 4 ≡ Dropped Misfit)
    × (continuation_of (header 4) (replicate 4 0) 0xffff 4 ≡ Ends 4)
    × (continuation_of (header 4) (replicate 4 0) 0xffff 0xffff ≡ Dropped Misfit)
    × (continuation_of (header 5) (replicate 4 0) 0xffff 4 ≡ Dropped Misfit)
    × (continuation_of (header 5) (replicate 4 0) 0xffff 0xffff ≡ GoesOn)
    × (continuation_of [] (replicate 4 0) 0xffff 0xffff ≡ Dropped Misfit)
