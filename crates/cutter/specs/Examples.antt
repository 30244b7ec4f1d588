-- Examples of slots of 1870 bytes, and of the refusals in their order.
use Rattle.std.specs.Prelude.{ℕ, ◌+◌, ◌*◌, ◌≡◌, List, [], ◌∷◌, ◌++◌, replicate}
use Rattle.tlv.specs.Slot.{none}
use Rattle.cutter.specs.Cut.{CutSlot}
use Rattle.cutter.specs.Cut.{Cut, Refused}
use Rattle.cutter.specs.Slot.{slot_cut}

-- a packet whose length field has these two bytes
abbrev packet_of : ℕ → ℕ → List ℕ
packet_of high low = 0x7f ∷ 3 ∷ high ∷ low ∷ replicate (256 * high + low) 0

-- two slots: a packet of 1868 bytes, and one of 1872 whose header the slots share
abbrev pub shared : List ℕ
shared = packet_of 0x07 0x48 ++ packet_of 0x07 0x4c

-- three slots: a packet of 1900 bytes, and one of 3710
abbrev long : List ℕ
long = packet_of 0x07 0x68 ++ packet_of 0x0e 0x7a

-- two slots: packets of 1870, 4 and 1866 bytes
abbrev even : List ℕ
even = packet_of 0x07 0x4a ++ packet_of 0 0 ++ packet_of 0x07 0x46

abbrev output : ℕ → List ℕ
output n = replicate n 0xee

-- the pointers of slot s
abbrev cut_of : List ℕ → ℕ → CutSlot
cut_of run s = (slot_cut run 1870 s (output 1870)).0

abbrev pointers : ℕ → ℕ → CutSlot
pointers top last = Cut (record { 0 = top; 1 = last })

abbrev pub Examples : Type 0
Examples =
    -- a header goes over the slot's end
    (cut_of shared 0 ≡ pointers 0 1868)
    -- a packet ends at L, and none starts
    × (cut_of shared 1 ≡ pointers none 1870)
    × ((slot_cut shared 1870 1 (output 1870)).1 ≡ 0x07 ∷ 0x4c ∷ replicate 1868 0)
    -- no packet ends; one ends where the first starts, and that one goes on; it ends at L
    × (cut_of long 0 ≡ pointers 0 none)
    × (cut_of long 1 ≡ pointers 30 30)
    × (cut_of long 2 ≡ pointers none 1870)
    -- a packet that ends at L ends in this slot; the next starts in the next
    × (cut_of even 0 ≡ pointers 0 1870)
    × (cut_of even 1 ≡ pointers 0 1870)

-- a refused call whose output has k bytes: the number, and the output as it was
abbrev Refuses : ℕ → List ℕ → ℕ → ℕ → ℕ → Type 0
Refuses n run l s k = slot_cut run l s (output k) ≡ (Refused n, output k)

abbrev pub Refusals : Type 0
Refusals =
    -- 75: a packet that is not whole; a first byte that is not 0x7F, of the first packet and of one behind it
    Refuses 75 (0x7f ∷ 3 ∷ 0 ∷ []) 1871 0 0
    × Refuses 75 (0x7e ∷ 3 ∷ 0 ∷ 0 ∷ []) 1871 0 0
    × Refuses 75 (0x7f ∷ 3 ∷ 0 ∷ 0 ∷ 0x40 ∷ 3 ∷ 0 ∷ 0 ∷ []) 1871 0 0
    -- 76: between two entries of the table, and 0
    × Refuses 76 even 1871 2 0
    × Refuses 76 even 0 2 0
    × Refuses 76 even 5050 2 0
    -- 77: the slot past the last, one whose number is as large as a usize, a slot that the run fills in part, an empty run
    × Refuses 77 even 1870 2 0
    × Refuses 77 even 1870 18446744073709551615 0
    × Refuses 77 even 2244 1 0
    × Refuses 77 [] 1870 0 0
    -- 78: a byte less, a byte more
    × Refuses 78 even 1870 1 1869
    × Refuses 78 even 1870 1 1871
