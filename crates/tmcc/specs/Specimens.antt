-- Document 01's starred specimens of the control block, one equation for each, and further examples.
use Rattle.std.specs.Prelude.{ℕ, ◌≡◌, List, [], ◌∷◌, ◌++◌, replicate}
use Rattle.wire.specs.Tab.{tab}
use Rattle.tmcc.specs.Mode.{slot_length}
use Rattle.tmcc.specs.Block.{decode_of}

-- QPSK 1/2 over 10 slots, BPSK 1/3 over n, six unused modes; relative stream 0 is of type TLV with id 0x0102 and has every slot
abbrev pub block_of : ℕ → List ℕ
block_of n =
    (0 ∷ 0x23 ∷ 10 ∷ 0 ∷ 0x11 ∷ n ∷ 0 ∷ 0xff ∷ 0 ∷ 0 ∷ 0xff ∷ 0 ∷ 0 ∷ 0xff ∷ 0 ∷ 0 ∷ 0xff ∷ 0 ∷ 0 ∷ 0xff ∷ 0 ∷ 0 ∷ 0xff ∷ 0 ∷ 0 ∷ [])
    ++ (2 ∷ replicate 667 0) ++ (1 ∷ 2 ∷ replicate 483 0)

abbrev pub Specimens : Type 0
Specimens =
    -- "QPSK 1/2 over slots 1 to 10: live 1, 2, 6, 7, 2805 bytes"
    (tab (slot_length (block_of 110)) 10 ≡ 2805 ∷ 2805 ∷ 0 ∷ 0 ∷ 0 ∷ 2805 ∷ 2805 ∷ 0 ∷ 0 ∷ 0 ∷ [])
    -- "Total 115 slots: 12"
    × ((decode_of (block_of 105) 0x0102).refusal ≡ 12)
    -- and with 120 slots the block is accepted
    × ((decode_of (block_of 110) 0x0102).refusal ≡ 0)

-- a block with these eight modes; relative streams 0 and 1 are of type TLV with ids 0x0102 and 0x0304, and 0 has every slot
abbrev with_modes : List ℕ → List ℕ
with_modes ms = (0 ∷ ms) ++ (2 ∷ 2 ∷ replicate 666 0) ++ (1 ∷ 2 ∷ 3 ∷ 4 ∷ replicate 481 0)

abbrev unused_modes : List ℕ
unused_modes = 0xff ∷ 0 ∷ 0 ∷ 0xff ∷ 0 ∷ 0 ∷ 0xff ∷ 0 ∷ 0 ∷ []

-- all five modulations, with rates 11, 10, 10, 2 and 1
abbrev falling : List ℕ
falling = 0x5b ∷ 20 ∷ 0 ∷ 0x4a ∷ 5 ∷ 7 ∷ 0x3a ∷ 30 ∷ 0 ∷ 0x22 ∷ 25 ∷ 0 ∷ 0x11 ∷ 40 ∷ 0 ∷ unused_modes

-- the first two in the other order
abbrev rising : List ℕ
rising = 0x4a ∷ 5 ∷ 7 ∷ 0x5b ∷ 20 ∷ 0 ∷ 0x3a ∷ 30 ∷ 0 ∷ 0x22 ∷ 25 ∷ 0 ∷ 0x11 ∷ 40 ∷ 0 ∷ unused_modes

abbrev pub Examples : Type 0
Examples =
    -- "in falling order of modulation, then of rate", the back-off of a used mode free
    ((decode_of (with_modes falling) 0x0102).refusal ≡ 0)
    × ((decode_of (with_modes rising) 0x0102).refusal ≡ 12)
    -- "13 not exactly one relative stream of type 2 with the id"
    × ((decode_of (with_modes falling) 0x0103).refusal ≡ 13)
    -- "14 that stream has no live slot"
    × ((decode_of (with_modes falling) 0x0304).refusal ≡ 14)
