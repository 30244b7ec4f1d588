-- Examples of slots in packet memory, computed over the definitions: what stands from byte 0 and from byte 16,384 after each.
use Rattle.std.specs.Prelude.{ℕ, ◌≡◌, List, [], ◌∷◌, ◌++◌, take, drop, replicate}
use Rattle.intake.specs.declared.held.Held.{Held}
use Rattle.intake.specs.Slot.{searching, holding, intake_of}

-- packet memory: 9 up to the slot's place, where the bytes of the slot before stand, and one byte more
abbrev memory : List ℕ → List ℕ
memory b = replicate 16384 9 ++ (b ++ 8 ∷ [])

-- the note, the first seven bytes, and what stands from byte 16,384
pub record After : Type 0 where
  pub note : ℕ
  pub front : List ℕ
  pub slot : List ℕ

abbrev after : Held → List ℕ → List ℕ → ℕ → ℕ → After
after h b d top last =
    let r = intake_of h (memory b) d (record { 0 = top; 1 = last }) in
    record { note = r.0.cursor.note; front = take 7 r.1; slot = drop 16384 r.1 }

abbrev nines : List ℕ
nines = replicate 7 9

-- the header of a packet of x bytes more, up to 255, or above 16,384
abbrev header : ℕ → List ℕ
header x = 0x7f ∷ 3 ∷ 0 ∷ x ∷ []

abbrev huge : List ℕ
huge = 0x7f ∷ 3 ∷ 0x3f ∷ 0xfd ∷ []

-- a null packet that is only its header
abbrev null : List ℕ
null = 0x7f ∷ 0xff ∷ 0 ∷ 0 ∷ []

abbrev pub Examples : Type 0
Examples =
    -- while searching, only the slot is copied; 41: the same
    (after searching null null 0 4 ≡ record { note = 0; front = nines; slot = null ++ 8 ∷ [] })
    × (after (holding 16384 4) (header 2) null 0 3 ≡ record { note = 41; front = nines; slot = null ++ 8 ∷ [] })
    -- 42: the held packet ends two bytes on, not at t; 43: its total is 16,385
    × (after (holding 16384 4) (header 2) null 0 4 ≡ record { note = 42; front = nines; slot = null ++ 8 ∷ [] })
    × (after (holding 16384 4) huge null 0 4 ≡ record { note = 43; front = nines; slot = null ++ 8 ∷ [] })
    -- a packet that ends at t stands from byte 0, with what the slot brings of it
    × (after (holding 16384 4) (header 2 ++ []) (5 ∷ 6 ∷ []) 0xffff 2
    ≡ record { note = 0; front = header 2 ++ 5 ∷ 6 ∷ 9 ∷ []; slot = 5 ∷ 6 ∷ 0 ∷ 2 ∷ 8 ∷ [] })
    -- and one that goes on
    × (after (holding 16385 3) (1 ∷ 0x7f ∷ 3 ∷ 0 ∷ []) (4 ∷ 6 ∷ []) 0xffff 0xffff
    ≡ record { note = 0; front = 0x7f ∷ 3 ∷ 0 ∷ 4 ∷ 6 ∷ 9 ∷ 9 ∷ []; slot = 4 ∷ 6 ∷ 3 ∷ 0 ∷ 8 ∷ [] })
