-- Demand 3, one claim about two lists of calls: the units of a damaged broadcast are those of the undamaged one, less exactly
-- the units of which a carrying TLV packet had a byte, header included, in a lost slot.
use Rattle.std.specs.Prelude.{ℕ, ◌≡◌, Bool, not, List, [], ◌∷◌, length}
use Rattle.tlv.specs.Run.{Slot}
use Rattle.reassembly.specs.declared.config.Config.{Config}
use Rattle.reassembly.specs.Run.{Content}
use Rattle.state.specs.Start.{start_of}
use Rattle.broadcast.specs.Drains.{Shown, note, unit}
use Rattle.broadcast.specs.Carried.{carried_units, intact_units, Few, contents}
use Rattle.broadcast.specs.Calls.{Machine, Made, Follows, all_shown, refusals}
use Rattle.broadcast.specs.Frames.{Frame, Whole, Damage, none, lost, reading, own_slots}

-- a receiver just started, with the memories that it is lent
abbrev pub started : Config → List ℕ → List ℕ → Machine
started cfg p c = record { state = (start_of cfg).state; packet = p; collecting = c }

-- what a reading of the frames shows: notes, and units with the bytes from show
abbrev pub shown_of : Config → List Frame → Damage → List ℕ → List ℕ → List Made → List Shown
shown_of cfg fs d p c xs = all_shown (reading d 0 fs) (started cfg p c) xs

-- the refusals of its own calls
abbrev pub refused_of : Config → List Frame → Damage → List ℕ → List ℕ → List Made → List ℕ
refused_of cfg fs d p c xs = refusals (reading d 0 fs) (started cfg p c) xs

-- the list of calls reads the frames; its added calls are refused
abbrev pub Reads : Config → List Frame → Damage → List ℕ → List ℕ → List Made → Type 0
Reads cfg fs d p c xs = Follows (reading d 0 fs) (started cfg p c) xs

abbrev pub NoNote : List Shown → Type 0
NoNote [] = Prim.Unit {0}
NoNote (note n id ∷ es) = ⊥
NoNote (unit u ∷ es) = NoNote es

abbrev pub units_of : List Shown → List Content
units_of [] = []
units_of (note n id ∷ es) = units_of es
units_of (unit u ∷ es) = u ∷ units_of es

-- the own live slots, each labelled by its frame and its number
abbrev pub slots_of : Config → List Frame → List ((ℕ × ℕ) × Slot)
slots_of cfg fs = own_slots cfg.stream 0 fs

abbrev pub kept : Damage → ℕ × ℕ → Bool
kept d x = not (lost d x)

-- what is concluded of a damaged reading
pub record Damaged (cfg : Config) (fs : List Frame) (d : Damage) (p c : List ℕ) (xs : List Made) : Type 0 where
  pub none-refused : refused_of cfg fs d p c xs ≡ []
  pub units-left : units_of (shown_of cfg fs d p c xs) ≡ contents (intact_units (kept d) (carried_units cfg (slots_of cfg fs)))

pub record Concluded (cfg : Config) (fs : List Frame) (d : Damage) (p₁ c₁ p₂ c₂ : List ℕ) (xs : List Made) : Type 0 where
  -- the undamaged units are those that the slots carry
  pub undamaged : units_of (shown_of cfg fs none p₁ c₁ xs) ≡ contents (carried_units cfg (slots_of cfg fs))
  -- every damaged reading gives them, less those with a byte in a lost slot
  pub damaged : (ys : List Made) → Reads cfg fs d p₂ c₂ ys → Damaged cfg fs d p₂ c₂ ys
  -- and there is one
  pub readable : (ys : List Made) × Reads cfg fs d p₂ c₂ ys

abbrev pub Demand3 : Type 0
Demand3 =
    -- every accepted start, every list of frames of 120 slots, every damage, memories of the same lengths whatever they hold at first
    (cfg : Config) → (start_of cfg).refusal ≡ 0 → (fs : List Frame) → Whole fs → (d : Damage) (p₁ c₁ p₂ c₂ : List ℕ)
    → length p₁ ≡ length p₂ → length c₁ ≡ length c₂
    -- an undamaged reading, with refused calls added anywhere, none of its own refused, and no note
    → (xs : List Made) → Reads cfg fs none p₁ c₁ xs → refused_of cfg fs none p₁ c₁ xs ≡ [] → NoNote (shown_of cfg fs none p₁ c₁ xs)
    -- no watched packet_id has more than 4,294,967,295 packets
    → Few cfg (slots_of cfg fs)
    → Concluded cfg fs d p₁ c₁ p₂ c₂ xs
