-- The reading theorem, demand 2's first half: the notes and units that a reading shows are, in order, what the account says.
use Rattle.std.specs.Prelude.{ℕ, ◌≤◌, ◌≡◌, List, [], ◌∷◌, map, length}
use Rattle.reassembly.specs.declared.config.Config.{Config}
use Rattle.state.specs.Start.{start_of}
use Rattle.broadcast.specs.Account.{account}
use Rattle.broadcast.specs.Drains.{strip}
use Rattle.broadcast.specs.Calls.{Made}
use Rattle.broadcast.specs.Frames.{Frame, Damage, arrivals}
use Rattle.broadcast.specs.Demand3.{Reads, shown_of, refused_of}

-- frames of 120 slots; the reading may end inside the last one
abbrev pub Begun : List Frame → Type 0
Begun [] = Prim.Unit {0}
Begun (f ∷ []) = length f.slots ≤ 120
Begun (f ∷ g ∷ fs) = (length f.slots ≡ 120) × Begun (g ∷ fs)

-- every accepted start, every list of frames, whatever is lost of them, any memories, refused calls added anywhere: where none of
-- its own calls is refused, a reading shows the account of the own live slots as they arrived
abbrev pub ReadingTheorem : Type 0
ReadingTheorem =
    (cfg : Config) → (start_of cfg).refusal ≡ 0 → (fs : List Frame) → Begun fs → (d : Damage) (p c : List ℕ) (xs : List Made)
    → Reads cfg fs d p c xs → refused_of cfg fs d p c xs ≡ []
    → shown_of cfg fs d p c xs ≡ map strip (account cfg (arrivals cfg.stream d 0 fs))
