-- What a turn takes of a block.
use Rattle.std.specs.Prelude.{ℕ, zero, suc, ◌≤◌, List, Option, Some, None}
use Rattle.feeding.specs.declared.feed.Turn.{Turn as ValuesTurn}

-- how many bytes of the block, and how many bytes of the command stand in the command memory; 0 where it stands whole in the block
pub record Turn : Type 0 where
  pub took : ℕ
  pub gathered : ℕ

-- a number of bytes, none where it is 0
abbrev pub some_of : ℕ → Option ℕ
some_of zero = None
some_of (suc n) = Some (suc n)

-- the turn as the program keeps it, beside the command memory
abbrev pub kept_turn : Turn × List ℕ → ValuesTurn × List ℕ
kept_turn t = (record { took = t.0.took; gathered = some_of t.0.gathered }, t.1)

-- as many bytes stand in a memory
abbrev pub Stands : Option ℕ → ℕ → Type 0
Stands None size = Unit
Stands (Some n) size = n ≤ size
