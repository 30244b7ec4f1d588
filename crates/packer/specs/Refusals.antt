-- What is claimed of refused calls of the packer.
use Rattle.std.specs.Prelude.{◌≡◌, ℕ, ◌≤◌, List}
use Rattle.reassembly.specs.declared.unit.Unit.{Unit}
use Rattle.packer.specs.Packed.{Refused}
use Rattle.packer.specs.Packer.{pack_of}

-- demand 1: a refused call returns a number of document 01's, 70 to 74, and the output is as it was
abbrev pub PackRefused : Type 0
PackRefused = (u : Unit) (cid sn m : ℕ) (s out : List ℕ) (n : ℕ) (after : List ℕ)
    → pack_of u cid sn m s out ≡ (Refused n, after) → (70 ≤ n) × (n ≤ 74) × (after ≡ out)
