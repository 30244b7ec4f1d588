-- Text written to a memory, one piece behind the other.
use Prim.Native.Nat.{ℕ, ◌+◌, ◌≤◌}
use Rattle.std.specs.Prelude.{◌≡◌, length}
use mathlib.Core.List.{List}
use Rattle.wire.specs.Memory.{pasted}

-- the place behind the text, and the memory with the text in it from `at` on
unfoldable pub wrote : List ℕ → ℕ → List ℕ → ℕ × List ℕ
wrote out at text = (at + length text, pasted out at text (length text))

-- the text was written, and is at most k bytes long
pub record Put (out : List ℕ) (at : ℕ) (s : List ℕ) (k r : ℕ) (o : List ℕ) : Type 0 where
  pub written : (r, o) ≡ wrote out at s
  pub within : r ≤ at + k
