-- A memory with bytes put into it, and a part of a memory.
use Rattle.std.specs.Prelude.{ℕ, ◌-◌, cond, List, [], length, take, drop, leb}
use Rattle.std.proofs.Math.Seq.{paste}

-- `d` with its `n` bytes from `at` replaced by the first `n` of `s`
unfoldable pub pasted : List ℕ → ℕ → List ℕ → ℕ → List ℕ
pasted d at s n = paste d at s n

-- the `len` bytes of `s` from `start`; none where one of them lies outside
unfoldable pub part_of : List ℕ → ℕ → ℕ → List ℕ
part_of s start len = cond (leb start (length s)) (cond (leb len (length s - start)) (take len (drop start s)) []) []
