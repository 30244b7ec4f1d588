-- Big-endian fields of n bytes: reading, writing, and their laws over n.
use Rattle.std.specs.Prelude.{ℕ, zero, suc, ◌+◌, ◌*◌, ◌/◌, ◌%◌, List, [], ◌∷◌, ◌++◌, get_or}

-- the field of `n` bytes at `i`
unfoldable pub be : ℕ → List ℕ → ℕ → ℕ
be zero s i = 0
be (suc n) s i = be n s i * 256 + get_or s (i + n) 0

-- the `n` bytes of the field `v`
unfoldable pub bytes_of : ℕ → ℕ → List ℕ
bytes_of zero v = []
bytes_of (suc n) v = bytes_of n (v / 256) ++ (v % 256 ∷ [])
