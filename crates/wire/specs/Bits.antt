-- Bit fields of a number, bit 0 lowest.
use Rattle.std.specs.Prelude.{ℕ, ◌/◌, ◌%◌, ◌^◌}

-- the field of `w` bits whose lowest is bit `s` of `n`
abbrev pub bits_at : ℕ → ℕ → ℕ → ℕ
bits_at s w n = n / 2 ^ s % 2 ^ w
