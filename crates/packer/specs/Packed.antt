-- What the packer answers, as the definitions speak of it.
use Rattle.std.specs.Prelude.{ℕ, Result, Ok, Err}
use Rattle.refusal.specs.declared.Refusal.{Refusal}
use Rattle.refusal.specs.Refusal.{number_of}

-- how many bytes were written, or a refusal's number
pub data Packed : Type 0 where
  Written : ℕ → Packed
  Refused : ℕ → Packed

abbrev pub as_packed : Result ℕ Refusal → Packed
as_packed (Ok len) = Written len
as_packed (Err r) = Refused (number_of r)
