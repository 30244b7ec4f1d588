-- Laws of specs/Bits.antt.
use Rattle.std.specs.Prelude.{ℕ, ◌/◌, ◌^◌, ◌-◌, ◌≡◌}
use Rattle.std.proofs.Common.{div-one}
use Rattle.std.specs.Int.Bits.{bit_and}
use Rattle.std.proofs.lemmas.Nat.{and_mask}
use Rattle.wire.specs.Bits.{bits_at}

-- a shift and a mask take it out, at any place and width
pub bits_shift : (n s w : ℕ) → bit_and (n / 2 ^ s) (2 ^ w - 1) ≡ bits_at s w n
bits_shift n s w = and_mask (n / 2 ^ s) w

-- a mask alone takes out the lowest
pub bits_mask : (n w : ℕ) → bit_and n (2 ^ w - 1) ≡ bits_at 0 w n
bits_mask n w = rw (div-one n) (and_mask n w)
