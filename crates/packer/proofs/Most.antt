-- Why a unit of 65,535 pieces is packed and one of 65,536 is not: its pieces are counted by the law, not cut.
use Rattle.std.proofs.Common.{◌≡◌, ℕ, ◌+◌, ◌*◌, List, length, replicate, refl, ap, ◌∙◌, arith}
use lib.ListN.{length-replicate}
use Rattle.mmtp.specs.Unit.{field_bytes}
use Rattle.packer.specs.Packed.{Packed}
use Rattle.packer.specs.Packed.{Written}
use Rattle.packer.specs.Pieces.{count_by, count_of}
use Rattle.packer.specs.Writing.{payload_head_bytes, head_bytes}
use Rattle.packer.specs.Examples.{unit, MostPieces}
use Rattle.packer.proofs.Refusals.{too_many, accepted}

abbrev zeros : ℕ → List ℕ
zeros n = replicate n 0

-- pieces of one byte
counts : (n : ℕ) → count_of 1 n ≡ n → count_of 1 (length (zeros n)) ≡ n
counts n e = rw (length-replicate, e)

most : count_of 1 65535 ≡ 65535
unfolding count_of count_by
most = refl

one_more : count_of 1 65536 ≡ 65536
unfolding count_of count_by
one_more = refl

-- 21 bytes before a piece of signalling
before : head_bytes 4 ≡ 21
unfolding head_bytes payload_head_bytes field_bytes
before = refl

total : (n : ℕ) → count_of 1 n ≡ n → count_of 1 (length (zeros n)) * head_bytes 4 + length (zeros n) ≡ n * 22
total n e = rw (counts n e, before, length-replicate) (omega arith)

pub most-pieces : MostPieces
most-pieces =
    record {
      most = λ out h.
          let t = total 65535 most in
          ap (λ (x : Packed × List ℕ). x.0)
          (accepted (unit 4 0) 4095 0 1 (zeros 65535) out (λ z. omega arith) (omega arith) (omega arith)
          (omega (arith, counts 65535 most)) (omega (arith, t)) (omega arith))
          ∙ ap Written t;
      one_more = λ out.
          too_many (unit 4 0) 4095 0 1 (zeros 65536) out (λ z. omega arith) (omega arith) (omega arith)
          (omega (arith, counts 65536 one_more));
    }
