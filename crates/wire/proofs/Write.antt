-- Bytes put in by the library's methods are those of the definitions.
use Rattle.std.specs.Prelude.{ℕ, ◌+◌, ◌/◌, ◌%◌, ◌≤◌, ◌<◌, ◌≡◌, refl, List, [], ◌∷◌, length, set}
use Rattle.std.proofs.Common.{arith, add-zero}
use Rattle.std.specs.Int.{to_be_bytes, w16, w32}
use borrow.Rule.Slice.PartMut.{put_mid}
use Rattle.std.proofs.lemmas.Slice.{put_mid-paste}
use Rattle.wire.specs.Field.{bytes_of}
use Rattle.wire.specs.Memory.{pasted}
use Rattle.wire.proofs.MemoryLaws.{pasted-zero, pasted-one}

pub bytes-2 : (v : ℕ) → to_be_bytes w16 v ≡ bytes_of 2 v
unfolding bytes_of
bytes-2 v = refl

pub bytes-4 : (v : ℕ) → to_be_bytes w32 v ≡ bytes_of 4 v
unfolding bytes_of
bytes-4 v =
    let two : v / 256 / 256 ≡ v / 65536 = omega arith in
    let three : v / 256 / 256 / 256 ≡ v / 16777216 = omega arith in
    rw (three, two)

-- a part that was overwritten by the `n` bytes `b`
pub put : (d : List ℕ) (at k : ℕ) (now b : List ℕ) (n : ℕ) → now ≡ b → n ≡ k → n ≡ length b → put_mid at k d now ≡ pasted d at b n
unfolding pasted
put d at k now b n e l m = put_mid-paste at k d now b n e l m

-- one byte put in
pub write_1 : (d : List ℕ) (i v : ℕ) → i + 1 ≤ length d → v < 256 → set d i v ≡ pasted d i (bytes_of 1 v) 1
unfolding bytes_of
write_1 d i v h l =
    let low : v % 256 ≡ v = omega arith in
    let b : List ℕ = v ∷ [] in
    rw low (rw (← pasted-zero d i b, add-zero) at (pasted-one d i b 0 (omega arith) (omega arith)))
