-- Laws of specs/Field.antt.
use Rattle.std.specs.Prelude.{ℕ, zero, suc, ◌+◌, ◌*◌, ◌/◌, ◌%◌, ◌^◌, ◌<◌, ◌≡◌, refl, List, [], ◌∷◌, ◌++◌, get_or, length, drop}
use Rattle.std.proofs.Common.{sym, ◌∙◌, ap, append_assoc, append-nil, zero-add, add-zero, add_assoc, add-suc, pow-suc, mul_assoc, mul_comm, div-one, arith, length-append, get_or-drop}
use Rattle.std.proofs.Math.Nat.{pow-succ', div-div-eq-div-mul}
use Rattle.std.proofs.Math.Arith.{mod-mul, digits_div, digits_mod}
use Rattle.std.proofs.lemmas.List.{get_or_at}
use Rattle.wire.specs.Field.{be, bytes_of}

-- a field of m + n bytes is one of m, then one of n
pub be-add : (m n : ℕ) (s : List ℕ) (i : ℕ) → be (m + n) s i ≡ be m s i * 256 ^ n + be n s (i + m)
unfolding be
be-add m zero s i = rw (add-zero m) (omega arith)
be-add m (suc n) s i =
    let p : be m s i * 256 ^ suc n ≡ be m s i * 256 ^ n * 256 =
    rw (pow-succ', mul_comm 256 (256 ^ n)) (sym (mul_assoc (be m s i) (256 ^ n) 256)) in
    rw (add-suc, ← add_assoc i m n) (omega (arith, be-add m n s i, p))

-- it fits n bytes
pub be-lt : (n : ℕ) (s : List ℕ) (i : ℕ) → ((k : ℕ) → get_or s k 0 < 256) → be n s i < 256 ^ n
unfolding be
be-lt zero s i h = omega arith
be-lt (suc n) s i h = rw pow-succ' (omega (arith, be-lt n s i h, h (i + n)))

-- a field of a list's rest is a field of the list
pub be-drop : (n at : ℕ) (s : List ℕ) (i : ℕ) → be n (drop at s) i ≡ be n s (at + i)
unfolding be
be-drop zero at s i = refl
be-drop (suc n) at s i = rw (be-drop n at s i, get_or-drop, ← add_assoc at i n)

-- the widths that the code has
pub be-2 : (s : List ℕ) (i : ℕ) → be 2 s i ≡ get_or s i 0 * 256 + get_or s (i + 1) 0
unfolding be
be-2 s i = rw add-zero (omega arith)

pub be-4 : (s : List ℕ) (i : ℕ) → be 4 s i ≡ be 2 s i * 65536 + be 2 s (i + 2)
be-4 s i = be-add 2 2 s i

pub length-bytes_of : (n v : ℕ) → length (bytes_of n v) ≡ n
unfolding bytes_of
length-bytes_of zero v = refl
length-bytes_of (suc n) v = rw (length-append, length-bytes_of n (v / 256)) (omega arith)

-- the bytes of a field of m + n bytes are those of its quotient, then its own last n
pub bytes-add : (m n v : ℕ) → bytes_of (m + n) v ≡ bytes_of m (v / 256 ^ n) ++ bytes_of n v
unfolding bytes_of
bytes-add m zero v = rw (add-zero m) (rw (div-one v) (sym (append-nil _)))
bytes-add m (suc n) v =
    let q : v / 256 / 256 ^ n ≡ v / 256 ^ suc n = div-div-eq-div-mul v 256 (256 ^ n) ∙ ap (λ (k : ℕ). v / k) (sym (pow-succ' 256 n)) in
    rw (add-suc, bytes-add m n (v / 256), q) (append_assoc (bytes_of m (v / 256 ^ suc n)) (bytes_of n (v / 256)) (v % 256 ∷ []))

256_pos : (n : ℕ) → 0 < 256 ^ n
256_pos zero = omega arith
256_pos (suc n) = rw pow-succ' (omega (arith, 256_pos n))

-- the last of n + 1 bytes
mod-suc : (n v : ℕ) → v % 256 ^ suc n ≡ v / 256 % 256 ^ n * 256 + v % 256
mod-suc n v = rw pow-suc (mod-mul v (256_pos n) (omega arith))

-- what lies above n bytes does not count
pub bytes-mod : (n v : ℕ) → bytes_of n (v % 256 ^ n) ≡ bytes_of n v
unfolding bytes_of
bytes-mod zero v = refl
bytes-mod (suc n) v =
    let d : v % 256 ^ suc n / 256 ≡ v / 256 % 256 ^ n = rw mod-suc (digits_div (v / 256 % 256 ^ n) (omega arith)) in
    let m : v % 256 ^ suc n % 256 ≡ v % 256 = rw mod-suc (digits_mod (v / 256 % 256 ^ n) (omega arith)) in
    rw (d, m, bytes-mod n (v / 256))

-- a field that was written is read back
pub be-bytes : (n v : ℕ) (rest : List ℕ) → be n (bytes_of n v ++ rest) 0 ≡ v % 256 ^ n
unfolding be bytes_of
be-bytes zero v rest = omega arith
be-bytes (suc n) v rest =
    rw (
      zero-add n,
      append_assoc (bytes_of n (v / 256)) (v % 256 ∷ []) rest,
      be-bytes n (v / 256) (v % 256 ∷ rest),
      get_or_at (bytes_of n (v / 256)) (v % 256) rest 0 n (length-bytes_of n (v / 256)),
    )
    (sym (mod-suc n v))
