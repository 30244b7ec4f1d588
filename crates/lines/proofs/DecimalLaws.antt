-- Laws of specs/Decimal.antt.
use Rattle.std.specs.Prelude.{ℕ, zero, suc, ◌+◌, ◌*◌, ◌/◌, ◌%◌, ◌^◌, ◌≤◌, ◌<◌, ◌≡◌, refl, Bool, true, false, cond, length, ltb}
use Rattle.std.proofs.Math.Path.{sym}
use Rattle.std.proofs.Common.{ap, pow-suc, arith, length-append, lt-ltb, le-ltb, ltb-true, ltb-false}
use mathlib.Core.List.{List, [], ◌∷◌, ◌++◌, append_assoc, append-nil}
use Rattle.lines.specs.Decimal.{digit, digits, decimal, pair, four, without_groups, last_groups, groups, First}

-- Laws.
-- one digit more changes nothing where the number has no more
digits-enough : (f n : ℕ) → n < 10 ^ suc f → digits (suc f) n ≡ digits (suc (suc f)) n
unfolding digits
digits-enough zero n h = rw (lt-ltb n 10 (omega arith))
digits-enough (suc f) n h =
    let p : 10 ^ suc (suc f) ≡ 10 ^ suc f * 10 = pow-suc 10 (suc f) in
    ap (λ (s : List ℕ). cond (ltb n 10) (digit n ∷ []) (s ++ (digit (n % 10) ∷ []))) (digits-enough f (n / 10) (omega arith))

-- one digit, and more
pub decimal-one : (n : ℕ) → n < 10 → decimal n ≡ digit n ∷ []
unfolding decimal digits
decimal-one n h = rw (lt-ltb n 10 h)

decimal-more : (n : ℕ) → 10 ≤ n → n < 18446744073709551616 → decimal n ≡ decimal (n / 10) ++ (digit (n % 10) ∷ [])
unfolding decimal
decimal-more n h l =
    let e = digits-enough 18 (n / 10) (omega arith) in
    unfold digits in rw (le-ltb n 10 h) (ap (λ (s : List ℕ). s ++ (digit (n % 10) ∷ [])) e)

-- two digits, and more
pub decimal_two : (n : ℕ) → 10 ≤ n → n < 100 → decimal n ≡ pair n
unfolding pair
decimal_two n h l = rw (decimal-more n h (omega arith), decimal-one (n / 10) (omega arith))

pub decimal-pair : (n : ℕ) → 100 ≤ n → n < 18446744073709551616 → decimal n ≡ decimal (n / 100) ++ pair (n % 100)
unfolding pair
decimal-pair n h l =
    let t : n / 10 / 10 ≡ n / 100 = omega arith in
    let u : n / 10 % 10 ≡ n % 100 / 10 = omega arith in
    let v : n % 10 ≡ n % 100 % 10 = omega arith in
    let m = decimal-more (n / 10) (omega arith) (omega arith) in
    rw (decimal-more n (omega arith) l, m, t, u, v) (append_assoc (decimal (n / 100)) _ _)

-- a group of four behind the others
pub decimal-four : (n : ℕ) → 10000 ≤ n → n < 18446744073709551616 → decimal n ≡ decimal (n / 10000) ++ four (n % 10000)
unfolding four
decimal-four n h l =
    let t : n / 100 / 100 ≡ n / 10000 = omega arith in
    let u : n / 100 % 100 ≡ n % 10000 / 100 = omega arith in
    let v : n % 100 ≡ n % 10000 % 100 = omega arith in
    let m = decimal-pair (n / 100) (omega arith) (omega arith) in
    rw (decimal-pair n (omega arith) l, m, t, u, v) (append_assoc (decimal (n / 10000)) _ _)

-- how long these are
pub length-pair : (d : ℕ) → length (pair d) ≡ 2
unfolding pair
length-pair d = refl

pub length-four : (d : ℕ) → length (four d) ≡ 4
unfolding four pair
length-four d = refl

-- without a group more; never more than the number
without-suc : (n k : ℕ) → without_groups n (suc k) ≡ without_groups n k / 10000
unfolding without_groups
without-suc n zero = refl
without-suc n (suc k) = without-suc (n / 10000) k

without-most : (n k : ℕ) → without_groups n k ≤ n
unfolding without_groups
without-most n zero = omega arith
without-most n (suc k) = omega (arith, without-most (n / 10000) k)

-- the digits before the last groups, and these
pub groups-behind : (n k : ℕ) → n < 18446744073709551616 → 1 ≤ without_groups n k → decimal n ≡ decimal (without_groups n k) ++ last_groups n k
unfolding last_groups
groups-behind n zero l h = unfold without_groups in sym (append-nil (decimal n))
groups-behind n (suc k) l h =
    let a = without_groups n k in
    let m = without-most n k in
    let h' : 1 ≤ a / 10000 = rw without-suc at h in
    let e = decimal-four a (omega arith) (omega arith) in
    rw (groups-behind n k l (omega arith), e, without-suc) (append_assoc (decimal (a / 10000)) _ _)

pub length-groups : (n k : ℕ) → length (last_groups n k) ≡ 4 * k
unfolding last_groups
length-groups n zero = refl
length-groups n (suc k) = rw (length-append, length-four, length-groups n k) (omega arith)

-- a number below 10,000 has no group; another has one more than its ten thousandth
pub groups_none : (f n : ℕ) → n < 10000 → groups f n ≡ 0
unfolding groups
groups_none zero n h = refl
groups_none (suc f) n h = rw (lt-ltb n 10000 h)

pub groups-end : (n : ℕ) → groups 0 n ≡ 0
unfolding groups
groups-end n = refl

pub groups-more : (f n : ℕ) → 10000 ≤ n → groups (suc f) n ≡ suc (groups f (n / 10000))
unfolding groups
groups-more f n h = rw (le-ltb n 10000 h)

pub groups-first : (f n : ℕ) → 1 ≤ n → n < 10000 ^ suc f → First f n
unfolding without_groups groups
groups-first zero n h l = record { most = omega arith; some = h; short = l }
groups-first (suc f) n h l =
    let p : 10000 ^ suc (suc f) ≡ 10000 ^ suc f * 10000 = pow-suc 10000 (suc f) in
    go (ltb n 10000) refl (λ g. groups-first f (n / 10000) (omega arith) (omega arith))
  where
    go : (b : Bool) → ltb n 10000 ≡ b → (10000 ≤ n → First f (n / 10000)) → First (suc f) n
    go true e i =
        let u : n < 10000 = ltb-true _ _ e in
        let z = groups_none (suc f) n u in
        record { most = omega arith; some = rw z h; short = rw z u }
    go false e i =
        let g : 10000 ≤ n = ltb-false _ _ e in
        let z = groups-more f n g in
        let j = i g in
        record { most = omega arith; some = rw z j.some; short = rw z j.short }

digits-most : (f n : ℕ) → length (digits f n) ≤ f
unfolding digits
digits-most zero n = omega arith
digits-most (suc f) n = go (ltb n 10) (digits-most f (n / 10))
  where
    go : (b : Bool) → length (digits f (n / 10)) ≤ f
        → length (cond b (digit n ∷ []) (digits f (n / 10) ++ (digit (n % 10) ∷ []))) ≤ suc f
    go true i = omega arith
    go false i = rw length-append (omega arith)

pub decimal-20 : (n : ℕ) → length (decimal n) ≤ 20
unfolding decimal
decimal-20 n = digits-most 20 n
