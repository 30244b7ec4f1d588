-- Laws of specs/Unit.antt.
use Prim.Native.Nat.{ℕ, zero, suc, ◌+◌, ◌-◌, ◌≤◌, ◌<◌}
use Rattle.std.specs.Prelude.{◌≡◌, Bool, not, eqb, leb, Some, None}
use Rattle.std.proofs.Math.Path.{refl, ap}
use Rattle.std.proofs.Common.{sym, ◌∙◌, true≢false, add_assoc, get_or-take}
use Rattle.std.proofs.Math.Bool.{true, false, cond, and-eq-true_iff}
use mathlib.Core.List.{List}
use native.Mathlib.Omega.{arith}
use borrow.Author.Tests.{le-leb, lt-leb, leb-true, leb-false, eq-eqb, ne_eqb, eqb-false, not-true}
use Rattle.std.proofs.Math.ListN.{length, take, drop, length-drop}
use Rattle.std.proofs.Math.Seq.{drop-drop}
use Rattle.wire.proofs.MemoryLaws.{slice-rest}
use Rattle.mmtp.proofs.Cases.{chose, chose-not}
use Rattle.mmtp.proofs.Take.{be-take, drop-take}
use Rattle.mmtp.specs.declared.unit.DataUnit.{DataUnit}
use Rattle.mmtp.specs.declared.unit.Step.TheVariants.{Unit, Malformed, End}
use Rattle.mmtp.specs.Unit.{field_bytes, no_fields, timed_fields, item_fields, fields_of, piece_of, length_bytes, unit_length, unit_fits, unit_end, place_behind, next_place, data_unit, unit_at, single_fits, single_unit, single_at, Aggregate, unit_of, after_unit, all_read, spoilt, in_front, unit_then, aggregate_by, aggregate, aggregate_fits, Fitting, piece_at, Next, Single, Inside}

-- Laws.
pub length-bytes_pos : (wide : Bool) → 2 ≤ length_bytes wide
unfolding length_bytes
length-bytes_pos true = omega arith
length-bytes_pos false = omega arith

-- more fuel than enough changes nothing
pub aggregate-enough : (f g : ℕ) (b : List ℕ) (kind : ℕ) (wide : Bool) → length b ≤ f → length b ≤ g
    → aggregate_by f b kind wide ≡ aggregate_by g b kind wide
unfolding aggregate_by
aggregate-enough zero zero b kind wide h k = refl
aggregate-enough zero (suc g) b kind wide h k = let e : length b ≡ 0 = omega arith in rw (eq-eqb _ _ e)
aggregate-enough (suc f) zero b kind wide h k = let e : length b ≡ 0 = omega arith in rw (eq-eqb _ _ e)
aggregate-enough (suc f) (suc g) b kind wide h k =
    let l = length-drop (length_bytes wide + unit_length wide b) b in
    let w = length-bytes_pos wide in
    ap (λ (r : Aggregate). cond (eqb (length b) 0) all_read (unit_then b kind wide r))
    (aggregate-enough f g (after_unit wide b) kind wide (omega arith) (omega arith))

module _ (b : List ℕ) (kind : ℕ) (wide : Bool) where
  -- the empty aggregate
  pub aggregate-none : length b ≡ 0 → aggregate b kind wide ≡ all_read
  unfolding aggregate aggregate_by
  aggregate-none h = ap (λ (n : ℕ). aggregate_by n b kind wide) h ∙ rw h

  -- what an aggregate that is not empty begins with
  pub aggregate-step : 0 < length b → aggregate b kind wide ≡ unit_then b kind wide (aggregate (after_unit wide b) kind wide)
  unfolding aggregate aggregate_by
  aggregate-step h =
      let n : ℕ = length b - 1 in
      let e : length b ≡ suc n = omega arith in
      let z : length b ≡ 0 → ⊥ = λ q. omega arith in
      let l = length-drop (length_bytes wide + unit_length wide b) b in
      let w = length-bytes_pos wide in
      let r : List ℕ = after_unit wide b in
      ap (λ (f : ℕ). aggregate_by f b kind wide) e
      ∙ ap (λ (t : Bool). cond t all_read (unit_then b kind wide (aggregate_by n r kind wide))) (ne_eqb (length b) 0 z)
      ∙ ap (unit_then b kind wide) (aggregate-enough n (length r) r kind wide (omega arith) (omega arith))

  pub aggregate-more : 0 < length b → unit_fits b kind wide ≡ true
      → aggregate b kind wide ≡ in_front (piece_of kind (unit_of wide b)) (aggregate (after_unit wide b) kind wide)
  unfolding unit_then
  aggregate-more h u = aggregate-step h ∙ rw u

  pub aggregate-bad : 0 < length b → unit_fits b kind wide ≡ false → aggregate b kind wide ≡ spoilt
  unfolding unit_then
  aggregate-bad h u = aggregate-step h ∙ rw u

pub unit-fits : (b : List ℕ) (kind : ℕ) (wide : Bool) → unit_fits b kind wide ≡ true → Fitting b kind wide
unfolding unit_fits
unit-fits b kind wide h =
    let p = (and-eq-true_iff (leb (length_bytes wide) (length b)) _).0 h in
    let q = (and-eq-true_iff (leb (unit_length wide b) (length b - length_bytes wide)) _).0 p.1 in
    let e = leb-true (length_bytes wide) (length b) p.0 in
    let l = leb-true (unit_length wide b) (length b - length_bytes wide) q.0 in
    record { head = e; whole = omega arith; fielded = leb-true _ _ q.1 }

-- it ends in the packet, past its place
pub unit-fits-end : (m : List ℕ) (at kind : ℕ) (wide : Bool) → unit_fits (drop at m) kind wide ≡ true
    → (unit_end m at wide ≤ length m) × (at < unit_end m at wide)
unit-fits-end m at kind wide h =
    let f = unit-fits (drop at m) kind wide h in
    let l = length-drop at m in
    let w = length-bytes_pos wide in
    (omega arith, omega arith)

-- the place behind a unit, by the unit's three tests
module _ (m : List ℕ) (at kind : ℕ) (wide : Bool) where
  pub behind-short : length m - at < length_bytes wide → place_behind m at kind wide ≡ at
  unfolding place_behind unit_fits
  behind-short h = rw (length-drop, lt-leb _ _ h)

  pub next-short : length m - at < length_bytes wide → next_place m at kind wide ≡ None
  unfolding next_place unit_fits
  next-short h = rw (length-drop, lt-leb _ _ h)

  pub behind-over : length_bytes wide ≤ length m - at → length m - at - length_bytes wide < unit_length wide (drop at m)
      → place_behind m at kind wide ≡ at
  unfolding place_behind unit_fits
  behind-over h k = rw (length-drop, le-leb _ _ h, lt-leb _ _ k)

  pub next-over : length_bytes wide ≤ length m - at → length m - at - length_bytes wide < unit_length wide (drop at m)
      → next_place m at kind wide ≡ None
  unfolding next_place unit_fits
  next-over h k = rw (length-drop, le-leb _ _ h, lt-leb _ _ k)

  pub behind-bare : length_bytes wide ≤ length m - at → unit_length wide (drop at m) ≤ length m - at - length_bytes wide
      → unit_length wide (drop at m) < field_bytes kind → place_behind m at kind wide ≡ at
  unfolding place_behind unit_fits
  behind-bare h k l = rw (length-drop, le-leb _ _ h, le-leb _ _ k, lt-leb _ _ l)

  pub next-bare : length_bytes wide ≤ length m - at → unit_length wide (drop at m) ≤ length m - at - length_bytes wide
      → unit_length wide (drop at m) < field_bytes kind → next_place m at kind wide ≡ None
  unfolding next_place unit_fits
  next-bare h k l = rw (length-drop, le-leb _ _ h, le-leb _ _ k, lt-leb _ _ l)

  pub behind-whole : length_bytes wide ≤ length m - at → unit_length wide (drop at m) ≤ length m - at - length_bytes wide
      → field_bytes kind ≤ unit_length wide (drop at m) → place_behind m at kind wide ≡ unit_end m at wide
  unfolding place_behind unit_fits
  behind-whole h k l = rw (length-drop, le-leb _ _ h, le-leb _ _ k, le-leb _ _ l)

  pub next-whole : length_bytes wide ≤ length m - at → unit_length wide (drop at m) ≤ length m - at - length_bytes wide
      → field_bytes kind ≤ unit_length wide (drop at m) → next_place m at kind wide ≡ Some (unit_end m at wide)
  unfolding next_place unit_fits
  next-whole h k l = rw (length-drop, le-leb _ _ h, le-leb _ _ k, le-leb _ _ l)

on-by : (t : Bool) (x at : ℕ) → at < cond t x at → (t ≡ true) × (cond t x at ≡ x)
on-by true x at h = (refl, refl)
on-by false x at h = absurd (omega arith)

stays_by : (t : Bool) (x at : ℕ) → (t ≡ true → at < x) → cond t x at ≤ at → t ≡ false
stays_by true x at f h = let l = f refl in absurd (omega arith)
stays_by false x at f h = refl

next-on_by : (t : Bool) (x n : ℕ) → cond t (Some x) None ≡ Some n → (t ≡ true) × (n ≡ x)
next-on_by true x n h = (refl, cc)
next-on_by false x n h = (cc, cc)

next-stays_by : (t : Bool) (x : ℕ) → cond t (Some x) None ≡ None → t ≡ false
next-stays_by true x h = cc
next-stays_by false x h = refl

-- a reader gets on exactly where a unit fits
module _ (m : List ℕ) (at kind : ℕ) (wide : Bool) where
  pub behind-on : at < place_behind m at kind wide
      → (unit_fits (drop at m) kind wide ≡ true) × (place_behind m at kind wide ≡ unit_end m at wide)
  unfolding place_behind
  behind-on h = on-by (unit_fits (drop at m) kind wide) _ at h

  pub behind-stays : place_behind m at kind wide ≤ at → unit_fits (drop at m) kind wide ≡ false
  unfolding place_behind
  behind-stays h = stays_by (unit_fits (drop at m) kind wide) _ at (λ u. (unit-fits-end m at kind wide u).1) h

  pub next_on : (n : ℕ) → next_place m at kind wide ≡ Some n
      → (unit_fits (drop at m) kind wide ≡ true) × (n ≡ unit_end m at wide)
  unfolding next_place
  next_on n h = next-on_by (unit_fits (drop at m) kind wide) _ n h

  -- and the unit has room for its length and its fields
  pub next_room : (n : ℕ) → next_place m at kind wide ≡ Some n → at + length_bytes wide + field_bytes kind ≤ length m
  next_room n h =
      let f = unit-fits (drop at m) kind wide (next_on n h).0 in
      let l = length-drop at m in
      let w = length-bytes_pos wide in
      omega arith

  pub next_stays : next_place m at kind wide ≡ None → unit_fits (drop at m) kind wide ≡ false
  unfolding next_place
  next_stays h = next-stays_by (unit_fits (drop at m) kind wide) _ h

  -- both places are one where a unit stands; where none does, a reader stays
  pub next_behind : (n : ℕ) → next_place m at kind wide ≡ Some n → place_behind m at kind wide ≡ n
  unfolding place_behind
  next_behind n h = let o = next_on n h in rw o.0 (sym o.1)

  pub none_behind : next_place m at kind wide ≡ None → place_behind m at kind wide ≡ at
  unfolding place_behind
  none_behind h = rw (next_stays h)

fields-by : (timed item : Bool) (n : ℕ) (u : List ℕ) → cond timed 14 (cond item 4 0) ≤ n
    → cond timed (timed_fields (take n u)) (cond item (item_fields (take n u)) no_fields)
    ≡ cond timed (timed_fields u) (cond item (item_fields u) no_fields)
fields-by true item n u h =
    let p : 12 < n = omega arith in
    let q : 13 < n = omega arith in
    rw (
      be-take 4 n u 0 (omega arith),
      be-take 4 n u 4 (omega arith),
      be-take 4 n u 8 (omega arith),
      get_or-take n u 12 0 p,
      get_or-take n u 13 0 q,
    )
fields-by false true n u h = rw (be-take 4 n u 0 (omega arith))
fields-by false false n u h = refl

-- a unit's fields are read from where it begins
pub fields-take : (kind n : ℕ) (u : List ℕ) → field_bytes kind ≤ n → fields_of kind (take n u) ≡ fields_of kind u
unfolding field_bytes fields_of
fields-take kind n u h = fields-by (eqb kind 2) (eqb kind 3) n u h

-- the unit at a place of an aggregate, and what is left behind it
module _ (m : List ℕ) (at kind : ℕ) (wide : Bool) where
  pub piece-at : unit_fits (drop at m) kind wide ≡ true
      → piece_at m (data_unit m at kind wide) ≡ piece_of kind (unit_of wide (drop at m))
  unfolding piece_at data_unit piece_of
  piece-at h =
      let f = unit-fits (drop at m) kind wide h in
      let w : ℕ = length_bytes wide in
      let k : ℕ = field_bytes kind in
      let n : ℕ = unit_length wide (drop at m) in
      let u : List ℕ = drop (at + w) m in
      let e : drop w (drop at m) ≡ u = drop-drop w at m in
      let l : at + w + n - (at + w + k) ≡ n - k = omega arith in
      let s : n ≡ k + (n - k) = omega arith in
      let p : fields_of kind (take n (drop w (drop at m))) ≡ fields_of kind u = rw e (fields-take kind n u f.fielded) in
      let q : drop k (take n (drop w (drop at m))) ≡ take (n - k) (drop (at + w + k) m) =
      rw e (ap (λ (j : ℕ). drop k (take j u)) s ∙ drop-take k (n - k) u ∙ ap (take (n - k)) (drop-drop k (at + w) m)) in
      rw (l, p, q)

  pub after-at : drop (unit_end m at wide) m ≡ after_unit wide (drop at m)
  after-at = rw (drop-drop, add_assoc)

  -- whether the units fill it is told by the rest
  pub fits_on : unit_fits (drop at m) kind wide ≡ true
      → (aggregate (drop (unit_end m at wide) m) kind wide).fits ≡ (aggregate (drop at m) kind wide).fits
  fits_on u =
      let f = unit-fits (drop at m) kind wide u in
      let w = length-bytes_pos wide in
      rw (after-at, aggregate-more (drop at m) kind wide (omega arith) u)

  pub fits_not : at < length m → unit_fits (drop at m) kind wide ≡ false → (aggregate (drop at m) kind wide).fits ≡ false
  fits_not l u = let d = length-drop at m in rw (aggregate-bad (drop at m) kind wide (omega arith) u)

  pub fits-end : length m ≤ at → (aggregate (drop at m) kind wide).fits ≡ true
  fits-end l = let d = length-drop at m in rw (aggregate-none (drop at m) kind wide (omega arith))

  -- the walk of a reader: it gets on in the packet, or stands at the end exactly if the units fill it
  pub walk_on : at < place_behind m at kind wide → (place_behind m at kind wide ≤ length m)
      × ((aggregate (drop (place_behind m at kind wide) m) kind wide).fits ≡ (aggregate (drop at m) kind wide).fits)
  walk_on h =
      let b = behind-on m at kind wide h in
      rw b.1 ((unit-fits-end m at kind wide b.0).0, fits_on b.0)

  pub next_walks : (n : ℕ) → next_place m at kind wide ≡ Some n
      → (at < n) × (n ≤ length m) × ((aggregate (drop n m) kind wide).fits ≡ (aggregate (drop at m) kind wide).fits)
  next_walks n h =
      let b = next_on m at kind wide n h in
      let e = unit-fits-end m at kind wide b.0 in
      rw b.1 (e.1, e.0, fits_on b.0)

  stands_by : (t : Bool) → leb (length m) at ≡ t → unit_fits (drop at m) kind wide ≡ false
      → leb (length m) at ≡ (aggregate (drop at m) kind wide).fits
  stands_by true e u = e ∙ sym (fits-end (leb-true _ _ e))
  stands_by false e u = e ∙ sym (fits_not (leb-false _ _ e) u)

  pub walk_stands : place_behind m at kind wide ≤ at → leb (length m) at ≡ (aggregate (drop at m) kind wide).fits
  walk_stands h = stands_by (leb (length m) at) refl (behind-stays m at kind wide h)

  pub next_stands : next_place m at kind wide ≡ None → leb (length m) at ≡ (aggregate (drop at m) kind wide).fits
  next_stands h = stands_by (leb (length m) at) refl (next_stays m at kind wide h)

module _ (m : List ℕ) (at kind : ℕ) (wide : Bool) (h : (aggregate (drop at m) kind wide).fits ≡ true) (l : at < length m) where
  next-by : (t : Bool) → unit_fits (drop at m) kind wide ≡ t → Next m at kind wide
  unfolding unit_at data_unit
  next-by true u =
      let f = unit-fits (drop at m) kind wide u in
      let e = unit-fits-end m at kind wide u in
      let d = length-drop at m in
      record {
        unit = rw (lt-leb _ _ l, u);
        on = e.1;
        ordered = omega arith;
        within = e.0;
        cut = rw (piece-at m at kind wide u, after-at m at kind wide) (aggregate-more (drop at m) kind wide (omega arith) u);
        rest = fits_on m at kind wide u ∙ h;
      }
  next-by false u = absurd (true≢false (sym h ∙ fits_not m at kind wide l u))

  pub aggregate-next : Next m at kind wide
  aggregate-next = next-by (unit_fits (drop at m) kind wide) refl

-- the test of an aggregate: not empty, and its units fill it
module _ (b : List ℕ) (kind : ℕ) (wide : Bool) where
  pub aggregate-fits-none : length b ≡ 0 → aggregate_fits b kind wide ≡ false
  unfolding aggregate_fits
  aggregate-fits-none h = rw (eq-eqb _ _ h)

  pub aggregate-fits-some : 0 < length b → aggregate_fits b kind wide ≡ (aggregate b kind wide).fits
  unfolding aggregate_fits
  aggregate-fits-some h = let z : length b ≡ 0 → ⊥ = λ q. omega arith in rw (ne_eqb _ _ z)

  -- so the first unit stands at the beginning
  pub aggregate-fits : aggregate_fits b kind wide ≡ true → (0 < length b) × ((aggregate b kind wide).fits ≡ true)
  unfolding aggregate_fits
  aggregate-fits h =
      let p = (and-eq-true_iff (not (eqb (length b) 0)) _).0 h in
      let z = eqb-false (length b) 0 (not-true _ p.0) in
      (omega arith, p.1)

leb-by : (a b n : ℕ) → a ≤ n → (t : Bool) → leb b (n - a) ≡ t → leb (a + b) n ≡ t
leb-by a b n h true e = let l = leb-true b (n - a) e in le-leb (a + b) n (omega arith)
leb-by a b n h false e = let l = leb-false b (n - a) e in lt-leb (a + b) n (omega arith)

-- the test of a unit that is not aggregated
module _ (m : List ℕ) (at kind : ℕ) where
  pub single_left : at ≤ length m → single_fits m at kind ≡ leb (field_bytes kind) (length m - at)
  unfolding single_fits
  single_left h = leb-by at (field_bytes kind) (length m) h (leb (field_bytes kind) (length m - at)) refl

  pub single_past : length m < at → single_fits m at kind ≡ false
  unfolding single_fits
  single_past h = lt-leb (at + field_bytes kind) (length m) (omega arith)

  pub single_within : single_fits m at kind ≡ true → at + field_bytes kind ≤ length m
  unfolding single_fits
  single_within h = leb-true (at + field_bytes kind) (length m) h

pub single_next : (m : List ℕ) (at kind : ℕ) → single_fits m at kind ≡ true → Single m at kind
unfolding single_at single_unit piece_at piece_of
single_next m at kind h =
    let l = single_within m at kind h in
    let s : ℕ = at + field_bytes kind in
    let d = length-drop s m in
    record {
      unit = rw h;
      ordered = l;
      within = omega arith;
      piece = rw (slice-rest m s, drop-drop (field_bytes kind) at m);
    }

-- also one of an aggregate
pub unit-inside : (m : List ℕ) (at kind : ℕ) (wide : Bool) (u : DataUnit) → unit_at m at kind wide ≡ Unit u → Inside m u
unfolding unit_at data_unit
unit-inside m at kind wide u e =
    let v : DataUnit = data_unit m at kind wide in
    let a = chose-not (leb (length m) at) End _ (Unit u) e (λ q. let z : ◌≡◌ {A = ℕ} 0 1 = cc in omega arith) in
    let b = chose (unit_fits (drop at m) kind wide) (Unit v) Malformed (Unit u) a.1
    (λ q. let z : ◌≡◌ {A = ℕ} 0 1 = cc in omega arith) in
    let f = unit-fits (drop at m) kind wide b.0 in
    let g = unit-fits-end m at kind wide b.0 in
    let r : v ≡ u = let q : Unit v ≡ Unit u = b.1 in cc in
    rw (← r) (record { ordered = omega arith; within = omega arith })
