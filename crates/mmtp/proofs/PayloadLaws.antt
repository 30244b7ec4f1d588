-- Laws of specs/Payload.antt.
use Rattle.std.specs.Prelude.{ℕ, ◌+◌, ◌-◌, ◌/◌, ◌^◌, ◌≤◌, ◌<◌, ◌≡◌, refl, Bool, true, false, cond, List, [], ◌∷◌, length, get_or, drop, eqb, Option, Some, None}
use Rattle.std.proofs.Common.{sym, ◌∙◌, ap, div-one, arith, length-drop, get_or-drop}
use Rattle.std.proofs.Math.Bool.{and-eq-true_iff}
use Rattle.std.proofs.Math.Nat.{add-zero}
use borrow.Author.Tests.{le-leb, lt-leb, eq-eqb, ne_eqb}
use Rattle.std.specs.Int.Bits.{bit_and}
use Rattle.wire.specs.Bits.{bits_at}
use Rattle.wire.proofs.BitsLaws.{bits_shift}
use Rattle.wire.specs.Field.{be}
use Rattle.wire.proofs.FieldLaws.{be-drop}
use Rattle.mmtp.specs.declared.payload.Indicator.{Indicator}
use Rattle.mmtp.specs.declared.payload.Indicator.TheVariants.{Whole, First, Middle, Last}
use Rattle.mmtp.specs.declared.payload.Payload.{Payload}
use Rattle.mmtp.specs.Unit.{piece_of, single_fits, aggregate, aggregate_fits}
use Rattle.mmtp.proofs.UnitLaws.{aggregate-fits, single_within}
use Rattle.mmtp.specs.Payload.{fragment_type_of, flag, mpu_by, mpu_of, signalling_head, signalling_of, parsed_of, counter_fits, aggregation_fits, units_fit, payload_fits, tested, payload_of, pieces_of, PayloadGood}

-- Laws.
-- a flag, by a shift and a mask
pub flag_shift : (s x : ℕ) → eqb (bit_and (x / 2 ^ s) 1) 1 ≡ flag s x
flag_shift s x = rw (bits_shift x s 1)

pub flag-low : (x : ℕ) → eqb (bit_and x 1) 1 ≡ flag 0 x
flag-low x = ap (λ (y : ℕ). eqb (bit_and y 1) 1) (sym (div-one x)) ∙ flag_shift 0 x

-- the header of an MPU payload, by its tests
module _ (m : List ℕ) (at : ℕ) where
  pub mpu-short : length m - at < 8 → mpu_of m at ≡ None
  unfolding mpu_of
  mpu-short h = rw (length-drop, lt-leb _ _ h)

  pub mpu-length : (be 2 m at ≡ length m - at - 2 → ⊥) → 8 ≤ length m - at → mpu_of m at ≡ None
  unfolding mpu_of
  mpu-length e h = rw (length-drop, le-leb _ _ h, be-drop, add-zero, ne_eqb _ _ e)

  pub mpu-by : 8 ≤ length m - at → be 2 m at ≡ length m - at - 2 → (ft : Option ℕ)
      → fragment_type_of (bits_at 4 4 (get_or m (at + 2) 0)) (flag 3 (get_or m (at + 2) 0)) ≡ ft → mpu_of m at ≡ mpu_by ft (drop at m) at
  unfolding mpu_of
  mpu-by h e ft f = rw (length-drop, le-leb _ _ h, be-drop, add-zero, eq-eqb _ _ e) (rw (get_or-drop, f))

-- the header of a signalling payload
module _ (m : List ℕ) (at : ℕ) where
  pub signalling_short : length m - at < 2 → signalling_of m at ≡ None
  unfolding signalling_of
  signalling_short h = rw (length-drop, lt-leb _ _ h)

  pub signalling_by : 2 ≤ length m - at → signalling_of m at ≡ Some (signalling_head (drop at m) at)
  unfolding signalling_of
  signalling_by h = rw (length-drop, le-leb _ _ h)

-- the payload, by its tests
module _ (m : List ℕ) (at type : ℕ) where
  pub payload_unparsed : parsed_of m at type ≡ None → payload_of m at type ≡ None
  unfolding payload_of tested
  payload_unparsed e = rw e

  module _ (p : Payload) (e : parsed_of m at type ≡ Some p) where
    pub payload_counter : counter_fits p.indicator p.counter ≡ false → payload_of m at type ≡ None
    unfolding payload_of tested
    payload_counter c = rw (e, c)

    pub payload_aggregation : counter_fits p.indicator p.counter ≡ true
        → aggregation_fits p.aggregated p.indicator ≡ false → payload_of m at type ≡ None
    unfolding payload_of tested
    payload_aggregation c a = rw (e, c, a)

    pub payload_units : counter_fits p.indicator p.counter ≡ true → aggregation_fits p.aggregated p.indicator ≡ true
        → units_fit m p ≡ false → payload_of m at type ≡ None
    unfolding payload_of tested
    payload_units c a u = rw (e, c, a, u)

    pub payload_good : counter_fits p.indicator p.counter ≡ true → aggregation_fits p.aggregated p.indicator ≡ true
        → units_fit m p ≡ true → payload_of m at type ≡ Some p
    unfolding payload_of tested
    payload_good c a u = rw (e, c, a, u)

-- only whole units are aggregated
pub aggregated_whole : (i : Indicator) → aggregation_fits true i ≡ true → i ≡ Whole
unfolding aggregation_fits
aggregated_whole Whole h = refl
aggregated_whole First h = cc
aggregated_whole Middle h = cc
aggregated_whole Last h = cc

-- the units fit: one, or an aggregate
pub units_single : (m : List ℕ) (p : Payload) → p.aggregated ≡ false → units_fit m p ≡ single_fits m p.start p.kind
unfolding units_fit
units_single m p e = rw e

pub units_aggregated : (m : List ℕ) (p : Payload) → p.aggregated ≡ true
    → units_fit m p ≡ aggregate_fits (drop p.start m) p.kind p.wide
unfolding units_fit
units_aggregated m p e = rw e

-- and they are these
pub pieces_single : (m : List ℕ) (p : Payload) → p.aggregated ≡ false → pieces_of m p ≡ piece_of p.kind (drop p.start m) ∷ []
unfolding pieces_of
pieces_single m p e = rw e

pub pieces_aggregated : (m : List ℕ) (p : Payload) → p.aggregated ≡ true
    → pieces_of m p ≡ (aggregate (drop p.start m) p.kind p.wide).pieces
unfolding pieces_of
pieces_aggregated m p e = rw e

start-by : (m : List ℕ) (p : Payload) → units_fit m p ≡ true → (t : Bool) → p.aggregated ≡ t → p.start ≤ length m
start-by m p u true e =
    let f = aggregate-fits (drop p.start m) p.kind p.wide (sym (units_aggregated m p e) ∙ u) in
    omega (arith, length-drop p.start m)
start-by m p u false e =
    let f = single_within m p.start p.kind (sym (units_single m p e) ∙ u) in
    omega arith

cond-good : (t : Bool) (q p : Payload) → cond t (Some q) None ≡ Some p → (t ≡ true) × (q ≡ p)
cond-good true q p h = (refl, cc)
cond-good false q p h = (cc, cc)

good-by : (m : List ℕ) (at type : ℕ) (p : Payload) (r : Option Payload) → parsed_of m at type ≡ r → tested m r ≡ Some p
    → PayloadGood m at type p
unfolding tested
good-by m at type p None e h = let z : ◌≡◌ {A = ℕ} 0 1 = cc in absurd (omega arith)
good-by m at type p (Some q) e h =
    let c = cond-good (payload_fits m q) q p h in
    let t : payload_fits m p ≡ true = ap (payload_fits m) (sym c.1) ∙ c.0 in
    let a = (and-eq-true_iff (counter_fits p.indicator p.counter) _).0 t in
    let b = (and-eq-true_iff (aggregation_fits p.aggregated p.indicator) _).0 a.1 in
    record {
      parsed = e ∙ ap Some c.1;
      counter = a.0;
      aggregation = b.0;
      units = b.1;
      within = start-by m p b.1 p.aggregated refl;
      whole = λ w. aggregated_whole p.indicator (rw w at b.0);
    }

pub payload_read : (m : List ℕ) (at type : ℕ) (p : Payload) → payload_of m at type ≡ Some p → PayloadGood m at type p
unfolding payload_of
payload_read m at type p h = good-by m at type p (parsed_of m at type) refl h
