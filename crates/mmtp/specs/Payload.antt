-- The payload: its header by payload type, and the rules of note 52.
use Rattle.std.specs.Prelude.{ℕ, ◌+◌, ◌-◌, ◌≤◌, ◌≡◌, Bool, true, false, cond, ◌&&◌, List, [], ◌∷◌, length, get_or, drop, eqb, leb, Option, Some, None}
use Rattle.wire.specs.Bits.{bits_at}
use Rattle.wire.specs.Field.{be}
use Rattle.mmtp.specs.declared.payload.Indicator.{Indicator}
use Rattle.mmtp.specs.declared.payload.Indicator.TheVariants.{Whole, First, Middle, Last}
use Rattle.mmtp.specs.declared.payload.Payload.{Payload}
use Rattle.mmtp.specs.Unit.{Piece, piece_of, single_fits, aggregate, aggregate_fits}

-- FI 00 whole, 01 first, 10 middle, 11 last
unfoldable pub indicator_of : ℕ → Indicator
indicator_of n = cond (eqb n 0) Whole (cond (eqb n 1) First (cond (eqb n 2) Middle Last))

-- kinds 0 and 1 for FT 0 and 1; FT 2 is 2 timed, 3 not
unfoldable pub fragment_type_of : ℕ → Bool → Option ℕ
fragment_type_of ft timed =
    cond (eqb ft 0) (Some 0) (cond (eqb ft 1) (Some 1) (cond (eqb ft 2) (Some (cond timed 2 3)) None))

abbrev pub flag : ℕ → ℕ → Bool
flag s x = eqb (bits_at s 1 x) 1

-- payload type 0, of the payload p = drop at m: length 16, FT 4, timed 1, FI 2, A 1, counter 8, MPU sequence number 32
abbrev pub mpu_by : Option ℕ → List ℕ → ℕ → Option Payload
mpu_by None p at = None
mpu_by (Some k) p at =
    Some (record {
      kind = k;
      indicator = indicator_of (bits_at 1 2 (get_or p 2 0));
      counter = get_or p 3 0;
      mpu = be 4 p 4;
      aggregated = flag 0 (get_or p 2 0);
      wide = false;
      start = at + 8;
    })

unfoldable pub mpu_of : List ℕ → ℕ → Option Payload
mpu_of m at =
    let p = drop at m in
    cond (leb 8 (length p) && eqb (be 2 p 0) (length p - 2))
    (mpu_by (fragment_type_of (bits_at 4 4 (get_or p 2 0)) (flag 3 (get_or p 2 0))) p at) None

-- payload type 2: FI 2, reserved 4, H 1, A 1, counter 8
abbrev pub signalling_head : List ℕ → ℕ → Payload
signalling_head p at =
    record {
      kind = 4;
      indicator = indicator_of (bits_at 6 2 (get_or p 0 0));
      counter = get_or p 1 0;
      mpu = 0;
      aggregated = flag 0 (get_or p 0 0);
      wide = flag 1 (get_or p 0 0);
      start = at + 2;
    }

unfoldable pub signalling_of : List ℕ → ℕ → Option Payload
signalling_of m at = cond (leb 2 (length (drop at m))) (Some (signalling_head (drop at m) at)) None

unfoldable pub parsed_of : List ℕ → ℕ → ℕ → Option Payload
parsed_of m at type = cond (eqb type 0) (mpu_of m at) (cond (eqb type 2) (signalling_of m at) None)

-- the counter's part of 52: a first or middle piece "may carry 0 ..; only the last must be 0" (document 02, item 4)
unfoldable pub counter_fits : Indicator → ℕ → Bool
counter_fits Whole n = true
counter_fits First n = true
counter_fits Middle n = true
counter_fits Last n = eqb n 0

-- "A with FI not 00"
unfoldable pub aggregation_fits : Bool → Indicator → Bool
aggregation_fits false i = true
aggregation_fits true Whole = true
aggregation_fits true First = false
aggregation_fits true Middle = false
aggregation_fits true Last = false

-- "overrun or short fields, A without a unit"
unfoldable pub units_fit : List ℕ → Payload → Bool
units_fit m p =
    cond p.aggregated (aggregate_fits (drop p.start m) p.kind p.wide)
    (single_fits m p.start p.kind)

abbrev pub payload_fits : List ℕ → Payload → Bool
payload_fits m p = counter_fits p.indicator p.counter && (aggregation_fits p.aggregated p.indicator && units_fit m p)

unfoldable pub tested : List ℕ → Option Payload → Option Payload
tested m None = None
tested m (Some p) = cond (payload_fits m p) (Some p) None

-- the payload at `at`, or 52
unfoldable pub payload_of : List ℕ → ℕ → ℕ → Option Payload
payload_of m at type = tested m (parsed_of m at type)

-- the data units of a payload, in order
unfoldable pub pieces_of : List ℕ → Payload → List Piece
pieces_of m p =
    cond p.aggregated (aggregate (drop p.start m) p.kind p.wide).pieces (piece_of p.kind (drop p.start m) ∷ [])

-- what a payload that is read has
pub record PayloadGood (m : List ℕ) (at type : ℕ) (p : Payload) : Type 0 where
  pub parsed : parsed_of m at type ≡ Some p
  pub counter : counter_fits p.indicator p.counter ≡ true
  pub aggregation : aggregation_fits p.aggregated p.indicator ≡ true
  pub units : units_fit m p ≡ true
  pub within : p.start ≤ length m
  pub whole : p.aggregated ≡ true → p.indicator ≡ Whole
