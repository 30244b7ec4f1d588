-- Data units: their fields by kind, and an aggregate cut into its units.
use Prim.Native.Nat.{ℕ, zero, suc, ◌+◌, ◌-◌, ◌≤◌, ◌<◌}
use Rattle.std.specs.Prelude.{◌≡◌, Bool, ◌&&◌, not, get_or, eqb, leb, Option, Some, None}
use Rattle.std.proofs.Math.Bool.{true, false, cond}
use mathlib.Core.List.{List, [], ◌∷◌}
use Rattle.std.proofs.Math.ListN.{length, take, drop}
use Rattle.wire.specs.Field.{be}
use Rattle.mmtp.specs.declared.unit.Fields.{Fields}
use Rattle.mmtp.specs.declared.unit.DataUnit.{DataUnit}
use Rattle.mmtp.specs.declared.unit.Step.{Step}
use Rattle.mmtp.specs.declared.unit.Step.TheVariants.{Unit, Malformed, End}

-- kind 2: movie fragment number 32, sample 32, offset 32, priority 8, dependency 8; kind 3: item id 32
unfoldable pub field_bytes : ℕ → ℕ
field_bytes kind = cond (eqb kind 2) 14 (cond (eqb kind 3) 4 0)

abbrev pub no_fields : Fields
no_fields = record { movie_fragment = 0; sample = 0; offset = 0; priority = 0; dependency = 0; item = 0 }

abbrev pub timed_fields : List ℕ → Fields
timed_fields u =
    record {
      movie_fragment = be 4 u 0;
      sample = be 4 u 4;
      offset = be 4 u 8;
      priority = get_or u 12 0;
      dependency = get_or u 13 0;
      item = 0;
    }

abbrev pub item_fields : List ℕ → Fields
item_fields u = record { movie_fragment = 0; sample = 0; offset = 0; priority = 0; dependency = 0; item = be 4 u 0 }

-- the fields that the data unit `u` begins with; 0 where its kind has none
unfoldable pub fields_of : ℕ → List ℕ → Fields
fields_of kind u = cond (eqb kind 2) (timed_fields u) (cond (eqb kind 3) (item_fields u) no_fields)

-- a data unit taken apart: its fields, and the bytes behind them
pub record Piece : Type 0 where
  pub fields : Fields
  pub bytes : List ℕ

unfoldable pub piece_of : ℕ → List ℕ → Piece
piece_of kind u = record { fields = fields_of kind u; bytes = drop (field_bytes kind) u }

-- with A each unit follows its length, 16 bits, or 32 in signalling with H
unfoldable pub length_bytes : Bool → ℕ
length_bytes wide = cond wide 4 2

abbrev pub unit_length : Bool → List ℕ → ℕ
unit_length wide b = be (length_bytes wide) b 0

-- the unit that begins `b` is whole in it and has its fields
unfoldable pub unit_fits : List ℕ → ℕ → Bool → Bool
unit_fits b kind wide =
    leb (length_bytes wide) (length b)
    && (leb (unit_length wide b) (length b - length_bytes wide) && leb (field_bytes kind) (unit_length wide b))

-- where the unit at `at` ends
abbrev pub unit_end : List ℕ → ℕ → Bool → ℕ
unit_end m at wide = at + length_bytes wide + unit_length wide (drop at m)

-- the place behind the unit at `at`: where a reader that stands there is moved to. Where no whole unit stands, it stays
unfoldable pub place_behind : List ℕ → ℕ → ℕ → Bool → ℕ
place_behind m at kind wide = cond (unit_fits (drop at m) kind wide) (unit_end m at wide) at

-- the same place, and none where no whole unit stands
unfoldable pub next_place : List ℕ → ℕ → ℕ → Bool → Option ℕ
next_place m at kind wide = cond (unit_fits (drop at m) kind wide) (Some (unit_end m at wide)) None

-- the unit at a place of an aggregate: its fields, and the place of its bytes
unfoldable pub data_unit : List ℕ → ℕ → ℕ → Bool → DataUnit
data_unit m at kind wide =
    record {
      fields = fields_of kind (drop (at + length_bytes wide) m);
      start = at + length_bytes wide + field_bytes kind;
      end = unit_end m at wide;
    }

unfoldable pub unit_at : List ℕ → ℕ → ℕ → Bool → Step
unit_at m at kind wide =
    cond (leb (length m) at) End (cond (unit_fits (drop at m) kind wide) (Unit (data_unit m at kind wide)) Malformed)

-- a data unit that is not aggregated reaches from its place to the packet's end
unfoldable pub single_fits : List ℕ → ℕ → ℕ → Bool
single_fits m at kind = leb (at + field_bytes kind) (length m)

unfoldable pub single_unit : List ℕ → ℕ → ℕ → DataUnit
single_unit m at kind = record { fields = fields_of kind (drop at m); start = at + field_bytes kind; end = length m }

unfoldable pub single_at : List ℕ → ℕ → ℕ → Step
single_at m at kind = cond (single_fits m at kind) (Unit (single_unit m at kind)) Malformed

-- an aggregate cut into its units, and whether they fill it
pub record Aggregate : Type 0 where
  pub pieces : List Piece
  pub fits : Bool

-- the unit that begins `b`, fields included
abbrev pub unit_of : Bool → List ℕ → List ℕ
unit_of wide b = take (unit_length wide b) (drop (length_bytes wide) b)

abbrev pub after_unit : Bool → List ℕ → List ℕ
after_unit wide b = drop (length_bytes wide + unit_length wide b) b

-- nothing left
abbrev pub all_read : Aggregate
all_read = record { pieces = []; fits = true }

abbrev pub spoilt : Aggregate
spoilt = record { pieces = []; fits = false }

abbrev pub in_front : Piece → Aggregate → Aggregate
in_front p r = record { pieces = p ∷ r.pieces; fits = r.fits }

-- the unit that begins `b`, and then the rest's
unfoldable pub unit_then : List ℕ → ℕ → Bool → Aggregate → Aggregate
unit_then b kind wide r = cond (unit_fits b kind wide) (in_front (piece_of kind (unit_of wide b)) r) spoilt

-- `n` bounds the units
unfoldable pub aggregate_by : ℕ → List ℕ → ℕ → Bool → Aggregate
aggregate_by zero b kind wide = record { pieces = []; fits = eqb (length b) 0 }
aggregate_by (suc n) b kind wide =
    cond (eqb (length b) 0) all_read (unit_then b kind wide (aggregate_by n (after_unit wide b) kind wide))

unfoldable pub aggregate : List ℕ → ℕ → Bool → Aggregate
aggregate b kind wide = aggregate_by (length b) b kind wide

-- at least one unit, and nothing but whole units
unfoldable pub aggregate_fits : List ℕ → ℕ → Bool → Bool
aggregate_fits b kind wide = not (eqb (length b) 0) && (aggregate b kind wide).fits

-- a unit that fits: its length, itself and its fields
pub record Fitting (b : List ℕ) (kind : ℕ) (wide : Bool) : Type 0 where
  pub head : length_bytes wide ≤ length b
  pub whole : length_bytes wide + unit_length wide b ≤ length b
  pub fielded : field_bytes kind ≤ unit_length wide b

-- the unit that a place names: its fields, and the bytes of `m` from its start to its end
unfoldable pub piece_at : List ℕ → DataUnit → Piece
piece_at m d = record { fields = d.fields; bytes = take (d.end - d.start) (drop d.start m) }

-- the unit at a place where an aggregate goes on: how the aggregate is read unit by unit
pub record Next (m : List ℕ) (at kind : ℕ) (wide : Bool) : Type 0 where
  pub unit : unit_at m at kind wide ≡ Unit (data_unit m at kind wide)
  pub on : at < (data_unit m at kind wide).end
  pub ordered : (data_unit m at kind wide).start ≤ (data_unit m at kind wide).end
  pub within : (data_unit m at kind wide).end ≤ length m
  pub cut : aggregate (drop at m) kind wide
      ≡ in_front (piece_at m (data_unit m at kind wide)) (aggregate (drop (data_unit m at kind wide).end m) kind wide)
  pub rest : (aggregate (drop (data_unit m at kind wide).end m) kind wide).fits ≡ true

-- it is named by its place
pub record Single (m : List ℕ) (at kind : ℕ) : Type 0 where
  pub unit : single_at m at kind ≡ Unit (single_unit m at kind)
  pub ordered : (single_unit m at kind).start ≤ (single_unit m at kind).end
  pub within : (single_unit m at kind).end ≤ length m
  pub piece : piece_at m (single_unit m at kind) ≡ piece_of kind (drop at m)

-- a data unit lies in its packet
pub record Inside (m : List ℕ) (u : DataUnit) : Type 0 where
  pub ordered : u.start ≤ u.end
  pub within : u.end ≤ length m
