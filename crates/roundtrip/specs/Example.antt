-- A run that meets the round trip's conditions: three packet_ids, all kinds, a unit of 300 pieces and exactly R bytes whose counter
-- and psn wrap, an empty one, one in two pieces, one in one piece above R, null packets of 4 and of 16,384 bytes, and one that fills the
-- last slot.
use Rattle.std.specs.Prelude.{ℕ, ◌+◌, ◌*◌, ◌≡◌, false, List, [], ◌∷◌, ◌++◌, length, replicate}
use Rattle.mmtp.specs.declared.unit.Fields.{Fields}
use Rattle.mmtp.specs.Unit.{no_fields}
use Rattle.reassembly.specs.declared.config.Config.{Config}
use Rattle.state.specs.Start.{start_of}
use Rattle.cutter.specs.Slot.{unlisted}
use Rattle.roundtrip.specs.Sending.{Parcel, AllSendable, Consecutive, AllGaps}
use Rattle.roundtrip.specs.RoundTrip.{run_of}

-- R is 300; packet_id 20 is watched and not sent
abbrev pub config : Config
config = record { stream = 1; cid = 2; watch = record { ids = 17 ∷ 18 ∷ 19 ∷ 20 ∷ replicate 12 0; n = 4 }; rules = record { limit = 300 } }

abbrev parcel : ℕ → ℕ → ℕ → ℕ → Fields → ℕ → List ℕ → Parcel
parcel id kind psn mpu fields m bytes =
    record {
      unit = record { packet_id = id; kind = kind; psn = record { 0 = psn }; mpu = mpu; fields = fields };
      bytes = bytes;
      sn = 15;
      m = m;
    }

abbrev pub in_pieces : Parcel
in_pieces = parcel 17 4 4294967200 0 no_fields 1 (replicate 300 7)

abbrev pub timed : Parcel
timed =
    parcel 18 2 9 5 (record { movie_fragment = 1; sample = 2; offset = 3; priority = 4; dependency = 5; item = 0 }) 1400
    (1 ∷ 2 ∷ 3 ∷ [])

abbrev pub nothing : Parcel
nothing = parcel 17 4 204 0 no_fields 1 []

abbrev pub item : Parcel
item =
    parcel 19 3 0 6 (record { movie_fragment = 0; sample = 0; offset = 0; priority = 0; dependency = 0; item = 8 }) 2
    (1 ∷ 2 ∷ 3 ∷ [])

-- in one piece, and longer than R
abbrev pub above_limit : Parcel
above_limit = parcel 18 0 10 5 no_fields 1400 (replicate 344 9)

abbrev pub metadata : Parcel
metadata = parcel 19 1 2 7 no_fields 5 (1 ∷ 2 ∷ 3 ∷ [])

abbrev pub units : List Parcel
units = in_pieces ∷ timed ∷ nothing ∷ item ∷ above_limit ∷ metadata ∷ []

-- a null packet by the two bytes of its length field, with contents that look like packets of type 3
abbrev pub null : ℕ → ℕ → List ℕ
null a b = 0x7F ∷ 0xFF ∷ a ∷ b ∷ replicate (a * 256 + b) 3

-- before the first of 306 packets; two of them before the second, which is in the middle of the first unit; behind the last
abbrev pub gaps : List (List (List ℕ))
gaps =
    (null 0 0 ∷ []) ∷ (null 0x3F 0xFC ∷ null 0 0 ∷ []) ∷ replicate 304 [] ++ ((null 3 15 ∷ []) ∷ [])

-- it fills 13 slots of 1,870 bytes
pub record Meets : Type 0 where
  pub starts : (start_of config).refusal ≡ 0
  pub sendable : AllSendable config units
  pub consecutive : Consecutive [] units
  pub padding : AllGaps gaps
  pub listed : unlisted 1870 ≡ false
  pub multiple : length (run_of config units gaps) ≡ 13 * 1870
