-- An example of lost packets, computed: two packet_ids, a unit of three pieces of which the second is empty, and whole units.
use Rattle.std.specs.Prelude.{◌≡◌, ℕ, Bool, not, List, [], ◌∷◌, length, ◌==◌}
use Rattle.mmtp.specs.declared.payload.Indicator.{Indicator}
use Rattle.mmtp.specs.declared.payload.Indicator.TheVariants.{Whole, First, Middle, Last}
use Rattle.reassembly.specs.declared.unit.Unit.{Unit as UnitInfo}
use Rattle.reassembly.specs.Run.{Input, Labelled, note, unit, fresh, run}
use Rattle.reassembly.specs.Sent.{sent}
use Rattle.reassembly.specs.Claims.{received, unharmed}

abbrev pub info : ℕ → ℕ → UnitInfo
info id psn =
    record {
      packet_id = id;
      kind = 4;
      psn = record { 0 = psn };
      mpu = 0;
      fields = record { movie_fragment = 0; sample = 0; offset = 0; priority = 0; dependency = 0; item = 0 };
    }

-- a signalling packet, by its packet_id, which is its place too, its psn, indicator, counter and bytes
abbrev pub packet : ℕ → ℕ → Indicator → ℕ → List ℕ → Input
packet id psn fi counter bytes =
    record {
      place = id;
      piece = record { unit = info id psn; indicator = fi; counter = counter; len = length bytes };
      bytes = bytes;
      wholes = record { info = info id psn; bytes = bytes } ∷ [];
    }

-- packets labelled 1 to 5
abbrev pub packets : List (ℕ × Input)
packets =
    (1, packet 0 4294967295 First 2 (11 ∷ 12 ∷ []))
    ∷ (2, packet 1 7 Whole 0 (20 ∷ []))
    ∷ (3, packet 0 0 Middle 1 [])
    ∷ (4, packet 0 1 Last 0 (13 ∷ []))
    ∷ (5, packet 1 8 Whole 0 (21 ∷ []))
    ∷ []

abbrev pub without : ℕ → ℕ → Bool
without n k = not (n == k)

abbrev pub joined : Labelled ℕ
joined = record { labels = 1 ∷ 3 ∷ 4 ∷ []; content = record { info = info 0 4294967295; bytes = 11 ∷ 12 ∷ 13 ∷ [] } }

abbrev pub whole : ℕ → ℕ → ℕ → Labelled ℕ
whole label psn byte = record { labels = label ∷ []; content = record { info = info 1 psn; bytes = byte ∷ [] } }

abbrev pub Examples : Type 0
Examples =
    -- nothing lost, and what the packets carry
    (run (record { limit = 100 }) (λ k. fresh) packets ≡ unit (whole 2 7 20) ∷ unit joined ∷ unit (whole 5 8 21) ∷ [])
    × (sent packets ≡ whole 2 7 20 ∷ joined ∷ whole 5 8 21 ∷ [])
    -- the empty piece lost: no joined unit, and the rest
    × (run (record { limit = 100 }) (λ k. fresh) (received (without 3) packets) ≡ unit (whole 2 7 20) ∷ note 60 0 ∷ unit (whole 5 8 21) ∷ [])
    × (unharmed (without 3) (sent packets) ≡ whole 2 7 20 ∷ whole 5 8 21 ∷ [])
    -- FI 01 lost, the packet_id being unheard: FI 10 and 11 are silent
    × (run (record { limit = 100 }) (λ k. fresh) (received (without 1) packets) ≡ unit (whole 2 7 20) ∷ unit (whole 5 8 21) ∷ [])
    -- a packet of the other packet_id lost: the open unit goes on
    × (run (record { limit = 100 }) (λ k. fresh) (received (without 2) packets) ≡ unit joined ∷ unit (whole 5 8 21) ∷ [])
    × (unharmed (without 2) (sent packets) ≡ joined ∷ whole 5 8 21 ∷ [])
