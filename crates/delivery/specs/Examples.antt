-- Examples of packets joined over collecting memory, computed over the definitions.
use Rattle.std.specs.Prelude.{ℕ, ◌≡◌, true, false, List, [], ◌∷◌, ◌++◌, replicate, length}
use Rattle.mmtp.specs.declared.payload.Indicator.{Indicator}
use Rattle.mmtp.specs.declared.payload.Indicator.TheVariants.{First, Last}
use Rattle.reassembly.specs.declared.channel.Channel.{Channel}
use Rattle.reassembly.specs.Channel.{unheard}
use Rattle.delivery.specs.Arrived.{Arrived, Good}
use Rattle.delivery.specs.Packet.{JoinedPacket, received_of}
use Rattle.queue.specs.Queue.{empty}

-- a signalling piece that is all of packet memory, of the packet_id at place 1
abbrev piece : Indicator → ℕ → ℕ → ℕ → Arrived
piece fi counter psn len =
    Good (record {
      packet = record {
        place = 1;
        packet_id = 7;
        psn = record { 0 = psn };
        payload = record { kind = 4; indicator = fi; counter = counter; mpu = 0; aggregated = false; wide = false; start = 0 };
      };
      start = 0;
      end = len;
    })

-- R is 4, and collecting memory has eight bytes
abbrev join : Channel → Indicator → ℕ → ℕ → List ℕ → List ℕ → JoinedPacket × List ℕ
join ch fi counter psn b c = received_of (piece fi counter psn (length b)) ch empty b c (record { limit = 4 })

abbrev zeros : List ℕ
zeros = replicate 8 0

-- the state of the packet_id with three bytes of a unit collected
abbrev begun-unit : Channel
begun-unit = (join unheard First 1 5 (1 ∷ 2 ∷ 3 ∷ []) zeros).0.channel

abbrev pub Examples : Type 0
Examples =
    -- "id k (from 0) collects from k × R"
    ((join unheard First 1 5 (1 ∷ 2 ∷ 3 ∷ []) zeros).1 ≡ replicate 4 0 ++ 1 ∷ 2 ∷ 3 ∷ 0 ∷ [])
    × ((join begun-unit Last 0 6 (4 ∷ []) zeros).1 ≡ replicate 7 0 ++ 4 ∷ [])
    -- "a piece noted 64 writes nothing", also at FI 01
    × ((join begun-unit Last 0 6 (4 ∷ 5 ∷ []) zeros).1 ≡ zeros) × ((join begun-unit Last 0 6 (4 ∷ 5 ∷ []) zeros).0.queue.over ≡ true)
    × ((join unheard First 1 5 (1 ∷ 2 ∷ 3 ∷ 4 ∷ 5 ∷ []) zeros).1 ≡ zeros)
    -- nor does one noted 60
    × ((join begun-unit Last 0 7 (4 ∷ []) zeros).1 ≡ zeros) × ((join begun-unit Last 0 7 (4 ∷ []) zeros).0.queue.note ≡ 60)
