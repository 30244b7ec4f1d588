-- The round trip, demand 2's second half: units from the packer, padded with null packets, cut into slots and read by a fresh
-- receiver that watches them come back the same, in order, without a note.
use Rattle.std.specs.Prelude.{ℕ, ◌*◌, ◌<◌, ◌≡◌, false, List, [], map, length}
use Rattle.tlv.specs.Run.{Slot}
use Rattle.reassembly.specs.declared.config.Config.{Config}
use Rattle.state.specs.Start.{start_of}
use Rattle.packer.specs.Packer.{joined}
use Rattle.cutter.specs.Slot.{unlisted, slot_at, pointed, slot_cut}
use Rattle.cutter.specs.Claims.{slots_from}
use Rattle.broadcast.specs.Drains.{unit}
use Rattle.broadcast.specs.Calls.{Made}
use Rattle.broadcast.specs.Frames.{Frame, none, own_slots}
use Rattle.broadcast.specs.Readings.{Begun}
use Rattle.broadcast.specs.Demand3.{Reads, shown_of, refused_of}
use Rattle.roundtrip.specs.Sending.{Parcel, AllSendable, Consecutive, AllGaps, AllPack, all_packets, padded, content_of}

-- the run: the units' packets with the null packets in between
abbrev pub run_of : Config → List Parcel → List (List (List ℕ)) → List ℕ
run_of cfg us gaps = joined (padded gaps (all_packets cfg.cid us))

-- what is concluded of units, null packets and slots of l bytes that their run fills
pub record Concluded (cfg : Config) (us : List Parcel) (gaps : List (List (List ℕ))) (l n : ℕ) : Type 0 where
  -- the packer takes each unit, and its output is the unit's packets
  pub packs : AllPack cfg us
  -- the cutter takes the run, and cuts each of its n slots
  pub cuts : (s : ℕ) (out : List ℕ) → s < n → length out ≡ l
      → slot_cut (run_of cfg us gaps) l s out ≡ (pointed (slot_at (run_of cfg us gaps) l s), (slot_at (run_of cfg us gaps) l s).bytes)
  -- these n slots, with the cutter's pointers, are in order all own live slots of some frames, of the last of which perhaps only
  -- the first slots are read, as in demand 3's undamaged reading, with any memories, and none of its own calls is refused: then
  -- each unit is shown with packet_id, kind, first psn, MPU number, fields and the bytes from show, in order, and no note
  pub comes_back : (fs : List Frame) → Begun fs
      → map (λ (x : (ℕ × ℕ) × Slot). x.1) (own_slots cfg.stream 0 fs) ≡ slots_from (run_of cfg us gaps) l 0 n
      → (p c : List ℕ) (xs : List Made) → Reads cfg fs none p c xs → refused_of cfg fs none p c xs ≡ []
      → shown_of cfg fs none p c xs ≡ map (λ (u : Parcel). unit (content_of u)) us

abbrev pub RoundTrip : Type 0
RoundTrip =
    -- every accepted start; every list of units, each with its own piece size, and of null packets
    (cfg : Config) → (start_of cfg).refusal ≡ 0 → (us : List Parcel) → AllSendable cfg us → Consecutive [] us
    → (gaps : List (List (List ℕ))) → AllGaps gaps
    -- "run a multiple of L": it fills n slots of L bytes, L of the table
    → (l n : ℕ) → unlisted l ≡ false → length (run_of cfg us gaps) ≡ n * l
    → Concluded cfg us gaps l n
