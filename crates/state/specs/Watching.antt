-- The watch list of a started receiver: kept in rising order, it answers as a search in the order given.
use Rattle.std.specs.Prelude.{ℕ, ◌*◌, ◌≡◌, List, length, Some}
use Rattle.watch.specs.Given.{lookup_of}
use Rattle.watch.specs.Rising.{Rises, search_of}
use Rattle.reassembly.specs.declared.config.Config.{Config}
use Rattle.words.specs.Config.{KeptConfig}
use Rattle.queue.specs.declared.located.Located.{Located}
use Rattle.delivery.specs.Arrived.{Good}
use Rattle.delivery.specs.Packet.{comes_to, arrived_at, base_of}
use Rattle.state.specs.State.{State}
use Rattle.state.specs.Start.{start_from}

-- what start keeps of `c` answers as a search through c's list in the order given. Every call keeps it as it is; a packet_id
-- collects from `base_of` on, which `joined_of` cites.
pub record InOrderGiven (c : Config) (kept : KeptConfig) : Type 0 where
  -- "keep the ids in rising order": an entry for each of the n ids; by `answer` each has "the place each had at start"
  pub rises : Rises 0 kept.watch.list
  pub count : length kept.watch.list ≡ c.watch.n
  -- "the answer for each packet_id"
  pub answer : (id : ℕ) → search_of kept.watch id ≡ lookup_of c.watch id
  -- so each TLV packet in packet memory comes to what it would by a search in the order given
  pub packet : (p : List ℕ) (start end : ℕ) → arrived_at kept p start end ≡ comes_to c.cid (lookup_of c.watch) p start end
  -- "and where it collects": id k of the list given from k × R on
  pub collects : (p : List ℕ) (start end : ℕ) (l : Located) → arrived_at kept p start end ≡ Good l
      → (k : ℕ) × (lookup_of c.watch l.packet.packet_id ≡ Some k) × (base_of l kept.rules.limit ≡ k * c.rules.limit)

-- document 02, item 8: "The answer for each packet_id, and where it collects, is shown equal to a search in the order given, for every
-- list that start accepts"; st is what stood in the words before
abbrev pub WatchClaim : Type 0
WatchClaim = (st : State) (c : Config) → (start_from st c).refusal ≡ 0 → InOrderGiven c (start_from st c).state.config
