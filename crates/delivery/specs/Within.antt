-- Where packets and their data units lie in packet memory, and pieces in collecting memory.
use Rattle.std.specs.Prelude.{ℕ, ◌+◌, ◌≤◌, ◌<◌, ◌≡◌, Some}
use Rattle.watch.specs.Rising.{search_of}
use Rattle.reassembly.specs.declared.config.Rules.{Rules}
use Rattle.reassembly.specs.declared.join.Action.{Action}
use Rattle.reassembly.specs.declared.join.Action.TheVariants.{Nothing as NoAction, Whole, Store, Complete}
use Rattle.words.specs.Config.{KeptConfig}
use Rattle.queue.specs.declared.located.Located.{Located}
use Rattle.delivery.specs.Packet.{Unit₀}

-- a packet that is read has a place in the list that start was given
pub record Watched (c : KeptConfig) (l : Located) : Type 0 where
  pub low : l.packet.place < 16
  pub listed : l.packet.place < c.watch.n
  pub found : search_of c.watch l.packet.packet_id ≡ Some l.packet.place

-- what an action stores ends within R
abbrev pub Below : Action → ℕ → Rules → Type 0
Below NoAction n rules = Unit₀
Below Whole n rules = Unit₀
Below (Store at) n rules = at + n ≤ rules.limit
Below (Complete at) n rules = at + n ≤ rules.limit
