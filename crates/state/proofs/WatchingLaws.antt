-- Laws of specs/Watching.antt.
use Rattle.std.specs.Prelude.{ℕ, ◌≡◌}
use Rattle.watch.specs.Given.{lookup_of}
use Rattle.watch.specs.Rising.{search_of}
use Rattle.watch.proofs.Order.{rising_answers}
use Rattle.reassembly.specs.declared.config.Config.{Config}
use Rattle.words.specs.Config.{kept_config}
use Rattle.state.specs.Start.{Starts}

-- the answer, for every configuration that meets start's conditions
pub watch-given : (c : Config) → Starts c → (id : ℕ) → search_of (kept_config c).watch id ≡ lookup_of c.watch id
watch-given c s id = rising_answers c.watch s.few s.once id
