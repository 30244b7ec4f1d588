-- Start: refusals 1 to 4 in this order, or a fresh receiver.
use Prim.Native.Nat.{ℕ, zero, suc, min, ◌≤◌}
use Rattle.std.specs.Prelude.{Bool, cond, ◌||◌, List, get_or, replicate, ltb, Option, Some, None}
use Rattle.std.proofs.Math.Bool.{true, false}
use Rattle.std.proofs.Math.Dec.{eqb}
use Rattle.watch.specs.declared.given.Watch.{Watch}
use Rattle.watch.specs.Given.{lookup_of, Distinct}
use Rattle.reassembly.specs.declared.config.Config.{Config}
use Rattle.reassembly.specs.Channel.{unheard}
use Rattle.tmcc.specs.Layout.{blank_layout}
use Rattle.state.specs.State.{State, Called, refused, accepted}
use Rattle.words.specs.Config.{kept_config}
use Rattle.intake.specs.Slot.{searching, noted}
use Rattle.queue.specs.Queue.{empty}

abbrev pub is_at : Option ℕ → Bool
is_at (Some k) = true
is_at None = false

-- the id at place k stands before it too
unfoldable pub before : List ℕ → ℕ → Bool
before ids k = is_at (lookup_of (record { ids = ids; n = k }) (get_or ids k 0))

-- an id stands twice among the first n
unfoldable pub twice_below : List ℕ → ℕ → Bool
twice_below ids zero = false
twice_below ids (suc k) = twice_below ids k || before ids k

unfoldable pub twice : Watch → ℕ → Bool
twice w n = twice_below w.ids (min n 16)

-- nothing read, no frame
unfoldable pub fresh_state : Config → State
fresh_state c =
    record {
      config = kept_config c;
      frame = record { layout = blank_layout; at = 120 };
      owed = false;
      held = searching;
      cursor = noted 0;
      queue = empty;
      channels = replicate 16 unheard;
    }

-- "1 n not 1 to 16; 2 an id twice; 3 CID above 4,095; 4 R not 1 to 1,048,576"; 0 for none
unfoldable pub start_refusal : Config → ℕ
start_refusal c =
    cond (ltb c.watch.n 1 || ltb 16 c.watch.n) 1
    (cond (twice c.watch c.watch.n) 2
    (cond (ltb 4095 c.cid) 3 (cond (ltb c.rules.limit 1 || ltb 1048576 c.rules.limit) 4 0)))

-- the settings before any start
abbrev pub blank_config : Config
blank_config = record { stream = 0; cid = 0; watch = record { ids = replicate 16 0; n = 0 }; rules = record { limit = 0 } }

-- a start over what stands there: a refused one leaves it
unfoldable pub start_from : State → Config → Called
start_from st c = cond (eqb (start_refusal c) 0) (accepted (fresh_state c)) (refused (start_refusal c) st)

-- a start where nothing stands
abbrev pub start_of : Config → Called
start_of c = start_from (fresh_state blank_config) c

-- what a receiver that is started keeps to
pub record Starts (c : Config) : Type 0 where
  pub some : 1 ≤ c.watch.n
  pub few : c.watch.n ≤ 16
  pub once : Distinct c.watch.ids c.watch.n
  pub cid : c.cid ≤ 4095
  pub room : 1 ≤ c.rules.limit
  pub most : c.rules.limit ≤ 1048576
