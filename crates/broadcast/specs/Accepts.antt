-- Good input is accepted: what the rules of start and of the control block and the lengths of the slots let pass is read to its end,
-- no call is refused, and the reading shows the account.
use Rattle.std.specs.Prelude.{ℕ, ◌*◌, ◌≤◌, ◌≡◌, List, [], ◌∷◌, map, length}
use Rattle.tmcc.specs.Block.{decode_of}
use Rattle.reassembly.specs.declared.config.Config.{Config}
use Rattle.intake.specs.Slot.{packet_memory}
use Rattle.state.specs.Start.{Starts}
use Rattle.broadcast.specs.Account.{account}
use Rattle.broadcast.specs.Drains.{strip}
use Rattle.broadcast.specs.Calls.{Made}
use Rattle.broadcast.specs.Frames.{Frame, Damage, arrivals, layout_in}
use Rattle.broadcast.specs.Bound.{NextsWithin}
use Rattle.broadcast.specs.Demand3.{Reads, shown_of, refused_of}

-- a frame whose control block is accepted for the stream with this id, and whose 120 slots have the data lengths of its layout: L
-- for a live slot, 0 for a dummy
pub record GoodFrame (stream : ℕ) (f : Frame) : Type 0 where
  pub block : (decode_of f.block stream).refusal ≡ 0
  pub lengths : map length f.slots ≡ (layout_in stream f).lengths

abbrev pub AllGood : ℕ → List Frame → Type 0
AllGood stream [] = Prim.Unit {0}
AllGood stream (f ∷ fs) = GoodFrame stream f × AllGood stream fs

-- what is concluded of frames, damage and memories
pub record Accepted (cfg : Config) (fs : List Frame) (d : Damage) (p c : List ℕ) : Type 0 where
  -- there is a reading
  pub readable : (xs : List Made) × Reads cfg fs d p c xs
  -- of any reading, refused calls added or not, no own call is refused
  pub none-refused : (xs : List Made) → Reads cfg fs d p c xs → refused_of cfg fs d p c xs ≡ []
  -- and it shows the account of the own live slots as they arrived
  pub shows-account : (xs : List Made) → Reads cfg fs d p c xs
      → shown_of cfg fs d p c xs ≡ map strip (account cfg (arrivals cfg.stream d 0 fs))
  -- next says that nothing waits after at most 42,869 calls
  pub next-ends : (xs : List Made) → Reads cfg fs d p c xs → NextsWithin 0 xs

abbrev pub Accepts : Type 0
Accepts =
    -- every start with 1 to 16 ids, none twice, a CID up to 4,095 and R from 1 to 1,048,576; every list of good frames, whatever is
    -- lost of them
    (cfg : Config) → Starts cfg → (fs : List Frame) → AllGood cfg.stream fs → (d : Damage)
    -- packet memory of at least 21,433 bytes and collecting memory of at least n × R, whatever they hold at first
    → (p c : List ℕ) → packet_memory ≤ length p → cfg.watch.n * cfg.rules.limit ≤ length c
    → Accepted cfg fs d p c
