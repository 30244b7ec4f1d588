-- What the functions that write packets ask for, and what they leave.
use Rattle.std.specs.Prelude.{◌≡◌, ℕ, ◌+◌, ◌*◌, ◌<◌, ◌≤◌, cond, List, length, take, drop, ◌==◌}
use Rattle.wire.specs.Memory.{pasted}
use Rattle.mmtp.specs.Unit.{field_bytes}
use Rattle.reassembly.specs.declared.join.Piece.{Piece}
use Rattle.packer.specs.declared.pack.Plan.{Plan}
use Rattle.packer.specs.Pieces.{count_of, max_pieces}
use Rattle.packer.specs.Packer.{packet_at, run}

-- the bytes of the payload header
unfoldable pub payload_head_bytes : ℕ → ℕ
payload_head_bytes kind = cond (kind == 4) 2 8

-- the bytes of a packet before the piece's own
unfoldable pub head_bytes : ℕ → ℕ
head_bytes kind = 19 + payload_head_bytes kind + field_bytes kind

-- what the writing of the packet of a piece of `n` bytes asks for
pub record Writable (room at cid sn : ℕ) (p : Piece) (n : ℕ) : Type 0 where
  pub fits : at + (head_bytes p.unit.kind + n) ≤ room
  pub kinds : p.unit.kind ≤ 4
  pub cids : cid < 4096
  pub sns : sn < 16
  pub small : n ≤ 1400

-- what the writing of a plan asks for: `len` bytes to be packed, an output of `room`
pub record Planned (p : Plan) (len room : ℕ) : Type 0 where
  pub positive : 0 < p.m
  pub small : p.m ≤ 1400
  pub kinds : p.unit.kind ≤ 4
  pub cids : p.cid < 4096
  pub counted : p.n ≡ count_of p.m len
  pub few : p.n ≤ max_pieces
  pub fits : p.n * head_bytes p.unit.kind + len ≤ room

abbrev pub planned_run : Plan → List ℕ → List ℕ
planned_run p s = run p.unit p.cid p.sn p.m s

-- the packet of piece `i` of a plan
abbrev pub planned : Plan → ℕ → List ℕ → List ℕ
planned p i s = packet_at p.unit p.cid p.sn p.n i (take p.m (drop (i * p.m) s))

-- a packet `t` written at `at`: the output, and where the packet ends
pub record Writes (t : List ℕ) (at end : ℕ) (before after : List ℕ) : Type 0 where
  pub ends : end ≡ at + length t
  pub writes : after ≡ pasted before at t (length t)
