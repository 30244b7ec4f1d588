-- What feeding a block answers and leaves.
use Prim.Native.Nat.{ℕ, zero, suc, min, ◌+◌, ◌-◌, ◌≤◌}
use Rattle.std.specs.Prelude.{Bool, cond, ◌&&◌, List, take, drop, eqb, ltb}
use Rattle.std.proofs.Math.Bool.{not}
use Rattle.std.proofs.Math.ListN.{length}
use Rattle.wire.specs.Memory.{pasted}
use Rattle.capture.specs.Session.{Progress, Session, busy, is_ended}
use Rattle.feeding.specs.Fed.{Fed}
use Rattle.feeding.specs.Turn.{Turn}
use Rattle.capture.specs.Command.{longest_command, size_of}
use Rattle.capture.specs.Steps.{roomy, acted_of, poured_of}

-- the bytes of a command that is not whole yet
abbrev pub held_of : List ℕ → ℕ → List ℕ
held_of command held = take held command

-- how many bytes more it wants
unfoldable pub wanted_of : List ℕ → ℕ
wanted_of b = cond (eqb (length b) 0) 1 (size_of b - length b)

-- how many of the first `held` bytes are kept: all where they begin a command that is not whole, else none
unfoldable pub kept_of : List ℕ → ℕ → ℕ
kept_of command held =
    cond (ltb (length command) held) 0 (cond (ltb held (size_of (held_of command held))) held 0)

-- more bytes are wanted, and no command is longer than 65,538
pub record Keeps (command : List ℕ) (held : ℕ) : Type 0 where
  pub some : 1 ≤ wanted_of (held_of command held)
  pub most : held + wanted_of (held_of command held) ≤ longest_command

-- they come from the block, as far as it has them
unfoldable pub gathered_of : List ℕ → ℕ → List ℕ → ℕ → Turn × List ℕ
gathered_of command held block read =
    let n = min (wanted_of (held_of command held)) (length block - read) in
    (record { took = n; gathered = held + n }, pasted command held (drop read block) n)

-- how many bytes a command has that stands whole at the front of b, an unknown one its first; 0 where it is not whole
unfoldable pub whole_size : List ℕ → ℕ
whole_size b =
    cond (eqb (length b) 0) 0 (cond (eqb (size_of b) 0) 1 (cond (ltb (length b) (size_of b)) 0 (size_of b)))

-- where nothing is held, a command that stands whole in the block is taken from there; else bytes are gathered
unfoldable pub bytes_taken : List ℕ → ℕ → List ℕ → ℕ → Turn × List ℕ
bytes_taken command held block read =
    let n = whole_size (drop read block) in
    cond (eqb held 0 && not (eqb n 0)) (record { took = n; gathered = 0 }, command) (gathered_of command held block read)

-- the command's bytes: in the block from `from` to `to`, or gathered
unfoldable pub source_of : List ℕ → ℕ → List ℕ → ℕ → ℕ → List ℕ
source_of command gathered block from to =
    cond (eqb gathered 0) (take (to - from) (drop from block)) (held_of command gathered)

abbrev pub Ran : Type 0
Ran = Progress × List ℕ × List ℕ × List ℕ

-- the command is carried out if it is whole, or unknown, and then next is called
unfoldable pub ran_of : Session → List ℕ → List ℕ → List ℕ → List ℕ → ℕ → Ran
ran_of s b p c out at =
    cond (ltb (length b) (size_of b)) (record { session = s; at = at }, p, c, out)
    (let a = acted_of s p c b out at in
    let w = poured_of a.0.session a.1 c a.2 a.0.at in
    (w.0, a.1, w.1, w.2))

-- bytes of the block are left, there is room for a line, nothing is owed, and the session has not ended
unfoldable pub goes_by : Session → ℕ → ℕ → ℕ → ℕ → Bool
goes_by s read size written room =
    ltb read size && (roomy room written && (not (busy s) && not (is_ended s.phase)))

-- all that feeding changes
pub record World : Type 0 where
  pub session : Session
  pub held : ℕ
  pub command : List ℕ
  pub read : ℕ
  pub packet : List ℕ
  pub collecting : List ℕ
  pub out : List ℕ
  pub written : ℕ

abbrev pub goes : List ℕ → World → Bool
goes block w = goes_by w.session w.read (length block) w.written (length w.out)

-- one turn: bytes of the block are taken, and a command that is whole is carried out
unfoldable pub turn_of : List ℕ → World → World
turn_of block w =
    let g = bytes_taken w.command w.held block w.read in
    let end = w.read + g.0.took in
    let b = source_of g.1 g.0.gathered block w.read end in
    let r = ran_of w.session b w.packet w.collecting w.out w.written in
    record {
      session = r.0.session;
      held = kept_of g.1 g.0.gathered;
      command = g.1;
      read = end;
      packet = r.1;
      collecting = r.2;
      out = r.3;
      written = r.0.at;
    }

-- `f` bounds the turns
unfoldable pub fed_by : ℕ → List ℕ → World → World
fed_by zero block w = w
fed_by (suc f) block w = cond (goes block w) (fed_by f block (turn_of block w)) w

-- each turn reads a byte at least
unfoldable pub fed_from : List ℕ → World → World
fed_from block w = fed_by (length block - w.read) block w

abbrev pub FeedLeaves : Type 0
FeedLeaves = Fed × List ℕ × List ℕ × List ℕ × List ℕ

abbrev pub left_by : World → FeedLeaves
left_by w = (
  record { session = w.session; held = w.held; read = w.read; written = w.written },
  w.command,
  w.packet,
  w.collecting,
  w.out,
)

abbrev pub entered : Session → ℕ → List ℕ → List ℕ → List ℕ → List ℕ → World
entered s held command p c out =
    record {
      session = s;
      held = held;
      command = command;
      read = 0;
      packet = p;
      collecting = c;
      out = out;
      written = 0;
    }

-- a block is fed; with a command memory under 65,538 bytes nothing is read
unfoldable pub fed_of : Session → ℕ → List ℕ → List ℕ → List ℕ → List ℕ → List ℕ → FeedLeaves
fed_of s held command block p c out =
    cond (ltb (length command) longest_command) (left_by (entered s held command p c out))
    (left_by (fed_from block (entered s (kept_of command held) command p c out)))

-- the front of b, as many bytes as a whole command has
pub record Front (b : List ℕ) (n : ℕ) : Type 0 where
  pub within : n ≤ length b
  -- by itself it is no part of a command, and no more than one
  pub whole : size_of (take n b) ≤ n
  pub exact : 1 ≤ size_of (take n b) → n ≤ size_of (take n b)

abbrev pub Wants : World → Type 0
Wants w = 1 ≤ wanted_of (held_of w.command w.held)
