-- A command at the front of a list of bytes: "one command byte, fixed operands".
use Rattle.std.specs.Prelude.{ℕ, ◌+◌, ◌*◌, ◌%◌, Bool, cond, not, ◌&&◌, List, length, ◌==◌, nat_le, nat_lt, slice_index}
use Rattle.wire.specs.Field.{be}
use Rattle.wire.specs.Tab.{tab}
use Rattle.reassembly.specs.declared.config.Config.{Config}
use Rattle.capture.specs.declared.command.Letter.{Letter}
use Rattle.capture.specs.declared.command.Letter.TheVariants.{Start, Frame, LostFrame, Slot, LostSlot, Unknown}

-- C, F, X, S, L
unfoldable pub letter_of : ℕ → Letter
letter_of b =
    cond (b == 67) Start
    (cond (b == 70) Frame (cond (b == 88) LostFrame (cond (b == 83) Slot (cond (b == 76) LostSlot Unknown))))

-- S, as far as its first bytes tell
unfoldable pub slot_size : List ℕ → ℕ
slot_size b = cond (nat_lt (length b) 3) 3 (3 + be 2 b 1 % 65536)

-- "C (stream 2 bytes, CID 2, n 1, sixteen ids 2 each, R 4), F (1,178), X lost frame, S (2-byte length, then data), L lost slot":
-- with its letter, as far as the first bytes tell; 0 for an unknown command
abbrev pub size_by : Letter → List ℕ → ℕ
size_by Start b = 42
size_by Frame b = 1179
size_by LostFrame b = 1
size_by Slot b = slot_size b
size_by LostSlot b = 1
size_by Unknown b = 0

unfoldable pub size_of : List ℕ → ℕ
size_of b = size_by (letter_of (slice_index b 0)) b

-- the longest command: S, its length, and 65,535 bytes
abbrev pub longest_command : ℕ
longest_command = 65538

-- a command stands at the front, known and whole
unfoldable pub whole : List ℕ → Bool
whole b = not (size_of b == 0) && nat_le (size_of b) (length b)

unfoldable pub ids_of : List ℕ → List ℕ
ids_of b = tab (λ i. be 2 b (6 + 2 * i)) 16

-- what C starts with
unfoldable pub config_of : List ℕ → Config
config_of b =
    record {
      stream = be 2 b 1;
      cid = be 2 b 3;
      watch = record { ids = ids_of b; n = slice_index b 5 };
      rules = record { limit = be 4 b 38 };
    }
