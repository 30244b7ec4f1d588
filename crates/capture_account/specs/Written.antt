-- Captures as they are written: the bytes of a list of calls, and the calls that read a list of frames, whole or damaged.
use Rattle.std.specs.Prelude.{ℕ, ◌/◌, ◌%◌, ◌≤◌, ◌≡◌, List, [], ◌∷◌, ◌++◌, length}
use Rattle.broadcast.specs.Calls.{Call, frame, lost-frame, slot, lost-slot, next, Todo, call, drain, show}
use Rattle.broadcast.specs.Frames.{Frame, Damage, none, reading}

-- "F (1,178), X lost frame, S (2-byte length, then data), L lost slot"
unfoldable pub command_bytes : Call → List ℕ
command_bytes (frame b) = 70 ∷ b
command_bytes lost-frame = 88 ∷ []
command_bytes (slot d) = 83 ∷ length d / 256 ∷ length d % 256 ∷ d
command_bytes lost-slot = 76 ∷ []
command_bytes next = []

unfoldable pub calls_bytes : List Call → List ℕ
calls_bytes [] = []
calls_bytes (k ∷ ks) = command_bytes k ++ calls_bytes ks

-- a call that a command can hold
abbrev pub CanWrite : Call → Type 0
CanWrite (frame b) = length b ≡ 1178
CanWrite lost-frame = Unit {0}
CanWrite (slot d) = length d ≤ 65535
CanWrite lost-slot = Unit {0}
CanWrite next = ⊥

abbrev pub CanWriteAll : List Call → Type 0
CanWriteAll [] = Unit {0}
CanWriteAll (k ∷ ks) = CanWrite k × CanWriteAll ks

-- the calls of a reading that a command makes: next has none, since the capture program calls it by itself, nor has show
unfoldable pub calls_in : List Todo → List Call
calls_in [] = []
calls_in (call k ∷ ts) = k ∷ calls_in ts
calls_in (drain ∷ ts) = calls_in ts
calls_in (show g ∷ ts) = calls_in ts

-- the calls that read the frames from number i on: F with S or L for each slot, or X
abbrev pub frames_calls : Damage → ℕ → List Frame → List Call
frames_calls d i fs = calls_in (reading d i fs)

-- frames whose commands can be written: blocks of 1,178 bytes, and slots whose length has two bytes
abbrev pub CanWriteFrames : List Frame → Type 0
CanWriteFrames fs = CanWriteAll (frames_calls none 0 fs)

-- the capture of frames, whole or damaged, behind the bytes of C
unfoldable pub capture_bytes : List ℕ → Damage → List Frame → List ℕ
capture_bytes start_bytes d fs = start_bytes ++ calls_bytes (frames_calls d 0 fs)
