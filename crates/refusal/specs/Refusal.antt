-- The number of each refusal, and what a call answers by it.
use Rattle.std.specs.Prelude.{ℕ, Result, Ok, Err}
use Rattle.refusal.specs.declared.Refusal.{Refusal}
use Rattle.refusal.specs.declared.Refusal.TheVariants.{WatchedCount, WatchedTwice, ContextId, Limit, BlockLength, Busy, Modes, Stream, NoSlot, NoneDue, Owed, ShortMemory, SlotLength, PieceSize, Kind, PieceCount, PacketOutput, PacketContextId, Run, SlotSize, SlotNumber, SlotOutput, StateMemory, Settings, EventMemory, UnitOutput}

-- 1 to 4 start, 10 to 14 frame, 20 to 23 slot and next, 70 to 74 the packer, 75 to 78 the cutter; 90 to 93 memories and records that are lent
abbrev pub number_of : Refusal → ℕ
number_of WatchedCount = 1
number_of WatchedTwice = 2
number_of ContextId = 3
number_of Limit = 4
number_of BlockLength = 10
number_of Busy = 11
number_of Modes = 12
number_of Stream = 13
number_of NoSlot = 14
number_of NoneDue = 20
number_of Owed = 21
number_of ShortMemory = 22
number_of SlotLength = 23
number_of PieceSize = 70
number_of Kind = 71
number_of PieceCount = 72
number_of PacketOutput = 73
number_of PacketContextId = 74
number_of Run = 75
number_of SlotSize = 76
number_of SlotNumber = 77
number_of SlotOutput = 78
number_of StateMemory = 90
number_of Settings = 91
number_of EventMemory = 92
number_of UnitOutput = 93

-- 0 where the call is accepted, else the refusal's number
abbrev pub answer : {A : Type 0} → Result A Refusal → ℕ
answer (Ok x) = 0
answer (Err e) = number_of e
