-- A slot in packet memory: what becomes of held bytes, what next then has to read, and packet memory byte for byte.
use Rattle.std.specs.Prelude.{ℕ, ◌+◌, Bool, true, false, cond, List, length, drop, eqb}
use Rattle.wire.specs.Memory.{part_of, pasted}
use Rattle.tmcc.specs.declared.layout.Pointers.{Pointers}
use Rattle.tlv.specs.declared.held.Continuation.{Continuation}
use Rattle.tlv.specs.declared.held.Continuation.TheVariants.{Dropped, Ends, GoesOn}
use Rattle.tlv.specs.declared.note.SlotNote.TheVariants.{Lost, Unsound}
use Rattle.tlv.specs.Notes.{number_of}
use Rattle.tlv.specs.Slot.{none, sound}
use Rattle.tlv.specs.Held.{continuation_of}
use Rattle.intake.specs.declared.held.Held.{Held}
use Rattle.intake.specs.declared.held.Cursor.{Cursor}
use Rattle.intake.specs.declared.held.Intake.{Intake}

-- searching
abbrev pub searching : Held
searching = record { on = false; start = 0; len = 0 }

-- bytes of a packet are held, perhaps none
abbrev pub holding : ℕ → ℕ → Held
holding start len = record { on = true; start = start; len = len }

-- nothing is left to read of the slot but its own note
abbrev pub noted : ℕ → Cursor
noted n = record { note = n; packet = 0; reading = false; at = 0; end = 0 }

-- the slot stands in packet memory from byte 16,384
abbrev pub slot_area : ℕ
slot_area = 16384

-- and the longest has 5,049 bytes: "packet memory 21,433 bytes"
abbrev pub packet_memory : ℕ
packet_memory = 21433

-- what next reads: the slot's note, the packet that it completed, then the packets from the top pointer on
unfoldable pub cursor_from : ℕ → ℕ → ℕ → ℕ → Cursor
cursor_from note packet top l =
    cond (eqb top none) (record { note = note; packet = packet; reading = false; at = 0; end = 0 })
    (record { note = note; packet = packet; reading = true; at = slot_area + top; end = slot_area + l })

-- nothing is held until their tail is
abbrev pub reading_from : ℕ → ℕ → ℕ → ℕ → Intake
reading_from note packet top l = record { held = searching; cursor = cursor_from note packet top l }

-- the held bytes
abbrev pub held_bytes : Held → List ℕ → List ℕ
held_bytes h p = part_of p h.start h.len

abbrev pub held_len : Held → List ℕ → ℕ
held_len h p = length (held_bytes h p)

-- the end of the packet that the slot completes, from byte 0; 0 where nothing was held
abbrev pub packet_end : ℕ → ℕ → ℕ
packet_end n end = cond (eqb n 0) 0 (n + end)

-- a sound slot comes to `n` held bytes
unfoldable pub resumed_as : Continuation → ℕ → ℕ → ℕ → Intake
resumed_as (Dropped x) n top l = reading_from (number_of x) 0 top l
resumed_as (Ends e) n top l =
    record { held = cond (eqb top none) (holding 0 0) searching; cursor = cursor_from 0 (packet_end n e) top l }
resumed_as GoesOn n top l = record { held = holding 0 (n + l); cursor = noted 0 }

-- "its bytes so far come to stand from byte 0 and the slot's continuing bytes follow them"
unfoldable pub moved_mem : Held → List ℕ → List ℕ
moved_mem h p = pasted p 0 (drop h.start p) (held_len h p)

unfoldable pub continued_mem : Held → List ℕ → List ℕ → ℕ → List ℕ
continued_mem h p d k = pasted (moved_mem h p) (held_len h p) d k

unfoldable pub resumed_mem : Continuation → Held → List ℕ → List ℕ → List ℕ
resumed_mem (Dropped x) h p d = p
resumed_mem (Ends e) h p d = continued_mem h p d e
resumed_mem GoesOn h p d = continued_mem h p d (length d)

-- "then the slot, sound or not, is copied from byte 16,384"
unfoldable pub copied : List ℕ → List ℕ → List ℕ
copied p d = pasted p slot_area d (length d)

-- what the slot leaves, and packet memory
abbrev pub IntakeOut : Type 0
IntakeOut = Intake × List ℕ

abbrev pub resumed_by : Continuation → Held → List ℕ → List ℕ → Pointers → IntakeOut
resumed_by k h p d t = (resumed_as k (held_len h p) t.0 (length d), resumed_mem k h p d)

unfoldable pub resumed_of : Held → List ℕ → List ℕ → Pointers → IntakeOut
resumed_of h p d t = resumed_by (continuation_of (held_bytes h p) d t.0 t.1) h p d t

-- an own live slot by whether it is sound and whether bytes are held, before it is copied
abbrev pub taken_by : Bool → Bool → Held → List ℕ → List ℕ → Pointers → IntakeOut
taken_by false on h p d t = (record { held = searching; cursor = noted (number_of Unsound) }, p)
taken_by true false h p d t = (reading_from 0 0 t.0 (length d), p)
taken_by true true h p d t = resumed_of h p d t

abbrev pub settled_of : Held → List ℕ → List ℕ → Pointers → IntakeOut
settled_of h p d t = taken_by (sound d t.0 t.1) h.on h p d t

unfoldable pub intake_of : Held → List ℕ → List ℕ → Pointers → IntakeOut
intake_of h p d t = let r = settled_of h p d t in (r.0, copied r.1 d)

-- "A lost slot makes it searching, with note 40 if it wasn't"
unfoldable pub lost_of : Held → Intake
lost_of h = record { held = searching; cursor = noted (cond h.on (number_of Lost) 0) }
