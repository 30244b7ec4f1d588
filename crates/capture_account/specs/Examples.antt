-- Captures that meet what the claims assume: the broadcast of three frames, written behind its C; and a C that start refuses. Frames and
-- slots are counted from 0 in a broadcast and its damage, and from 1 in a capture's lines: slot 5 of frame 0 is `1 6` there.
use Rattle.std.specs.Prelude.{ℕ, ◌≡◌, List, [], ◌∷◌, ◌++◌, replicate}
use Rattle.reassembly.specs.Run.{Content}
use Rattle.state.specs.Start.{start_of}
use Rattle.broadcast.specs.Drains.{note, unit}
use Rattle.broadcast.specs.Example.{joined}
use Rattle.broadcast.specs.Frames.{Damage}
use Rattle.broadcast.specs.Broadcast.{config, frames, whole, slot_lost, frame_lost}
use Rattle.capture_account.specs.Events.{Placed, meaning_of}
use Rattle.capture_account.specs.Written.{capture_bytes}
use Rattle.capture_account.specs.Claims.{config_in, HasC, Begins, Suffice, units_given, UndamagedCapture}

-- C: stream 0x0102, CID 2, packet_ids 17 and 18, R = 100
abbrev pub start_bytes : List ℕ
start_bytes = 67 ∷ 1 ∷ 2 ∷ 0 ∷ 2 ∷ 2 ∷ 0 ∷ 17 ∷ 0 ∷ 18 ∷ (replicate 28 0 ++ (0 ∷ 0 ∷ 0 ∷ 100 ∷ []))

-- X behind it
abbrev pub loss_alone : List ℕ
loss_alone = start_bytes ++ (88 ∷ [])

-- C with n = 0
abbrev pub no_ids : List ℕ
no_ids = 67 ∷ replicate 41 0

-- memories of the least lengths that suffice
abbrev pub least_packet : List ℕ
least_packet = replicate 21433 0

abbrev pub least_collecting : List ℕ
least_collecting = replicate 200 0

-- the units of the capture of the three frames with this damage
abbrev pub UnitsLeft : Damage → List Content → Type 0
UnitsLeft d us = units_given least_packet least_collecting (capture_bytes start_bytes d frames) ≡ us

-- what the capture with frame 1 lost brings, by frames and slots as its lines have them: X is the second frame, and "a lost frame's note
-- has slot 0"; that packets of packet_id 17 are missing is noted where its next one ends, in the sixth slot of the third frame
abbrev pub frame_lost_places : List Placed
frame_lost_places =
    record { frame = 1; slot = 6; shown = unit (whole 9); len = 2 }
    ∷ record { frame = 2; slot = 0; shown = note 40 0; len = 0 }
    ∷ record { frame = 3; slot = 1; shown = unit joined; len = 4 }
    ∷ record { frame = 3; slot = 6; shown = note 60 17; len = 0 }
    ∷ record { frame = 3; slot = 6; shown = unit (whole 12); len = 2 }
    ∷ []

pub record Examples : Type 0 where
  pub says : config_in start_bytes ≡ config
  -- what CaptureAccounts assumes, whatever is lost
  pub begins : (d : Damage) → Begins (capture_bytes start_bytes d frames)
  pub suffice : (d : Damage) → Suffice (config_in (capture_bytes start_bytes d frames)) least_packet least_collecting
  -- what CaptureShort assumes, and what it says then: X without memories is counted, and next behind it refused
  pub alone : Begins loss_alone
  pub short : Suffice (config_in loss_alone) [] [] → ⊥
  pub short-refused : (meaning_of [] [] loss_alone).refusal ≡ 22 ∷ []
  pub short-counted : (meaning_of [] [] loss_alone).tally.frames ≡ 1
  -- what CaptureRefusedC assumes
  pub has_c : HasC no_ids
  pub no_ids_lem : (start_of (config_in no_ids)).refusal ≡ 1
  -- what CaptureLoss assumes
  pub undamaged : UndamagedCapture start_bytes frames least_packet least_collecting
  -- and what is left then: with slot 5 of frame 0 lost, the unit whose packet it ended is gone; with frame 1 lost, both of its units
  pub slot-lost : UnitsLeft slot_lost (whole 10 ∷ whole 11 ∷ joined ∷ whole 12 ∷ [])
  pub frame-lost : UnitsLeft frame_lost (whole 9 ∷ joined ∷ whole 12 ∷ [])
  pub frame-lost-places : (meaning_of least_packet least_collecting (capture_bytes start_bytes frame_lost frames)).events ≡ frame_lost_places
