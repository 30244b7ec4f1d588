-- A session, as the definitions speak of it: what a capture's commands have come to; its parts, set; and counts.
use Rattle.std.specs.Prelude.{ℕ, ◌+◌, ◌%◌, ◌^◌, Bool, true, false, ◌&&◌, List}
use Rattle.state.specs.State.{State}
use Rattle.state.specs.Start.{fresh_state, blank_config}
use Rattle.capture.specs.declared.session.Phase.{Phase}
use Rattle.capture.specs.declared.session.Phase.TheVariants.{Before, Reading, Ended}
use Rattle.capture.specs.declared.session.Tally.{Tally}
use Rattle.capture.specs.declared.session.Session.{Session as Values}
use Rattle.capture.specs.declared.session.Progress.{Progress as ValuesProgress}
use Rattle.state.specs.Words.{state_in}

pub record Session : Type 0 where
  pub phase : Phase
  pub state : State
  pub tally : Tally

-- the session, and the place behind what was written
pub record Progress : Type 0 where
  pub session : Session
  pub at : ℕ

-- with the receiver's state, which the state memory t has
abbrev pub session_in : Values → List ℕ → Session
session_in s t = record { phase = s.phase; state = state_in t; tally = s.tally }

abbrev pub progress_in : ValuesProgress → List ℕ → Progress
progress_in r t = record { session = session_in r.session t; at = r.at }

-- the end of a session, beside the state memory
abbrev pub ended : Values → Values
ended s = record { phase = Ended; tally = s.tally }

-- counts have 64 bits
abbrev pub more : ℕ → ℕ
more n = (n + 1) % 2 ^ 64

-- another frame, a slot, another unit, another note
abbrev pub in_frame : Tally → Tally
in_frame t = record { frames = more t.frames; slot = 0; units = t.units; notes = t.notes }

abbrev pub in_slot : ℕ → Tally → Tally
in_slot n t = record { frames = t.frames; slot = n; units = t.units; notes = t.notes }

abbrev pub with_unit : Tally → Tally
with_unit t = record { frames = t.frames; slot = t.slot; units = more t.units; notes = t.notes }

abbrev pub with_note : Tally → Tally
with_note t = record { frames = t.frames; slot = t.slot; units = t.units; notes = more t.notes }

abbrev pub is_reading : Phase → Bool
is_reading Before = false
is_reading Reading = true
is_reading Ended = false

abbrev pub is_ended : Phase → Bool
is_ended Before = false
is_ended Reading = false
is_ended Ended = true

-- next is owed
abbrev pub busy : Session → Bool
busy s = is_reading s.phase && s.state.owed

abbrev pub in_phase : Session → Phase → Session
in_phase s p = record { phase = p; state = s.state; tally = s.tally }

abbrev pub with_state : Session → State → Session
with_state s st = record { phase = s.phase; state = st; tally = s.tally }

abbrev pub with_tally : Session → Tally → Session
with_tally s t = record { phase = s.phase; state = s.state; tally = t }

-- nothing read, beside the state memory
abbrev pub fresh_values : Values
fresh_values = record { phase = Before; tally = record { frames = 0; slot = 0; units = 0; notes = 0 } }

-- nothing read
unfoldable pub fresh_session : Session
fresh_session =
    record {
      phase = Before;
      state = fresh_state blank_config;
      tally = record { frames = 0; slot = 0; units = 0; notes = 0 };
    }
