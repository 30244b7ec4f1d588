-- The receiver's state, as the definitions of the calls speak of it; what they answer; and parts of the state, set.
use Rattle.std.specs.Prelude.{ℕ, Bool, List}
use Rattle.reassembly.specs.declared.channel.Channel.{Channel}
use Rattle.intake.specs.declared.held.Held.{Held}
use Rattle.intake.specs.declared.held.Cursor.{Cursor}
use Rattle.intake.specs.declared.held.Intake.{Intake}
use Rattle.queue.specs.Waiting.{Queue}
use Rattle.queue.specs.Event.{Event}
use Rattle.words.specs.Config.{KeptConfig}
use Rattle.tmcc.specs.Layout.{Layout}

-- the frame: its layout, and the next slot, counted from 0; 120 where none is due
pub record Frame : Type 0 where
  pub layout : Layout
  pub at : ℕ

pub record State : Type 0 where
  -- what start keeps of what it was given
  pub config : KeptConfig
  pub frame : Frame
  -- whether next is owed
  pub owed : Bool
  pub held : Held
  pub cursor : Cursor
  pub queue : Queue
  -- the states of the sixteen packet_ids
  pub channels : List Channel

-- what start, frame, lost frame and slot answer: 0 where the call is accepted, else the refusal's number; and the state after it
pub record Called : Type 0 where
  pub refusal : ℕ
  pub state : State

-- what next answers
pub record Answer : Type 0 where
  pub event : Event
  pub state : State

abbrev pub with_frame : State → Frame → State
with_frame st f =
    record {
      config = st.config;
      frame = f;
      owed = st.owed;
      held = st.held;
      cursor = st.cursor;
      queue = st.queue;
      channels = st.channels;
    }

abbrev pub with_owed : State → Bool → State
with_owed st o =
    record {
      config = st.config;
      frame = st.frame;
      owed = o;
      held = st.held;
      cursor = st.cursor;
      queue = st.queue;
      channels = st.channels;
    }

abbrev pub with_slot : State → Held → Cursor → State
with_slot st h c =
    record {
      config = st.config;
      frame = st.frame;
      owed = st.owed;
      held = h;
      cursor = c;
      queue = st.queue;
      channels = st.channels;
    }

-- what a slot leaves
abbrev pub with_intake : State → Intake → State
with_intake st i = with_slot st i.held i.cursor

abbrev pub with_queue : State → Queue → State
with_queue st q =
    record {
      config = st.config;
      frame = st.frame;
      owed = st.owed;
      held = st.held;
      cursor = st.cursor;
      queue = q;
      channels = st.channels;
    }

abbrev pub with_channels : State → List Channel → State
with_channels st l =
    record {
      config = st.config;
      frame = st.frame;
      owed = st.owed;
      held = st.held;
      cursor = st.cursor;
      queue = st.queue;
      channels = l;
    }

-- a call that is refused: its number, and the state as it was
abbrev pub refused : ℕ → State → Called
refused n st = record { refusal = n; state = st }

abbrev pub accepted : State → Called
accepted st = record { refusal = 0; state = st }
