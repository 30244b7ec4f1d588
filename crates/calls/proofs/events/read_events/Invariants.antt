-- Why read_events meets its contract: what was given, and what next gives from here on, is the same throughout.
use Prim.Native.Nat.{◌-◌, ◌*◌, ◌≤◌}
use mathlib.Core.Path.{◌≡◌}
use lib.ListN.{length}
use Rattle.state.specs.Words.{state_words, state_in, Exact}
use Rattle.frames.specs.Slot.{short_by}
use mathlib.Core.Bool.{false}
use Rattle.calls.specs.Events.{events_of, events_left}
use Rattle.calls.proofs.EventsLaws.{gave}
use Rattle.calls.proofs.events.read_events.Given as goal

abbrev pub invariant-loop-n : goal.invariant-loop-n
invariant-loop-n l =
    record {
      same :
          gave l.n (l.n * 24) l.records (events_of (l.room - l.n) (state_in l.words) l.packet l.collecting)
          ≡ events_left l.initial.records (events_of l.room (state_in l.initial.words) l.packet l.initial.collecting);
      words : state_words ≤ length l.words;
      exact : Exact l.initial.words l.words;
      suffice : short_by (state_in l.words).config (length l.packet) (length l.collecting) ≡ false;
    }
