-- Why `feed` meets its contract: each turn leaves what feeding comes to, and less of the block.
use Prim.Native.Nat.{ℕ, ◌-◌, ◌≤◌}
use mathlib.Core.Path.{◌≡◌}
use mathlib.Core.List.{List}
use lib.ListN.{length}
use Rattle.state.specs.Words.{state_words, Exact}
use Rattle.capture.specs.Command.{longest_command}
use Rattle.capture.specs.Session.{Session, session_in}
use Rattle.feeding.specs.Feed.{World, Keeps, fed_from}
use Rattle.feeding.proofs.feed.feed.Given as goal

abbrev pub world : Session → ℕ → List ℕ → ℕ → List ℕ → List ℕ → List ℕ → ℕ → World
world s held command read p c out written =
    record {
      session = s;
      held = held;
      command = command;
      read = read;
      packet = p;
      collecting = c;
      out = out;
      written = written;
    }

abbrev pub invariant-loop-command : goal.invariant-loop-command
invariant-loop-command l =
    record {
      same :
          fed_from l.block (world (session_in l.fed.session l.words) l.fed.held l.command l.fed.read l.packet l.collecting l.out l.fed.written)
          ≡ fed_from l.block (world (session_in l.initial.fed.session l.initial.words) l.initial.fed.held l.initial.command 0 l.initial.packet l.initial.collecting l.initial.out 0);
      keeps : Keeps l.command l.fed.held;
      within : l.fed.read ≤ length l.block;
      command : longest_command ≤ length l.command;
      words : state_words ≤ length l.words;
      exact : Exact l.initial.words l.words;
    }

abbrev pub decreases-loop-command : goal.decreases-loop-command
decreases-loop-command l = length l.block - l.fed.read
