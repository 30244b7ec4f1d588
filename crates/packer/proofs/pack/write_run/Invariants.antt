-- Why write_run meets its contract: with what is left to be written, the output is the whole run's.
use Rattle.std.proofs.Common.{◌≡◌, ◌+◌, ◌≤◌, length}
use Rattle.wire.specs.Memory.{pasted}
use Rattle.packer.specs.Packer.{packed}
use Rattle.packer.proofs.Runs.{left}
use Rattle.packer.proofs.pack.write_run.Given as goal

abbrev pub invariant-loop-i : goal.invariant-loop-i
invariant-loop-i l =
    record {
      long : length l.output ≡ length l.initial.output;
      room : l.at + length (left l.plan l.bytes l.i) ≤ length l.initial.output;
      whole :
          pasted l.output l.at (left l.plan l.bytes l.i) (length (left l.plan l.bytes l.i)) ≡ packed (left l.plan l.bytes 0) l.initial.output;
    }
