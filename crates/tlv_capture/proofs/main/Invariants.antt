-- main is safe: the memories keep their sizes.
use mathlib.Core.Path.{◌≡◌}
use lib.ListN.{length}
use Rattle.intake.specs.Slot.{packet_memory}
use Rattle.state.specs.Words.{state_words}
use Rattle.capture.specs.Command.{longest_command}
use Rattle.tlv_capture.proofs.main.Given as goal

abbrev pub invariant-loop : goal.invariant-loop
invariant-loop l =
    (packet_memory ≡ length l.packet) × (65536 ≡ length l.collecting) × (longest_command ≡ length l.command) × (65536 ≡ length l.block)
    × (65536 ≡ length l.out) × (state_words ≡ length l.words)
