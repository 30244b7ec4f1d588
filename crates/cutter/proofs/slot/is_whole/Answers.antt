-- Why is_whole meets its contract: the walk from byte 0 is the cut, and it comes to the end only without a tail.
use Rattle.std.proofs.Common.{◌≡◌, ℕ, ◌-◌, length, Bool, true, false, cond, List, Some, None, refl, sym}
use Rattle.std.specs.Option.{option_eq}
use lib.Dec.{eqb}
use Rattle.tlv.specs.Packet.{cut, walk_of}
use Rattle.cutter.specs.Slot.{whole}
use Rattle.cutter.proofs.Packets.{bad-whole, end_whole}
use Rattle.cutter.proofs.slot.is_whole.Goals as goal

-- the walk ends at the run's end if and only if the run is whole
ends : (run : List ℕ) → option_eq eqb (walk_of run 0) (Some (length run)) ≡ whole run
unfolding walk_of
ends run = go (cut run).good refl
  where
    go : (g : Bool) → (cut run).good ≡ g → option_eq eqb (cond g (Some (length run - length (cut run).tail)) None) (Some (length run)) ≡ whole run
    go true e = sym (end_whole run _ e refl)
    go false e = sym (bad-whole run e)

pub returns : goal.returns
returns c = rw (c.eq.ensures, c.walk.ensures) (ends c.args.run.now)
