-- Why length_of meets its contract: the mode of the slot, its halves, and the table.
use Prim.Native.Nat.{◌+◌, ◌*◌}
use mathlib.Core.Path.{sym}
use native.Mathlib.Omega.{arith}
use Rattle.wire.proofs.BitsLaws.{bits_mask}
use Rattle.tmcc.proofs.ModeLaws.{length-live, length_dummy}
use Rattle.tmcc.proofs.mode.length_of.Goals as goal

pub returns-then-s-from : goal.returns-then-s-from
returns-then-s-from c =
    let o = c.of_slot in
    rw (c.data_bytes.ensures, bits_mask _ 4)
    (sym (length-live _ _ o.result o.ensures.0 (omega (arith, c.fits-block (1 + 3 * o.result)))))

pub returns-else-s-from : goal.returns-else-s-from
returns-else-s-from c =
    let o = c.of_slot in
    sym (length_dummy _ _ o.result o.ensures.0 (omega (arith, c.fits-block (1 + 3 * o.result))))
