-- Why `store_piece` meets its contract: the data unit's bytes are copied.
use Rattle.wire.proofs.MemoryLaws.{pasted-take}
use lib.ListN.{length, drop, length-drop}
use Prim.Native.Nat.{◌-◌, ◌≤◌}
use mathlib.Core.Path.{◌∙◌}
use native.Mathlib.Omega.{arith}
use Rattle.delivery.proofs.packet.store_piece.Goals as goal

pub returns : goal.returns
returns c =
    let u = c.args.u in
    let h : u.end - u.start ≤ length (drop u.start c.args.m.now) =
    rw length-drop (omega (arith, c.requires.ordered, c.requires.within)) in
    c.copy_at.ensures ∙ pasted-take _ _ _ _ h
