-- Why `ixohuemil_text` meets its contract: the capture is fed at once, and then the last line is written.
use native.Mathlib.Omega.{arith}
use Rattle.ixohuemil.proofs.TextLaws.{text-call}
use Rattle.ixohuemil.proofs.text.ixohuemil_text.Goals as goal

pub returns : goal.returns
returns c =
    let f = c in
    let g = f.begin-fresh.ensures in
    let e = rw (g.long (omega arith)).0 at (f.feed-fed.ensures.long (omega (arith, g.exact.size))) in
    text-call _ _ _ _ _ e _ _ c.finish.ensures
