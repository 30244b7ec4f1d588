-- Why has_own meets its contract: any tests each slot.
use mathlib.Core.Path.{◌≡◌}
use mathlib.Core.Bool.{true, false}
use Rattle.std.proofs.Common.{rules}
use Rattle.std.proofs.lemmas.Iterator.{cases_from_any, YieldsList-from_slice}
use Rattle.tmcc.proofs.Slots.{any-of}
use Rattle.tmcc.proofs.layout.has_own.Goals as goal

pub returns : goal.returns
returns c =
    any-of (λ s. s.own) c.args.layout.now.slots _
    (cases_from_any _ _ _ (λ s. s.own ≡ true) (λ s. s.own ≡ false) c.any.ensures.ran (YieldsList-from_slice _ c.iter.ensures.rest)
    (λ x q k. search rules) (λ x q k. search rules))
