-- Why `refill` meets its contract: nothing is wanted, or a block comes.
use mathlib.Core.Path.{refl, sym, ◌∙◌}
use mathlib.Core.Logic.{inl, inr}
use borrow.Author.Rules.{rules}
use Rattle.tlv_capture.proofs.pump.refill.Goals as goal

pub returns-then-not-wants : goal.returns-then-not-wants
returns-then-not-wants c = (inl (sym c.wants.ensures ∙ c.if-not-wants.true, refl), refl)

pub returns : goal.returns
returns c =
    (inr (sym c.wants.ensures ∙ c.if-not-wants.false, _, c.fill.ensures), search rules)
