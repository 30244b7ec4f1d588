-- Why decode meets its contract: each return is one case of the definition.
use mathlib.Core.Path.{sym, ap, ◌∙◌}
use mathlib.Core.Bool.{not}
use borrow.Author.Tests.{eqb-true, eqb-false}
use Rattle.tmcc.specs.Stream.{chosen, one_stream}
use Rattle.tmcc.proofs.One.{one-some, one-none}
use Rattle.tmcc.proofs.Slots.{own-any}
use Rattle.tmcc.proofs.BlockLaws.{refused-length, refused-modes, refused-streams, refused-own, accepts}
use Rattle.tmcc.proofs.block.decode.Goals as goal

pub returns-in_default : goal.returns-in_default
returns-in_default c = sym (refused-length _ _ c.in_default.ensures.1)

pub returns-then-not-keep_rules : goal.returns-then-not-keep_rules
returns-then-not-keep_rules c =
    let w = c.in-Ok.ensures.1 in
    sym (refused-modes _ _ w.long (rw w.same at (sym c.keep_rules.ensures ∙ c.if-not-keep_rules.true)))

pub returns-in_default-only : goal.returns-in_default-only
unfolding one_stream
returns-in_default-only c =
    let w = c.in-Ok.ensures.1 in
    sym
    (refused-streams _ _ w.long (rw w.same at (sym c.keep_rules.ensures ∙ c.if-not-keep_rules.false))
    (one-none _ 16 (rw w.same at (sym c.only.ensures ∙ c.in_default-only.is))))

pub returns-then-not-has_own : goal.returns-then-not-has_own
unfolding one_stream
returns-then-not-has_own c =
    let w = c.in-Ok.ensures.1 in
    let f = one-some (chosen c.args.block.now c.args.id) 16 c.in-Some.own (rw w.same at (sym c.only.ensures ∙ c.in-Some.is)) in
    let o = sym (own-any _ _ _ c.layout_in-layout.ensures) ∙ sym (ap not c.has_own.ensures) ∙ ap not c.if-not-has_own.true in
    sym
    (refused-own _ _ w.long (rw w.same at (sym c.keep_rules.ensures ∙ c.if-not-keep_rules.false)) f.0
    (rw f.1 (eqb-true _ _ (rw w.same at o))))

pub returns : goal.returns
unfolding one_stream
returns c =
    let w = c.in-Ok.ensures.1 in
    let f = one-some (chosen c.args.block.now c.args.id) 16 c.in-Some.own (rw w.same at (sym c.only.ensures ∙ c.in-Some.is)) in
    let o = sym (own-any _ _ _ c.layout_in-layout.ensures) ∙ sym (ap not c.has_own.ensures) ∙ ap not c.if-not-has_own.false in
    rw (c.layout_in-layout.ensures, w.same, ← f.1)
    (sym
    (accepts _ _
    record {
      size = w.long;
      modes = rw w.same at (sym c.keep_rules.ensures ∙ c.if-not-keep_rules.false);
      one = f.0;
      some = rw f.1 (eqb-false _ _ (rw w.same at o));
    }))
