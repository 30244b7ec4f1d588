-- Why is_sound meets its contract: the cases of its definition.
use Rattle.std.proofs.Common.{arith, sym, ◌∙◌}
use Rattle.std.proofs.lemmas.Grind.{common_steps}
use Rattle.tlv.proofs.SlotLaws.{sound-without-top, unsound_outside, unsound_unmarked, sound-tail}
use Rattle.tlv.proofs.slot.is_sound.Goals as goal

pub returns-then-last-eq-NONE : goal.returns-then-last-eq-NONE
returns-then-last-eq-NONE c = grind (arith, common_steps, sound-without-top)

pub returns-else-last-eq-NONE : goal.returns-else-last-eq-NONE
returns-else-last-eq-NONE c = grind (arith, common_steps, sound-without-top)

pub returns-then-s-t : goal.returns-then-s-t
returns-then-s-t c = sym (unsound_outside _ _ _ c.if-top-eq-NONE.false (omega arith))

pub returns-in-None : goal.returns-in-None
returns-in-None c =
    let w = sym c.walk.ensures ∙ c.in-None.is in
    sym (unsound_unmarked _ _ _ c.if-top-eq-NONE.false (omega arith) (rw c.from-t.ensures at w))

pub returns-in-Some : goal.returns-in-Some
returns-in-Some c =
    let w = sym c.walk.ensures ∙ c.in-Some.is in
    rw (c.from-in-Some.ensures, c.last_pointer.ensures)
    (sym (sound-tail _ _ _ c.if-top-eq-NONE.false (omega arith) c.in-Some.end (rw c.from-t.ensures at w)))
