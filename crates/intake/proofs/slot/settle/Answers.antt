-- Why settle meets its contract: each return is one case of the definition.
use mathlib.Core.Path.{sym, ◌∙◌}
use Rattle.intake.proofs.SlotFacts.{settled_unsound, settled-searching, settled-held}
use Rattle.intake.proofs.slot.settle.Goals as goal

pub returns-then-not-is_sound : goal.returns-then-not-is_sound
returns-then-not-is_sound c =
    rw (c.searching.ensures, c.from.ensures) (sym (settled_unsound _ _ _ _ (sym c.is_sound.ensures ∙ c.if-not-is_sound.true)))

pub resume_slot-requires : goal.resume_slot-requires
resume_slot-requires c =
    let p = c.requires in
    (p.0, p.1, sym c.is_sound.ensures ∙ c.if-not-is_sound.false)

pub returns-then-held : goal.returns-then-held
returns-then-held c =
    let s = sym c.is_sound.ensures ∙ c.if-not-is_sound.false in
    c.resume_slot.ensures ∙ sym (settled-held _ _ _ _ s c.if-held.true)

pub returns : goal.returns
returns c =
    let s = sym c.is_sound.ensures ∙ c.if-not-is_sound.false in
    rw c.read_from.ensures (sym (settled-searching _ _ _ _ s c.if-held.false))
