-- Why `advance` meets its contract: the slot's note, the packet that it completed, its packets, in this order.
use Rattle.delivery.proofs.CursorLaws.{advanced_note, advanced_packet, advanced_slot, advanced_done}
use mathlib.Core.Path.{sym, ◌∙◌}
use Rattle.delivery.proofs.cursor.advance.Goals as goal

pub returns-then-c-ne0 : goal.returns-then-c-ne0
returns-then-c-ne0 c = sym (advanced_note _ _ c.if-c-ne0.true)

pub returns-then-c-ne0-2 : goal.returns-then-c-ne0-2
returns-then-c-ne0-2 c = sym (advanced_packet _ _ c.if-c-ne0.false c.if-c-ne0-2.true)

pub returns-then-c : goal.returns-then-c
returns-then-c c =
    c.advance_slot.ensures ∙ sym (advanced_slot _ _ c.if-c-ne0.false c.if-c-ne0-2.false c.if-c.true)

pub returns : goal.returns
returns c =
    sym (advanced_done _ _ c.if-c-ne0.false c.if-c-ne0-2.false c.if-c.false)
