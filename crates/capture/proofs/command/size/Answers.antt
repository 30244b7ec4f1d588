-- Why `size` meets its contract: by the letter.
use Rattle.std.proofs.Common.{◌≡◌, ◌⊎◌, inl, inr, ℕ, List, slice_index, eqb-true, sym, ◌∙◌, arith}
use Rattle.capture.specs.declared.command.Letter.{Letter}
use Rattle.capture.specs.declared.command.Letter.TheVariants.{LostFrame, LostSlot}
use Rattle.capture.specs.Command.{letter_of, size_of}
use Rattle.capture.proofs.CommandLaws.{size_none, size-by}
use Rattle.capture.proofs.command.size.Goals as goal

-- a lost frame, or a lost slot
lost : (b : List ℕ) (l : Letter) → letter_of (slice_index b 0) ≡ l → (l ≡ LostFrame) ⊎ (l ≡ LostSlot) → size_of b ≡ 1
lost b l k (inl e) = size-by b LostFrame (k ∙ e)
lost b l k (inr e) = size-by b LostSlot (k ∙ e)

pub returns-then-is_empty : goal.returns-then-is_empty
returns-then-is_empty c = (sym (size_none _ (eqb-true _ _ (sym c.is_empty.ensures ∙ c.if-is_empty.true))), omega arith)

pub returns-in-Start : goal.returns-in-Start
returns-in-Start c = (sym (size-by _ _ (sym c.from.ensures ∙ c.in-Start.is)), omega arith)

pub returns-in-Frame : goal.returns-in-Frame
returns-in-Frame c = (sym (size-by _ _ (sym c.from.ensures ∙ c.in-Frame.is)), omega arith)

pub returns-in-LostFrame : goal.returns-in-LostFrame
returns-in-LostFrame c = (sym (lost _ _ (sym c.from.ensures) c.in-LostFrame.is), omega arith)

pub returns-in-Slot : goal.returns-in-Slot
returns-in-Slot c =
    let e = sym c.from.ensures ∙ c.in-Slot.is in
    (c.slot_size.ensures.0 ∙ sym (size-by _ _ e), c.slot_size.ensures.1)

pub returns-in-Unknown : goal.returns-in-Unknown
returns-in-Unknown c = (sym (size-by _ _ (sym c.from.ensures ∙ c.in-Unknown.is)), omega arith)
