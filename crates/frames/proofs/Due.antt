-- The slot that is due, by the words of the state; and a slot that is counted and taken.
use Rattle.std.specs.Prelude.{ℕ, ◌<◌, ◌≡◌, Bool, true, List, length, get_or}
use Rattle.std.proofs.Common.{sym, ◌∙◌, ap}
use Rattle.std.proofs.Math.Bool.{false}
use Rattle.wire.proofs.TabLaws.{get_or-tab}
use Rattle.tmcc.specs.declared.layout.Pointers.{Pointers}
use Rattle.intake.specs.declared.held.Held.{Held}
use Rattle.intake.specs.declared.held.Intake.{Intake}
use Rattle.intake.specs.Slot.{IntakeOut, intake_of}
use Rattle.words.specs.Cursor.{read_held}
use Rattle.state.specs.State.{State, with_intake, accepted}
use Rattle.state.specs.Words.{pointers_in, length_in, own_in, layout_in, state_in}
use Rattle.frames.specs.Slot.{slot_refusal, wrong_length, due_length, due_own, due_pointers, counted, slot_of}
use Rattle.frames.proofs.SlotLaws.{slot-own}
use Rattle.state.proofs.LentLaws.{held_in}

module _ (t : List ℕ) (h : (state_in t).frame.at < 120) where
  pub due-first : get_or t 20 0 < 120
  unfolding state_in
  due-first = h

  pub due-length : due_length (state_in t) ≡ length_in t (get_or t 20 0)
  unfolding state_in layout_in
  due-length = get_or-tab (length_in t) 120 (get_or t 20 0) 0 due-first

  pub due_wrong : (n l : ℕ) (b : Bool) → n ≡ length_in t (get_or t 20 0) → wrong_length n l ≡ b → wrong_length (due_length (state_in t)) l ≡ b
  due_wrong n l b e w = rw (due-length, ← e) w

  pub due-own : due_own (state_in t) ≡ own_in t (get_or t 20 0)
  unfolding state_in layout_in
  due-own = get_or-tab (own_in t) 120 (get_or t 20 0) false due-first

  pub due-pointers : due_pointers (state_in t) ≡ pointers_in t (get_or t 20 0)
  unfolding state_in layout_in
  due-pointers = get_or-tab (pointers_in t) 120 (get_or t 20 0) (record { 0 = 0; 1 = 0 }) due-first

-- an own live slot that is counted and taken
pub slot-settled : (t u p c d q : List ℕ) (h : Held) (x : Pointers) (k : Intake) → slot_refusal (state_in t) (length p) (length c) ≡ 0
    → wrong_length (due_length (state_in t)) (length d) ≡ false → due_own (state_in t) ≡ true → state_in u ≡ counted (state_in t)
    → h ≡ read_held u 22 → x ≡ due_pointers (state_in t) → (k, q) ≡ intake_of h p d x
    → slot_of (state_in t) p c d ≡ (accepted (with_intake (counted (state_in t)) k), q)
slot-settled t u p c d q h x k z w o n e f g =
    let st = state_in t in
    let held : h ≡ (counted st).held = e ∙ sym (held_in u) ∙ ap (λ (s : State). s.held) n in
    let taken : (k, q) ≡ intake_of (counted st).held p d (due_pointers st) =
    g ∙ ap (λ (y : Held). intake_of y p d x) held ∙ ap (λ (y : Pointers). intake_of (counted st).held p d y) f in
    slot-own st p c d z w o ∙ ap (λ (y : IntakeOut). (accepted (with_intake (counted st) y.0), y.1)) (sym taken)
