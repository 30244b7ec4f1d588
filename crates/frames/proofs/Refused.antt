-- Demand 1 of frame, lost frame, slot and lost slot; and whether a slot is refused goes by lengths alone.
use Prim.Native.Nat.{ℕ}
use mathlib.Core.Path.{◌≡◌, refl}
use mathlib.Core.Bool.{Bool, true, false, cond}
use mathlib.Core.List.{List}
use native.Mathlib.Omega.{arith}
use lib.ListN.{length}
use lib.Dec.{eqb, leb}
use Rattle.wire.proofs.Choice.{either}
use Rattle.tmcc.specs.declared.layout.Pointers.{Pointers}
use Rattle.tmcc.specs.Block.{decode_of}
use Rattle.tmcc.proofs.Laws.{refusal-number}
use Rattle.state.specs.State.{State, refused}
use Rattle.state.specs.Refused.{IsRefused, Kept, OneOf, KeepsState}
use Rattle.frames.specs.Frame.{frame_busy, frame_of, lost_frame_of}
use Rattle.frames.specs.Slot.{
  SlotOut,
  short_by,
  slot_refusal,
  wrong_length,
  due_length,
  due_own,
  due_pointers,
  slot_taken,
  slot_of,
  lost_slot_of,
}

slot_row : (st : State) (packet collecting : ℕ) → OneOf 20 22 (slot_refusal st packet collecting)
unfolding slot_refusal
slot_row st packet collecting =
    either (OneOf 20 22) (leb 120 st.frame.at) (λ z. (omega arith, omega arith))
    (either (OneOf 20 22) st.owed (λ z. (omega arith, omega arith))
    (either (OneOf 20 22) (short_by st.config packet collecting) (λ z. (omega arith, omega arith)) (λ z. absurd (z refl))))

module _ (st : State) where
  pub frame-kept : (b : List ℕ) → KeepsState 10 14 st (frame_of st b)
  unfolding frame_of
  frame-kept b =
      let d = decode_of b st.config.stream in
      either (KeepsState 10 14 st) (eqb (length b) 1178)
      (either (KeepsState 10 14 st) (frame_busy st) (λ z. record { number = (omega arith, omega arith); state = refl })
      (either (KeepsState 10 14 st) (eqb d.refusal 0) (λ z. absurd (z refl))
      (λ z. record { number = refusal-number b st.config.stream z; state = refl })))
      (λ z. record { number = (omega arith, omega arith); state = refl })

  pub lost-frame-kept : KeepsState 11 11 st (lost_frame_of st)
  unfolding lost_frame_of
  lost-frame-kept =
      either (KeepsState 11 11 st) (frame_busy st) (λ z. record { number = (omega arith, omega arith); state = refl }) (λ z. absurd (z refl))

  pub lost-slot-kept : (packet collecting : ℕ) → KeepsState 20 22 st (lost_slot_of st packet collecting)
  unfolding lost_slot_of
  lost-slot-kept packet collecting =
      either (KeepsState 20 22 st) (eqb (slot_refusal st packet collecting) 0) (λ z. absurd (z refl))
      (λ z. record { number = slot_row st packet collecting z; state = refl })

  -- slot's answer, with packet memory
  abbrev pub KeepsBoth : List ℕ → SlotOut → Type 0
  KeepsBoth p r = IsRefused r.0 → Kept 20 23 st r.0 × (r.1 ≡ p)

  taken-kept : (own : Bool) (p d : List ℕ) (t : Pointers) → KeepsBoth p (slot_taken own st p d t)
  taken-kept true p d t z = absurd (z refl)
  taken-kept false p d t z = absurd (z refl)

  pub slot_kept : (p c d : List ℕ) → KeepsBoth p (slot_of st p c d)
  unfolding slot_of
  slot_kept p c d =
      either (KeepsBoth p) (eqb (slot_refusal st (length p) (length c)) 0)
      (either (KeepsBoth p) (wrong_length (due_length st) (length d))
      (λ z. (record { number = (omega arith, omega arith); state = refl }, refl)) (taken-kept (due_own st) p d (due_pointers st)))
      (λ z.
      let n = slot_row st (length p) (length c) z in
      (record { number = (n.0, omega (arith, n.1)); state = refl }, refl))

  -- the number that slot answers, by lengths
  by_number : (a b own : Bool) (r : ℕ) (p d : List ℕ) (t : Pointers)
      → (cond a (cond b (refused 23 st, p) (slot_taken own st p d t)) (refused r st, p)).0.refusal ≡ cond a (cond b 23 0) r
  by_number true true own r p d t = refl
  by_number true false true r p d t = refl
  by_number true false false r p d t = refl
  by_number false b own r p d t = refl

  pub slot-number : (p c d : List ℕ) → let r = slot_refusal st (length p) (length c) in
      (slot_of st p c d).0.refusal ≡ cond (eqb r 0) (cond (wrong_length (due_length st) (length d)) 23 0) r
  unfolding slot_of
  slot-number p c d =
      let r = slot_refusal st (length p) (length c) in
      by_number (eqb r 0) (wrong_length (due_length st) (length d)) (due_own st) r p d (due_pointers st)
