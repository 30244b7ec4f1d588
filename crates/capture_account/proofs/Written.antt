-- A list of calls that is written is read back.
use Prim.Native.Nat.{ℕ, zero, suc, ◌+◌, ◌*◌, ◌/◌, ◌%◌, ◌≤◌}
use mathlib.Core.Path.{◌≡◌, refl, sym, ap, ◌∙◌}
use mathlib.Core.Bool.{true}
use mathlib.Core.List.{List, [], ◌∷◌, ◌++◌}
use native.Mathlib.Omega.{arith}
use native.Mathlib.Nat.{div-add-mod'}
use lib.ListN.{length, get_or, length-append, get_or-append}
use lib.Seq.{take_at, drop_at}
use Rattle.wire.proofs.FieldLaws.{be-2}
use Rattle.capture.specs.declared.command.Letter.{Letter}
use Rattle.capture.specs.declared.command.Letter.TheVariants.{Frame, LostFrame, Slot, LostSlot}
use Rattle.capture.specs.Command.{letter_of, size_of, slot_size, whole}
use Rattle.capture.proofs.CommandLaws.{size-by, size-kept, size_none, slot-size-known}
use Rattle.capture.proofs.Texts.{size-whole}
use Rattle.broadcast.specs.Calls.{Call, frame, lost-frame, slot, lost-slot, next}
use Rattle.capture_account.specs.Calls.{call_then, command_calls_by}
use Rattle.capture_account.specs.Written.{command_bytes, calls_bytes, CanWrite, CanWriteAll}
use Rattle.capture_account.proofs.Accounts.{calls-none, calls-some}

-- the bytes of a command, and more behind them
module _ (x rest : List ℕ) (w : Letter) (l : letter_of (get_or x 0 0) ≡ w) (s : size_of x ≡ length x) (h : 1 ≤ length x) where
  size-front : size_of (x ++ rest) ≡ length x
  size-front = size-kept x rest h (omega arith) ∙ s

  whole-front : whole (x ++ rest) ≡ true
  whole-front = size-whole (x ++ rest) (omega (arith, size-front)) (omega (arith, size-front, length-append x rest))

  parse_by : (f : ℕ) → command_calls_by (suc f) (x ++ rest) ≡ call_then w x (command_calls_by f rest)
  parse_by f =
      calls-some f (x ++ rest) whole-front
      ∙ rw (
        size-front,
        ap letter_of (get_or-append x rest 0 0 h) ∙ l,
        take_at x rest (length x) refl,
        drop_at x rest (length x) refl,
      )

-- F and S are as long as they say
frame-size : (b : List ℕ) → length b ≡ 1178 → size_of (70 ∷ b) ≡ length (70 ∷ b)
unfolding letter_of
frame-size b h = size-by (70 ∷ b) Frame refl ∙ sym (ap suc h)

slot-size : (d : List ℕ) → length d ≤ 65535
    → let x : List ℕ = 83 ∷ length d / 256 ∷ length d % 256 ∷ d in size_of x ≡ length x
unfolding letter_of
slot-size d h =
    let x : List ℕ = 83 ∷ length d / 256 ∷ length d % 256 ∷ d in
    let n : slot_size x ≡ 3 + (length d / 256 * 256 + length d % 256) % 65536 =
    slot-size-known x (omega arith) ∙ rw (be-2 x 1) in
    let k = div-add-mod' (length d) 256 in
    let z : slot_size x ≡ 3 + length d = rw k at n ∙ omega arith in
    size-by x Slot refl ∙ z ∙ omega arith

module _ (f : ℕ) (rest : List ℕ) where
  parse_frame : (b : List ℕ) → length b ≡ 1178 → command_calls_by (suc f) ((70 ∷ b) ++ rest) ≡ frame b ∷ command_calls_by f rest
  unfolding letter_of
  parse_frame b h = parse_by (70 ∷ b) rest Frame refl (frame-size b h) (omega arith) f

  parse_slot : (d : List ℕ) → length d ≤ 65535
      → command_calls_by (suc f) ((83 ∷ length d / 256 ∷ length d % 256 ∷ d) ++ rest) ≡ slot d ∷ command_calls_by f rest
  unfolding letter_of
  parse_slot d h = parse_by (83 ∷ length d / 256 ∷ length d % 256 ∷ d) rest Slot refl (slot-size d h) (omega arith) f

  parse_loss : command_calls_by (suc f) ((88 ∷ []) ++ rest) ≡ lost-frame ∷ command_calls_by f rest
  unfolding letter_of
  parse_loss = parse_by (88 ∷ []) rest LostFrame refl (size-by (88 ∷ []) LostFrame refl) (omega arith) f

  parse_lost : command_calls_by (suc f) ((76 ∷ []) ++ rest) ≡ lost-slot ∷ command_calls_by f rest
  unfolding letter_of
  parse_lost = parse_by (76 ∷ []) rest LostSlot refl (size-by (76 ∷ []) LostSlot refl) (omega arith) f

  parse_one : (k : Call) → CanWrite k → command_calls_by (suc f) (command_bytes k ++ rest) ≡ k ∷ command_calls_by f rest
  unfolding command_bytes
  parse_one (frame b) h = parse_frame b h
  parse_one lost-frame h = parse_loss
  parse_one (slot d) h = parse_slot d h
  parse_one lost-slot h = parse_lost
  parse_one next h = absurd h

some-text : (k : Call) → CanWrite k → 1 ≤ length (command_bytes k)
unfolding command_bytes
some-text (frame b) h = omega arith
some-text lost-frame h = omega arith
some-text (slot d) h = omega arith
some-text lost-slot h = omega arith
some-text next h = absurd h

none-parsed : (f : ℕ) → command_calls_by f [] ≡ []
unfolding command_calls_by
none-parsed zero = refl
none-parsed (suc f) = calls-none f [] (unfold whole in rw (size_none [] refl))

pub calls-parsed : (ks : List Call) (f : ℕ) → CanWriteAll ks → length (calls_bytes ks) ≤ f → command_calls_by f (calls_bytes ks) ≡ ks
unfolding calls_bytes
calls-parsed [] f a h = none-parsed f
calls-parsed (k ∷ ks) zero a h =
    absurd (omega (arith, some-text k a.0, length-append (command_bytes k) (calls_bytes ks)))
calls-parsed (k ∷ ks) (suc f) a h =
    parse_one f (calls_bytes ks) k a.0
    ∙ ap (λ (r : List Call). k ∷ r)
    (calls-parsed ks f a.1 (omega (arith, some-text k a.0, length-append (command_bytes k) (calls_bytes ks))))
