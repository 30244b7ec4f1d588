-- A capture without an accepted C has no event.
use Prim.Native.Nat.{ℕ, zero, suc}
use mathlib.Core.Path.{◌≡◌, refl, ap, ◌∙◌}
use mathlib.Core.Bool.{Bool, true, false}
use mathlib.Core.List.{List, [], ◌∷◌}
use native.Mathlib.Omega.{arith}
use lib.Dec.{eqb}
use lib.ListN.{length, get_or, take}
use borrow.Author.Tests.{ne_eqb}
use Rattle.state.specs.Start.{start_of}
use Rattle.capture.specs.declared.command.Letter.{Letter}
use Rattle.capture.specs.declared.command.Letter.TheVariants.{Start, Frame, LostFrame, Slot, LostSlot, Unknown}
use Rattle.capture.specs.declared.session.Phase.TheVariants.{Before}
use Rattle.capture.specs.Command.{letter_of, size_of, whole, config_of}
use Rattle.capture.proofs.CommandLaws.{size-by}
use Rattle.capture.specs.Session.{fresh_session}
use Rattle.capture.specs.Capture.{fits, call_of}
use Rattle.capture.proofs.Texts.{whole-size, size-whole}
use Rattle.capture_account.specs.Events.{meaning_by, meaning_of}
use Rattle.capture_account.specs.Claims.{config_in, HasC, Unstarted, CaptureWithoutC, CaptureRefusedC}
use Rattle.capture_account.proofs.Accounts.{front-letter, done-unfit, done_refused, onward, fresh-before, fresh_waited, fresh_drained, fresh_means}

-- the first command: none is whole, it is not C, or start refuses it
module _ (f : ℕ) (p c b : List ℕ) where
  none-whole : whole b ≡ false → Unstarted (onward f fresh_session p c b) []
  unfolding onward fresh_session
  none-whole h = rw h (record { events = refl; refusal = refl; frames = refl })

  module _ (wh : whole b ≡ true) (w : Letter) (lw : letter_of (get_or b 0 0) ≡ w) where
    letter : letter_of (get_or (take (size_of b) b) 0 0) ≡ w
    letter = ap letter_of (front-letter b (whole-size b wh).0) ∙ lw

    not_c : fits Before w ≡ false → Unstarted (onward f fresh_session p c b) []
    unfolding onward
    not_c h =
        let d = done-unfit fresh_session p c (take (size_of b) b) w letter (rw fresh-before h) in
        rw (wh, d.0, d.1, fresh-before) (record { events = refl; refusal = refl; frames = unfold fresh_session in refl })

  refused_c : whole b ≡ true → letter_of (get_or b 0 0) ≡ Start → ((start_of (config_in b)).refusal ≡ 0 → ⊥)
      → Unstarted (onward f fresh_session p c b) ((start_of (config_in b)).refusal ∷ [])
  unfolding onward call_of
  refused_c wh lw n =
      let x = take (size_of b) b in
      let e : config_of x ≡ config_in b = ap (λ (k : ℕ). config_of (take k b)) (size-by b Start lw) in
      let z : eqb (start_of (config_of x)).refusal 0 ≡ false = rw e (ne_eqb _ _ n) in
      let d = done_refused fresh_session p c x Start (letter wh Start lw) (rw fresh-before refl) (start_of (config_of x)) p (unfold fresh_session in refl) z in
      rw (wh, d.0, d.1, fresh-before) (record { events = refl; refusal = rw e refl; frames = unfold fresh_session in refl })

-- C is the first command that fits
without_c : (f : ℕ) (p c b : List ℕ) (w : Letter) → whole b ≡ true → letter_of (get_or b 0 0) ≡ w → (HasC b → ⊥)
    → Unstarted (onward f fresh_session p c b) []
without_c f p c b Start wh lw h = absurd (h (record { first = lw; long = omega (arith, whole-size b wh, size-by b Start lw) }))
without_c f p c b Frame wh lw h = not_c f p c b wh Frame lw refl
without_c f p c b LostFrame wh lw h = not_c f p c b wh LostFrame lw refl
without_c f p c b Slot wh lw h = not_c f p c b wh Slot lw refl
without_c f p c b LostSlot wh lw h = not_c f p c b wh LostSlot lw refl
without_c f p c b Unknown wh lw h = not_c f p c b wh Unknown lw refl

pub capture_without_c : CaptureWithoutC
unfolding meaning_of
capture_without_c p c b h = go (length b) refl
  where
    by : (f : ℕ) (wb : Bool) → whole b ≡ wb → Unstarted (onward f fresh_session p c b) []
    by f true e = without_c f p c b (letter_of (get_or b 0 0)) e refl h
    by f false e = none-whole f p c b e

    go : (n : ℕ) → length b ≡ n → Unstarted (meaning_by n fresh_session p c b) []
    go zero e = unfold meaning_by in rw (fresh_waited p c, fresh_drained p c)
        (record { events = refl; refusal = refl; frames = unfold fresh_session in refl })
    go (suc f) e = rw (fresh_means f p c b) (by f (whole b) refl)

pub capture_refused_c : CaptureRefusedC
unfolding meaning_of
capture_refused_c p c b h n = go (length b) refl
  where
    go : (k : ℕ) → length b ≡ k → Unstarted (meaning_by k fresh_session p c b) ((start_of (config_in b)).refusal ∷ [])
    go zero e = absurd (omega (arith, h.long, e))
    go (suc f) e =
        let s = size-by b Start h.first in
        rw (fresh_means f p c b) (refused_c f p c b (size-whole b (omega (arith, s)) (omega (arith, s, h.long))) h.first n)
