-- The lines of a capture, one command at a time.
use Rattle.std.proofs.Common.{◌≡◌, ℕ, zero, suc, ◌≤◌, Bool, true, false, cond, not, eqb, leb, List, ◌++◌, length, take, drop, sym, refl, ap, ◌∙◌, append_assoc, arith, length-drop, ne_eqb, le-leb, leb-true}
use mathlib.Core.Bool.{and-eq-true_iff}
use borrow.Author.Tests.{eqb-false, not-true}
use Rattle.capture.specs.Session.{Session, is_ended}
use Rattle.capture.specs.Command.{size_of, whole}
use Rattle.capture.specs.Capture.{Drained, behind, done_of, drained_of, reads, last_line, text_by, text_of}

-- a command that is read has its bytes
pub whole-size : (b : List ℕ) → whole b ≡ true → (1 ≤ size_of b) × (size_of b ≤ length b)
unfolding whole
whole-size b e =
    let p = (and-eq-true_iff (not (eqb (size_of b) 0)) (leb (size_of b) (length b))).0 e in
    let z = eqb-false (size_of b) 0 (not-true _ p.0) in
    (omega arith, leb-true _ _ p.1)

pub size-whole : (b : List ℕ) → 1 ≤ size_of b → size_of b ≤ length b → whole b ≡ true
unfolding whole
size-whole b h l = rw (ne_eqb (size_of b) 0 (λ q. omega arith), le-leb _ _ l)

-- from what next gave on: a command is read, and `f` goes on behind it, or the last line comes
abbrev pub on_from : Drained → List ℕ → List ℕ → (Session → List ℕ → List ℕ → List ℕ → List ℕ) → List ℕ
on_from d p b f =
    let k = done_of d.session p d.collecting (take (size_of b) b) in
    d.text
    ++ cond (reads d.session b) (k.text ++ f k.session k.packet d.collecting (drop (size_of b) b))
    (last_line d.session.tally)

on_same : (d : Drained) (p b : List ℕ) (f g : Session → List ℕ → List ℕ → List ℕ → List ℕ)
    → ((1 ≤ size_of b) × (size_of b ≤ length b)
    → (s : Session) (p c : List ℕ) → f s p c (drop (size_of b) b) ≡ g s p c (drop (size_of b) b))
    → on_from d p b f ≡ on_from d p b g
on_same d p b f g h = go (reads d.session b) refl
  where
    go : (t : Bool) → reads d.session b ≡ t → on_from d p b f ≡ on_from d p b g
    go true e =
        let z = whole-size b ((and-eq-true_iff (whole b) (not (is_ended d.session.phase))).0 e).0 in
        let k = done_of d.session p d.collecting (take (size_of b) b) in
        rw e (ap (λ (x : List ℕ). d.text ++ (k.text ++ x)) (h z k.session k.packet d.collecting))
    go false e = rw e

-- more commands than bytes change nothing
text-enough : (f g : ℕ) (s : Session) (p c b : List ℕ) → length b ≤ f → length b ≤ g → text_by f s p c b ≡ text_by g s p c b
unfolding text_by
text-enough zero zero s p c b h k = refl
text-enough zero (suc g) s p c b h k = go (reads (drained_of s p c).session b) refl
  where
    go : (t : Bool) → reads (drained_of s p c).session b ≡ t → text_by zero s p c b ≡ on_from (drained_of s p c) p b (text_by g)
    go true e =
        let z = whole-size b ((and-eq-true_iff (whole b) (not (is_ended (drained_of s p c).session.phase))).0 e).0 in
        absurd (omega arith)
    go false e = rw e
text-enough (suc f) zero s p c b h k = go (reads (drained_of s p c).session b) refl
  where
    go : (t : Bool) → reads (drained_of s p c).session b ≡ t → on_from (drained_of s p c) p b (text_by f) ≡ text_by zero s p c b
    go true e =
        let z = whole-size b ((and-eq-true_iff (whole b) (not (is_ended (drained_of s p c).session.phase))).0 e).0 in
        absurd (omega arith)
    go false e = rw e
text-enough (suc f) (suc g) s p c b h k =
    on_same (drained_of s p c) p b (text_by f) (text_by g)
    (λ z t q d. let l = length-drop (size_of b) b in text-enough f g t q d (drop (size_of b) b) (omega arith) (omega arith))

module _ (s : Session) (p c b : List ℕ) where
  pub text-step : text_of s p c b ≡ on_from (drained_of s p c) p b text_of
  unfolding text_of
  text-step =
      text-enough (length b) (suc (length b)) s p c b (omega arith) (omega arith)
      ∙ (unfold text_by in
      on_same (drained_of s p c) p b (text_by (length b)) (λ t q d x. text_by (length x) t q d x)
      (λ z t q d. let l = length-drop (size_of b) b in
      text-enough (length b) (length (drop (size_of b) b)) t q d (drop (size_of b) b) (omega arith) (omega arith)))

-- what next gave, and then the rest
pub text-behind : (s : Session) (p c b t : List ℕ) (s' : Session) (c' : List ℕ) → drained_of s p c ≡ behind t (drained_of s' p c')
    → text_of s p c b ≡ t ++ text_of s' p c' b
text-behind s p c b t s' c' e =
    text-step s p c b ∙ ap (λ (d : Drained). on_from d p b text_of) e
    ∙ append_assoc t (drained_of s' p c').text _ ∙ ap (λ (x : List ℕ). t ++ x) (sym (text-step s' p c' b))
