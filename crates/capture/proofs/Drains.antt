-- Calling next until nothing waits, one call at a time.
use Rattle.std.specs.Prelude.{◌≡◌, ℕ, suc, ◌<◌, false, cond, List, []}
use Rattle.std.proofs.Common.{◌∙◌, ap, arith}
use Rattle.receiver.specs.Next.{next_of}
use Rattle.capture.specs.Session.{Session, busy, with_state}
use Rattle.lines.specs.Line.{is_line}
use Rattle.capture.specs.Waits.{waits}
use Rattle.capture.proofs.WaitsLaws.{next-falls}
use Rattle.capture.proofs.Bounded.{same-on, enough}
use Rattle.capture.specs.Capture.{Drained, behind, event_by, event_line, drained_by, drained_of}

-- nothing was called
abbrev pub still : Session → List ℕ → Drained
still s c = record { text = []; session = s; collecting = c }

-- one call, and then `on`
abbrev drain_on : Session → List ℕ → List ℕ → (Session → List ℕ → Drained) → Drained
drain_on s p c on =
    let r = next_of s.state p c in
    cond (busy s) (event_by r.0.event (with_state s r.0.state) r.1 on) (still s c)

-- two ways of going on that agree where less waits
drain-same : (s : Session) (p c : List ℕ) (f g : Session → List ℕ → Drained)
    → ((t : Session) (d : List ℕ) → waits t.state p < waits s.state p → f t d ≡ g t d) → drain_on s p c f ≡ drain_on s p c g
drain-same s p c f g k =
    let r = next_of s.state p c in
    same-on (busy s) _ _ _
    (λ b. same-on (is_line r.0.event) _ _ _
    (λ i. ap (behind (event_line s.tally r.0.event)) (k _ r.1 (next-falls p s.state c i))))

drain-enough : (f g : ℕ) (s : Session) (p c : List ℕ) → waits s.state p < f → waits s.state p < g
    → drained_by f s p c ≡ drained_by g s p c
unfolding drained_by
drain-enough f g s p c =
    enough {X = Session × List ℕ} (λ x. waits x.0.state p) (λ n x. drained_by n x.0 p x.1)
    (λ m n x k. drain-same x.0 p x.1 _ _ (λ t d l. k (t, d) l)) f g (s, c)

module _ (s : Session) (p c : List ℕ) where
  pub drain-step : let r = next_of s.state p c in
      drained_of s p c
      ≡ cond (busy s) (event_by r.0.event (with_state s r.0.state) r.1 (λ t d. drained_of t p d)) (still s c)
  unfolding drained_of drained_by
  drain-step =
      drain-same s p c _ _ (λ t d l. drain-enough (waits s.state p) (suc (waits t.state p)) t p d l (omega arith))

  pub drain-idle : busy s ≡ false → drained_of s p c ≡ still s c
  drain-idle h = drain-step ∙ rw h
