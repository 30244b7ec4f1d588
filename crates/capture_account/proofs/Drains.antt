-- Calls of next until nothing waits, by a session of the capture: its events are those that the calls show.
use Prim.Native.Nat.{ℕ, zero, suc, ◌<◌}
use mathlib.Core.Path.{◌≡◌, refl, sym, ap, ◌∙◌}
use mathlib.Core.Bool.{Bool, true, false}
use mathlib.Core.List.{List, [], ◌∷◌}
use native.Mathlib.Omega.{arith}
use lib.ListN.{length}
use Rattle.queue.specs.Event.{Nothing, Note, Unit, Refused}
use Rattle.state.specs.State.{Answer, State, with_owed}
use Rattle.frames.specs.Slot.{short_by}
use Rattle.receiver.specs.Show.{show_of}
use Rattle.receiver.specs.Next.{NextOut, next_of}
use Rattle.receiver.proofs.NextLaws.{next-short, next-idle}
use Rattle.lines.specs.Line.{is_line}
use Rattle.capture.specs.declared.session.Phase.TheVariants.{Reading}
use Rattle.capture.specs.Session.{Session, with_tally}
use Rattle.capture.specs.declared.session.Tally.{Tally}
use Rattle.capture.specs.Waits.{waits}
use Rattle.capture.proofs.WaitsLaws.{next-falls, next-owes}
use Rattle.capture.specs.Capture.{Drained, event_by, tallied, closed, drained_by, drained_of}
use Rattle.capture.proofs.Drains.{drain-idle}
use Rattle.broadcast.specs.Drains.{Shown, note, shown, Drains, stops, notes, units}
use Rattle.capture_account.specs.Events.{Placed, Waited, placed_as, waited_then, waited_by, waited_of}
use Rattle.capture_account.specs.Places.{placed_at}
use Rattle.receiver.proofs.Lengths.{GiveLies, next_lies}

-- a session that reads
abbrev pub session : State → Tally → Session
session st t = record { phase = Reading; state = st; tally = t }

-- what next gave and left, nothing waiting any more
pub record Settles (t : Tally) (d : Drained) (g : Waited) (es : List Shown) (st : State) (c : List ℕ) : Type 0 where
  pub events : g.events ≡ placed_at t.frames t.slot es
  pub calm : g.refusals ≡ []
  pub frames : d.session.tally.frames ≡ t.frames
  pub phase : d.session.phase ≡ Reading
  pub state : d.session.state ≡ st
  pub collecting : d.collecting ≡ c

abbrev pub Settled : Session → List ℕ → List ℕ → List Shown → State → List ℕ → Type 0
Settled s p c es st c' = Settles s.tally (drained_of s p c) (waited_of s p c) es st c'

-- one call of next
module _ (n : ℕ) (st : State) (t : Tally) (p c : List ℕ) (o : st.owed ≡ true) (a : Answer) (c' : List ℕ)
    (e : next_of st p c ≡ (a, c')) where
  drained_next : drained_by (suc n) (session st t) p c ≡ event_by a.event (session a.state t) c' (λ s d. drained_by n s p d)
  unfolding drained_by
  drained_next = rw (e, o)

  waited_next : waited_by (suc n) (session st t) p c
      ≡ waited_then a.event t p c' (waited_by n (with_tally (session a.state t) (tallied t a.event)) p c')
  unfolding waited_by
  waited_next = rw (e, o)

  module _ (l : is_line a.event ≡ true) where
    less : waits a.state p < waits st p
    less = rw e at (next-falls p st c (rw e l))

    owes : a.state.owed ≡ true
    owes = (rw e at (next-owes p st c (rw e l))) ∙ o

paid-same : (st : State) → st.owed ≡ false → with_owed st false ≡ st
paid-same st h = ap (λ (o : Bool). with_owed st o) (sym h)

module _ (p : List ℕ) where
  drains-by : {st st' : State} {c c' : List ℕ} {es : List Shown} → Drains p st c es st' c' → (n : ℕ) (t : Tally) → st.owed ≡ true
      → st'.owed ≡ false → waits st p < n → GiveLies st.queue.give p c
      → Settles t (drained_by n (session st t) p c) (waited_by n (session st t) p c) es st' c'
  unfolding tallied closed
  drains-by d zero t o q l v = absurd (omega arith)
  drains-by (stops {st} {st'} {c} {c'} e) (suc n) t o q l v =
      let a : Answer = record { event = Nothing; state = st' } in
      rw (drained_next n st t p c o a c' e, waited_next n st t p c o a c' e)
      (record { events = refl; calm = refl; frames = refl; phase = refl; state = paid-same st' q; collecting = refl })
  drains-by (notes {st} {st'} {st''} {c} {c'} {c''} {n = m} {id} {es} e d) (suc n) t o q l v =
      let a : Answer = record { event = Note m id; state = st' } in
      let w = less n st t p c o a c' e refl in
      let i = drains-by {st = st'} {st' = st''} {c = c'} {c' = c''} {es = es} d n (tallied t (Note m id)) (owes n st t p c o a c' e refl) q (omega arith) (rw e at (next_lies st p c v)).1 in
      rw (drained_next n st t p c o a c' e, waited_next n st t p c o a c' e)
      (record {
        events = ap (λ (r : List Placed). placed_as t (note m id) 0 ∷ r) i.events;
        calm = i.calm;
        frames = i.frames;
        phase = i.phase;
        state = i.state;
        collecting = i.collecting;
      })
  drains-by (units {st} {st'} {st''} {c} {c'} {c''} {g} {es} e d) (suc n) t o q l v =
      let a : Answer = record { event = Unit g; state = st' } in
      let w = less n st t p c o a c' e refl in
      let i = drains-by {st = st'} {st' = st''} {c = c'} {c' = c''} {es = es} d n (tallied t (Unit g)) (owes n st t p c o a c' e refl) q (omega arith) (rw e at (next_lies st p c v)).1 in
      let k = (rw e at (next_lies st p c v)).0 in
      rw (drained_next n st t p c o a c' e, waited_next n st t p c o a c' e)
      (record {
        events = ap (λ (m : ℕ). placed_as t (shown g p c') m ∷ (waited_by n (session st' (tallied t (Unit g))) p c').events) (sym k)
            ∙ ap (λ (r : List Placed). placed_as t (shown g p c') (length (show_of p c' g.place)) ∷ r) i.events;
        calm = i.calm;
        frames = i.frames;
        phase = i.phase;
        state = i.state;
        collecting = i.collecting;
      })

  -- nothing is owed: next says so
  Idle : {A : Type 0} → List A → State → State → List ℕ → List ℕ → Type 0
  Idle es st st' c c' = (es ≡ []) × (st' ≡ st) × (c' ≡ c)

  idle-next : (st st' : State) (c c' : List ℕ) (a : Answer) → st.owed ≡ false → next_of st p c ≡ (a, c')
      → (is_line a.event ≡ false) × (a.event ≡ Nothing → (a.state ≡ st) × (c' ≡ c))
  idle-next st st' c c' a o e = go (short_by st.config (length p) (length c)) refl
    where
      go : (b : Bool) → short_by st.config (length p) (length c) ≡ b
          → (is_line a.event ≡ false) × (a.event ≡ Nothing → (a.state ≡ st) × (c' ≡ c))
      go true h =
          let z : ◌≡◌ {A = NextOut} (a, c') (record { event = Refused 22; state = st }, c) = sym e ∙ next-short st p c h in
          let w : a.event ≡ Refused 22 = ap (λ (x : NextOut). x.0.event) z in
          (rw w refl, λ q. let y : ◌≡◌ {A = ℕ} 0 1 = cc in absurd (omega arith))
      go false h =
          let z : ◌≡◌ {A = NextOut} (a, c') (record { event = Nothing; state = st }, c) = sym e ∙ next-idle st p c h o in
          let w : a.event ≡ Nothing = ap (λ (x : NextOut). x.0.event) z in
          (rw w refl, λ q. (ap (λ (x : NextOut). x.0.state) z, ap (λ (x : NextOut). x.1) z))

  idle-drains : {st st' : State} {c c' : List ℕ} {es : List Shown} → Drains p st c es st' c' → st.owed ≡ false → Idle es st st' c c'
  unfolding Idle
  idle-drains (stops {st} {st'} {c} {c'} e) o =
      let w = (idle-next st st' c c' (record { event = Nothing; state = st' }) o e).1 refl in
      (refl, w.0, w.1)
  idle-drains (notes {st} {st'} {st''} {c} {c'} {c''} {n = m} {id} {es} e d) o =
      let w : true ≡ false = (idle-next st st' c c' (record { event = Note m id; state = st' }) o e).0 in
      let y : ◌≡◌ {A = ℕ} 0 1 = cc in
      absurd (omega arith)
  idle-drains (units {st} {st'} {st''} {c} {c'} {c''} {g} {es} e d) o =
      let w : true ≡ false = (idle-next st st' c c' (record { event = Unit g; state = st' }) o e).0 in
      let y : ◌≡◌ {A = ℕ} 0 1 = cc in
      absurd (omega arith)

  pub idle-settled : (s : Session) (c : List ℕ) → s.phase ≡ Reading → s.state.owed ≡ false → Settled s p c [] s.state c
  unfolding waited_of waited_by
  idle-settled s c h o =
      rw (drain-idle s p c (rw (h, o)), h, o)
      (record { events = refl; calm = refl; frames = refl; phase = refl; state = refl; collecting = refl })

  pub settle : {st st' : State} {c c' : List ℕ} {es : List Shown} → Drains p st c es st' c' → (t : Tally) → st'.owed ≡ false
      → GiveLies st.queue.give p c → Settled (session st t) p c es st' c'
  unfolding drained_of waited_of Idle
  settle {st} {st'} {c} {c'} {es} d t q v = go st.owed refl
    where
      go : (b : Bool) → st.owed ≡ b → Settled (session st t) p c es st' c'
      go true o = drains-by d (suc (waits st p)) t o q (omega arith) v
      go false o =
          let i = idle-drains d o in
          rw (i.0, i.1, i.2) (idle-settled (session st t) c refl o)
