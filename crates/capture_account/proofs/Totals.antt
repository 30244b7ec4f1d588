-- The totals of a capture are how many units and notes its events have.
use Prim.Native.Nat.{ℕ, zero, suc, ◌+◌, ◌%◌, ◌^◌, ◌<◌}
use mathlib.Core.Path.{◌≡◌, refl, ◌∙◌}
use mathlib.Core.Bool.{Bool, true, false, cond}
use mathlib.Core.List.{List, [], ◌∷◌, ◌++◌}
use native.Mathlib.Omega.{arith}
use lib.ListN.{length, get_or, take, drop}
use lib.Dec.{eqb}
use Rattle.wire.proofs.Choice.{either}
use Rattle.queue.specs.Event.{Event}
use Rattle.queue.specs.Event.{Nothing, Note, Unit, Refused}
use Rattle.state.specs.State.{Called, State}
use Rattle.receiver.specs.Next.{next_of}
use Rattle.capture.specs.declared.command.Letter.{Letter}
use Rattle.capture.specs.declared.command.Letter.TheVariants.{Start, Frame, LostFrame, Slot, LostSlot, Unknown}
use Rattle.capture.specs.Session.{Session, is_ended, busy, with_state, with_tally, fresh_session}
use Rattle.capture.specs.declared.session.Tally.{Tally}
use Rattle.capture.specs.Command.{letter_of, size_of}
use Rattle.capture.specs.Capture.{Done, Drained, fits, call_of, after_call, done_of, tallied, closed, event_by, drained_by, drained_of, reads}
use Rattle.capture.proofs.Drains.{still}
use Rattle.broadcast.specs.Drains.{Shown, note, unit}
use Rattle.broadcast.specs.Demand3.{units_of}
use Rattle.capture_account.specs.Events.{
  Placed,
  Meaning,
  Waited,
  nothing_waited,
  waited_then,
  waited_by,
  waited_of,
  command_refusal,
  no_more,
  meaning_by,
  meaning_of,
  shown_in,
  note_count,
}
use Rattle.capture_account.specs.Claims.{TotalsClaim}

-- counts that have 64 bits
record Small (t : Tally) : Type 0 where
  units : t.units < 2 ^ 64
  notes : t.notes < 2 ^ 64

-- u is t and what the events have
record Adds (t u : Tally) (es : List Placed) : Type 0 where
  units : u.units ≡ (t.units + length (units_of (shown_in es))) % 2 ^ 64
  notes : u.notes ≡ (t.notes + note_count (shown_in es)) % 2 ^ 64

-- u differs from t in the frame and the slot at most
record Keeps (t u : Tally) : Type 0 where
  units : u.units ≡ t.units
  notes : u.notes ≡ t.notes

adds_small : (t u : Tally) (es : List Placed) → Adds t u es → Small u
adds_small t u es a = record { units = omega (arith, a.units); notes = omega (arith, a.notes) }

keeps-small : (t u : Tally) → Keeps t u → Small t → Small u
keeps-small t u k s = record { units = rw k.units s.units; notes = rw k.notes s.notes }

keeps_adds : (t u : Tally) → Keeps t u → Small t → Adds t u []
keeps_adds t u k s =
    record {
      units = omega (arith, k.units, s.units);
      notes = omega (arith, k.notes, s.notes);
    }

kept : (t : Tally) → Keeps t t
kept t = record { units = refl; notes = refl }

adds_none : (t : Tally) → Small t → Adds t t []
adds_none t s = keeps_adds t t (kept t) s

adds_kept : (t u v : Tally) (es : List Placed) → Keeps t u → Adds u v es → Adds t v es
adds_kept t u v es k a =
    record {
      units = rw (← k.units) a.units;
      notes = rw (← k.notes) a.notes;
    }

-- one list of events behind another
module _ (b : List Placed) where
  units-append : (a : List Placed) → length (units_of (shown_in (a ++ b))) ≡ length (units_of (shown_in a)) + length (units_of (shown_in b))
  units-append [] = omega arith
  units-append (e ∷ a) = go e.shown (units-append a)
    where
      go : (s : Shown) → length (units_of (shown_in (a ++ b))) ≡ length (units_of (shown_in a)) + length (units_of (shown_in b))
          → length (units_of (s ∷ shown_in (a ++ b))) ≡ length (units_of (s ∷ shown_in a)) + length (units_of (shown_in b))
      go (note n id) h = h
      go (unit u) h = omega (arith, h)

  notes-append : (a : List Placed) → note_count (shown_in (a ++ b)) ≡ note_count (shown_in a) + note_count (shown_in b)
  notes-append [] = omega arith
  notes-append (e ∷ a) = go e.shown (notes-append a)
    where
      go : (s : Shown) → note_count (shown_in (a ++ b)) ≡ note_count (shown_in a) + note_count (shown_in b)
          → note_count (s ∷ shown_in (a ++ b)) ≡ note_count (s ∷ shown_in a) + note_count (shown_in b)
      go (note n id) h = omega (arith, h)
      go (unit u) h = h

  adds_append : (t u v : Tally) (a : List Placed) → Adds t u a → Adds u v b → Adds t v (a ++ b)
  adds_append t u v a x y =
      record {
        units = rw (units-append a) (y.units ∙ omega (arith, x.units));
        notes = rw (notes-append a) (y.notes ∙ omega (arith, x.notes));
      }

-- what next gave
module _ (p : List ℕ) where
  event_adds : (s : Session) (st : State) (c c' : List ℕ) (on : Session → List ℕ → Drained) (gon : Session → Waited) → Small s.tally
      → ((t : Session) → Small t.tally → Adds t.tally (on t c').session.tally (gon t).events) → (b : Bool) (e : Event)
      → Adds s.tally (cond b (event_by e (with_state s st) c' on) (still s c)).session.tally
      (cond b (waited_then e s.tally p c' (gon (with_tally (with_state s st) (tallied s.tally e)))) nothing_waited).events
  unfolding tallied closed
  event_adds s st c c' on gon z h false e = adds_none s.tally z
  event_adds s st c c' on gon z h true Nothing = adds_none s.tally z
  event_adds s st c c' on gon z h true (Note n id) =
      let i = h (with_tally (with_state s st) (tallied s.tally (Note n id)))
      (record { units = z.units; notes = omega arith }) in
      record { units = i.units; notes = i.notes ∙ omega arith }
  event_adds s st c c' on gon z h true (Unit g) =
      let i = h (with_tally (with_state s st) (tallied s.tally (Unit g)))
      (record { units = omega arith; notes = z.notes }) in
      record { units = i.units ∙ omega arith; notes = i.notes }
  event_adds s st c c' on gon z h true (Refused n) = adds_none s.tally z

  drain_adds : (f : ℕ) (s : Session) (c : List ℕ) → Small s.tally
      → Adds s.tally (drained_by f s p c).session.tally (waited_by f s p c).events
  unfolding drained_by waited_by
  drain_adds zero s c z = adds_none s.tally z
  drain_adds (suc f) s c z =
      let r = next_of s.state p c in
      event_adds s r.0.state c r.1 (λ t d. drained_by f t p d) (λ t. waited_by f t p r.1) z
      (λ t y. drain_adds f t r.1 y) (busy s) r.0.event

  waited_adds : (s : Session) (c : List ℕ) → Small s.tally
      → Adds s.tally (drained_of s p c).session.tally (waited_of s p c).events
  unfolding drained_of waited_of
  waited_adds s c z = drain_adds (suc _) s c z

-- a command
after-keeps : (l : Letter) (s : Session) → Keeps s.tally (after_call l s).tally
unfolding after_call
after-keeps Start s = record { units = refl; notes = refl }
after-keeps Frame s = record { units = refl; notes = refl }
after-keeps LostFrame s = record { units = refl; notes = refl }
after-keeps Slot s = record { units = refl; notes = refl }
after-keeps LostSlot s = record { units = refl; notes = refl }
after-keeps Unknown s = record { units = refl; notes = refl }

done-keeps : (s : Session) (p c b : List ℕ) → Keeps s.tally (done_of s p c b).session.tally
unfolding done_of
done-keeps s p c b =
    either Kept (fits s.phase l) (either Kept (eqb r.0.refusal 0) (after-keeps l (with_state s r.0.state)) (kept s.tally))
    (kept s.tally)
  where
    l : Letter
    l = letter_of (get_or b 0 0)

    r : Called × List ℕ
    r = call_of l s.state p c b

    Kept : Done → Type 0
    Kept k = Keeps s.tally k.session.tally

-- a command, and all behind it
abbrev Again : ℕ → Type 0
Again f =
    (s : Session) (p c b : List ℕ) → Small s.tally → Adds s.tally (meaning_by f s p c b).tally (meaning_by f s p c b).events

again-suc : (f : ℕ) → Again f → Again (suc f)
unfolding meaning_by
again-suc f again s p c b z = go (reads d.session b) (is_ended k.session.phase)
  where
    d : Drained
    d = drained_of s p c

    k : Done
    k = done_of d.session p d.collecting (take (size_of b) b)

    on : Meaning
    on = meaning_by f k.session k.packet d.collecting (drop (size_of b) b)

    x : List ℕ
    x = command_refusal d.session p d.collecting (take (size_of b) b)

    y : List ℕ
    y = (waited_of s p c).refusals

    a : Adds s.tally d.session.tally (waited_of s p c).events
    a = waited_adds p s c z

    small : Small d.session.tally
    small = adds_small _ _ _ a

    keeps : Keeps d.session.tally k.session.tally
    keeps = done-keeps d.session p d.collecting (take (size_of b) b)

    go : (r e : Bool) → let m : Meaning = cond r (cond e (no_more k.session x) on) (no_more d.session y) in
        Adds s.tally m.tally ((waited_of s p c).events ++ m.events)
    go true true = adds_append [] _ _ _ (waited_of s p c).events a (keeps_adds _ _ keeps small)
    go true false =
        adds_append on.events _ _ _ (waited_of s p c).events a
        (adds_kept _ _ _ on.events keeps
        (again k.session k.packet d.collecting (drop (size_of b) b) (keeps-small _ _ keeps small)))
    go false e = adds_append [] _ _ _ (waited_of s p c).events a (adds_none _ small)

meaning_adds : (f : ℕ) → Again f
unfolding meaning_by
meaning_adds zero s p c b z =
    let a = waited_adds p s c z in
    adds_append [] _ _ _ (waited_of s p c).events a (adds_none _ (adds_small _ _ _ a))
meaning_adds (suc f) s p c b z = again-suc f (meaning_adds f) s p c b z

pub capture_totals : TotalsClaim
unfolding meaning_of fresh_session
capture_totals p c b =
    let a =
    meaning_adds (length b) fresh_session p c b (record { units = omega arith; notes = omega arith }) in
    record { units = a.units ∙ omega arith; notes = a.notes ∙ omega arith }
