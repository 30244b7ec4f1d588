-- Why many events for one call are what next gives, called that many times.
use Prim.Native.Nat.{ℕ, zero, suc}
use mathlib.Core.Path.{◌≡◌, refl, sym, ◌∙◌, ap}
use mathlib.Core.Bool.{Bool, true, false, true≢false}
use mathlib.Core.Logic.{◌⊎◌, inl, inr}
use mathlib.Core.List.{List, [], ◌∷◌}
use native.Mathlib.Omega.{arith}
use lib.ListN.{length}
use Rattle.queue.specs.Event.{Event}
use Rattle.state.specs.State.{State}
use Rattle.receiver.specs.Next.{NextOut, next_of}
use Rattle.calls.specs.Events.{Many, none, behind, is_given, is_joined, events_of}
use Rattle.calls.specs.Claims.{next_times, OnlyLastJoined, EndsJoined, Stopped, Ended, AsByNext, EventsClaim}

-- one event more in front
module _ (k : ℕ) (st : State) (p c : List ℕ) (r : NextOut) (e : next_of st p c ≡ r) (g : is_given r.0.event ≡ true) where
  times : (n : ℕ) (m : Many) → next_times n r.0.state p r.1 ≡ m → next_times (suc n) st p c ≡ behind r.0.event m
  unfolding next_times
  times n m h = rw (e, h)

  module _ (j : is_joined r.0.event ≡ false) where
    one : (es : List Event) → OnlyLastJoined es → OnlyLastJoined (r.0.event ∷ es)
    unfolding OnlyLastJoined
    one [] o = g
    one (f ∷ es) o = (g, j, o)

    ends : (es : List Event) → EndsJoined es → EndsJoined (r.0.event ∷ es)
    unfolding EndsJoined
    ends [] o = absurd o
    ends (f ∷ es) o = o

    unjoined : (es : List Event) → (EndsJoined es → ⊥) → EndsJoined (r.0.event ∷ es) → ⊥
    unfolding EndsJoined
    unjoined [] o h = true≢false (sym h ∙ j)
    unjoined (f ∷ es) o h = o h

    full : (m : Many) → Stopped k r.0.state p r.1 m → Stopped (suc k) st p c (behind r.0.event m)
    full m f =
        record {
          called = times (length m.events) m f.called;
          within = let w = f.within in omega arith;
          why = go f.why;
        }
      where
        go : (length m.events ≡ k) ⊎ EndsJoined m.events
            → (suc (length m.events) ≡ suc k) ⊎ EndsJoined (r.0.event ∷ m.events)
        go (inl h) = inl (ap suc h)
        go (inr h) = inr (ends m.events h)

    ended : (m : Many) → Ended k r.0.state p r.1 m → Ended (suc k) st p c (behind r.0.event m)
    ended m f =
        let h = f.fewer in
        record { last = f.last; nothing = f.nothing; unjoined = unjoined m.events f.unjoined; fewer = omega arith; called = times (suc (length m.events)) _ f.called }

    often : (m : Many) → AsByNext k r.0.state p r.1 m → AsByNext (suc k) st p c (behind r.0.event m)
    often m s = record { given = one m.events s.given; stopped = go s.stopped }
      where
        go : Stopped k r.0.state p r.1 m ⊎ Ended k r.0.state p r.1 m
            → Stopped (suc k) st p c (behind r.0.event m) ⊎ Ended (suc k) st p c (behind r.0.event m)
        go (inl f) = inl (full m f)
        go (inr f) = inr (ended m f)

  joined : is_joined r.0.event ≡ true → AsByNext (suc k) st p c (behind r.0.event (none r))
  unfolding next_times OnlyLastJoined EndsJoined
  joined j = record { given = g; stopped = inl (record { called = times 0 (none r) refl; within = omega arith; why = inr j }) }

nothing : (k : ℕ) (st : State) (p c : List ℕ) (r : NextOut) → next_of st p c ≡ r → is_given r.0.event ≡ false
    → AsByNext (suc k) st p c (none r)
unfolding next_times OnlyLastJoined EndsJoined
nothing k st p c r e g =
    record {
      given = tt;
      stopped = inr (record { last = r.0.event; nothing = g; unjoined = λ h. h; fewer = omega arith; called = rw e });
    }

pub events_claim : EventsClaim
unfolding events_of next_times OnlyLastJoined
events_claim zero st p c = record { given = tt; stopped = inl (record { called = refl; within = omega arith; why = inl refl }) }
events_claim (suc k) st p c = go (is_given (next_of st p c).0.event) (is_joined (next_of st p c).0.event) refl refl (events_claim k (next_of st p c).0.state p (next_of st p c).1)
  where
    go : (a b : Bool) → is_given (next_of st p c).0.event ≡ a → is_joined (next_of st p c).0.event ≡ b
        → AsByNext k (next_of st p c).0.state p (next_of st p c).1 (events_of k (next_of st p c).0.state p (next_of st p c).1)
        → AsByNext (suc k) st p c (events_of (suc k) st p c)
    go false b g j s = rw g (nothing k st p c (next_of st p c) refl g)
    go true true g j s = rw (g, j) (joined k st p c (next_of st p c) refl g j)
    go true false g j s = rw (g, j) (often k st p c (next_of st p c) refl g j _ s)
