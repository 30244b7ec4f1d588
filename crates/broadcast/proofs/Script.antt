-- Lists of calls: added calls change nothing, and the calls of next after a slot show what waits.
use Prim.Native.Nat.{ℕ}
use mathlib.Core.Path.{◌≡◌, refl, sym, ap, ◌∙◌, subst}
use mathlib.Core.List.{List, [], ◌∷◌, ◌++◌}
use native.Mathlib.Omega.{arith}
use Rattle.queue.specs.Event.{Nothing, Note, Unit}
use Rattle.queue.specs.declared.event.Given.{Given}
use Rattle.state.specs.State.{Answer as NextAnswer, State}
use Rattle.receiver.specs.Next.{next_of}
use Rattle.broadcast.specs.Drains.{Shown, note, shown, Drains, stops, notes, units}
use Rattle.broadcast.specs.Calls.{
  Machine,
  Call,
  next,
  Did,
  did,
  Made,
  own,
  shows,
  added,
  Todo,
  call,
  drain,
  show,
  drain_after,
  event_answer,
  Follows,
  note_shown,
  refusal_in,
  all_shown,
  refusals,
}
use Rattle.broadcast.proofs.Refusals.{did-refused}

abbrev pub machine : State → List ℕ → List ℕ → Machine
machine st p c = record { state = st; packet = p; collecting = c }

-- what is left of a list of calls once something prescribed is done: it follows the rest from machine m, and what was shown
-- and refused before is es and rs
pub record Left (ts : List Todo) (m : Machine) (es : List Shown) (rs : List ℕ) (all : List Shown) (ref : List ℕ) : Type 0 where
  pub calls : List Made
  pub follows : Follows ts m calls
  pub shows-on : all ≡ es ++ all_shown ts m calls
  pub refuses-on : ref ≡ rs ++ refusals ts m calls

-- one event more in front
front : {ts : List Todo} {m : Machine} {es : List Shown} {rs : List ℕ} {all : List Shown} {ref : List ℕ} (e : Shown)
    → Left ts m es rs all ref → Left ts m (e ∷ es) rs (e ∷ all) ref
front e l =
    record { calls = l.calls; follows = l.follows; shows-on = ap (λ (r : List Shown). e ∷ r) l.shows-on; refuses-on = l.refuses-on }

-- what a call of next did
pub did-next : (st : State) (p c c' : List ℕ) (a : NextAnswer) → next_of st p c ≡ (a, c')
    → did next (machine st p c) ≡ record { answer = event_answer a.event; machine = machine a.state p c' }
unfolding did
did-next st p c c' a e = rw e

-- nothing prescribed, and no call made
pub not_done : {t : Todo} {ts : List Todo} → t ∷ ts ≡ [] → ⊥
not_done e = let z : ◌≡◌ {A = ℕ} 0 1 = cc in omega arith

-- an own call
pub call-follows : (k : Call) (ts : List Todo) (m : Machine) (xs : List Made) → Follows (call k ∷ ts) m xs
    → Left ts (did k m).machine (note_shown (did k m).answer) (refusal_in (did k m).answer) (all_shown (call k ∷ ts) m xs)
    (refusals (call k ∷ ts) m xs)
call-follows k ts m [] f = absurd (not_done f)
call-follows k ts m (own c ∷ xs) f =
    rw f.0 (record { calls = xs; follows = rw f.0 at f.1; shows-on = refl; refuses-on = refl })
call-follows k ts m (shows ∷ xs) f = absurd f.0
call-follows k ts m (added c ∷ xs) f =
    let e = did-refused c m f.0 in
    rw e (call-follows k ts m xs (rw e at f.1))

abbrev Drained : List Todo → State → List ℕ → List ℕ → List Shown → List Shown → List ℕ → Type 0
Drained ts st' p c' es all ref = Left ts (machine st' p c') es [] all ref

-- an own call of next, by what it did
module _ (ts : List Todo) (m : Machine) (xs : List Made) (st' : State) (p c' : List ℕ) (es : List Shown) where
  abbrev Next-left : Did → Type 0
  Next-left d =
      Drained ts st' p c' es (note_shown d.answer ++ all_shown (drain_after d.answer ts) d.machine xs)
      (refusal_in d.answer ++ refusals (drain_after d.answer ts) d.machine xs)

  by_next : (k : Call) (d : Did) → k ≡ next → did next m ≡ d → Follows (drain_after (did k m).answer ts) (did k m).machine xs
      → (Follows (drain_after d.answer ts) d.machine xs → Next-left d) → Next-left (did k m)
  by_next k d e q f h =
      let g : did k m ≡ d = ap (λ (j : Call). did j m) e ∙ q in
      subst Next-left (sym g) (h (subst (λ (x : Did). Follows (drain_after x.answer ts) x.machine xs) g f))

-- next until nothing waits, and show of a unit in between
mutual
  pub drain-follows : (xs : List Made) (ts : List Todo) (p : List ℕ) {st st' : State} {c c' : List ℕ} {es : List Shown}
      → Drains p st c es st' c' → Follows (drain ∷ ts) (machine st p c) xs
      → Drained ts st' p c' es (all_shown (drain ∷ ts) (machine st p c) xs) (refusals (drain ∷ ts) (machine st p c) xs)
  drain-follows [] ts p d f = absurd (not_done f)
  drain-follows (own k ∷ xs) ts p (stops {st} {st'} {c} {c'} e) f =
      by_next ts (machine st p c) xs st' p c' [] k _ f.0 (did-next st p c c' (record { event = Nothing; state = st' }) e) f.1
      (λ r. record { calls = xs; follows = r; shows-on = refl; refuses-on = refl })
  drain-follows (own k ∷ xs) ts p (notes {st} {st'} {st''} {c} {c'} {c''} {n} {id} {es} e d) f =
      by_next ts (machine st p c) xs st'' p c'' (note n id ∷ es) k _ f.0
      (did-next st p c c' (record { event = Note n id; state = st' }) e) f.1
      (λ r. front (note n id) (drain-follows xs ts p d r))
  drain-follows (own k ∷ xs) ts p (units {st} {st'} {st''} {c} {c'} {c''} {g} {es} e d) f =
      by_next ts (machine st p c) xs st'' p c'' (shown g p c' ∷ es) k _ f.0
      (did-next st p c c' (record { event = Unit g; state = st' }) e) f.1
      (λ r. show-follows xs ts p g d r)
  drain-follows (shows ∷ xs) ts p d f = absurd f.0
  drain-follows (added k ∷ xs) ts p {st} {st'} {c} d f =
      let e = did-refused k (machine st p c) f.0 in
      rw e (drain-follows xs ts p d (rw e at f.1))

  show-follows : (xs : List Made) (ts : List Todo) (p : List ℕ) (g : Given) {st st' : State} {c c' : List ℕ} {es : List Shown}
      → Drains p st c es st' c' → Follows (show g ∷ drain ∷ ts) (machine st p c) xs
      → Drained ts st' p c' (shown g p c ∷ es) (all_shown (show g ∷ drain ∷ ts) (machine st p c) xs)
      (refusals (show g ∷ drain ∷ ts) (machine st p c) xs)
  show-follows [] ts p g d f = absurd (not_done f)
  show-follows (own k ∷ xs) ts p g d f = absurd f.0
  show-follows (shows ∷ xs) ts p g {st} {st'} {c} d f = front (shown g p c) (drain-follows xs ts p d f.1)
  show-follows (added k ∷ xs) ts p g {st} {st'} {c} d f =
      let e = did-refused k (machine st p c) f.0 in
      rw e (show-follows xs ts p g d (rw e at f.1))

-- calls that make up what is prescribed
pub record Makes (ts : List Todo) (m : Machine) : Type 0 where
  pub calls : List Made
  pub follows : Follows ts m calls

next-made : (ts : List Todo) (m : Machine) (d : Did) → did next m ≡ d → Makes (drain_after d.answer ts) d.machine
    → Makes (drain ∷ ts) m
next-made ts m d e l =
    record {
      calls = own next ∷ l.calls;
      follows = (refl, subst (λ (x : Did). Follows (drain_after x.answer ts) x.machine l.calls) (sym e) l.follows);
    }

show-made : (ts : List Todo) (m : Machine) (g : Given) → Makes ts m → Makes (show g ∷ ts) m
show-made ts m g l = record { calls = shows ∷ l.calls; follows = (tt, l.follows) }

pub call-made : (ts : List Todo) (m : Machine) (k : Call) → Makes ts (did k m).machine → Makes (call k ∷ ts) m
call-made ts m k l = record { calls = own k ∷ l.calls; follows = (refl, l.follows) }

pub drain-made : (ts : List Todo) (p : List ℕ) {st st' : State} {c c' : List ℕ} {es : List Shown} → Drains p st c es st' c'
    → Makes ts (machine st' p c') → Makes (drain ∷ ts) (machine st p c)
drain-made ts p (stops {st} {st'} {c} {c'} e) l =
    next-made ts (machine st p c) _ (did-next st p c c' (record { event = Nothing; state = st' }) e) l
drain-made ts p (notes {st} {st'} {st''} {c} {c'} {c''} {n} {id} e d) l =
    next-made ts (machine st p c) _ (did-next st p c c' (record { event = Note n id; state = st' }) e) (drain-made ts p d l)
drain-made ts p (units {st} {st'} {st''} {c} {c'} {c''} {g} e d) l =
    next-made ts (machine st p c) _ (did-next st p c c' (record { event = Unit g; state = st' }) e)
    (show-made (drain ∷ ts) (machine st' p c') g (drain-made ts p d l))
