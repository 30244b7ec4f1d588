-- How often next is called in a reading: once for each event of a slot or a lost frame, and once more.
use Prim.Native.Nat.{ℕ, ◌-◌, ◌<◌}
use mathlib.Core.Path.{◌≡◌, sym, ap, ◌∙◌, subst}
use mathlib.Core.List.{List, [], ◌∷◌}
use native.Mathlib.Omega.{arith}
use lib.ListN.{length}
use Rattle.queue.specs.Event.{Nothing, Note, Unit}
use Rattle.queue.specs.declared.event.Given.{Given}
use Rattle.reassembly.specs.declared.config.Config.{Config}
use Rattle.state.specs.State.{State}
use Rattle.broadcast.specs.Drains.{Shown, Drains, stops, notes, units}
use Rattle.broadcast.specs.Calls.{Machine, Call, frame, lost-frame, slot, lost-slot, next, Did, did, Made, own, shows, added, Todo, call, drain, show, drain_after, Follows}
use Rattle.broadcast.specs.Bound.{NextsWithin}
use Rattle.broadcast.proofs.Refusals.{did-refused}
use Rattle.broadcast.proofs.Script.{machine, did-next, not_done}
use Rattle.broadcast.proofs.SlotCalls.{Owes, Hands}

-- any list of calls that makes up what is prescribed, which does not start with next
abbrev pub Few : List Todo → Machine → Type 0
Few ts m = (xs : List Made) → Follows ts m xs → (n : ℕ) → NextsWithin n xs

-- what follows a call of next, by what it did
then : (ts : List Todo) (m : Machine) (k : Call) (d : Did) (xs : List Made) → k ≡ next → did next m ≡ d
    → Follows (drain_after (did k m).answer ts) (did k m).machine xs → Follows (drain_after d.answer ts) d.machine xs
then ts m k d xs e q f =
    subst (λ (x : Did). Follows (drain_after x.answer ts) x.machine xs) (ap (λ (j : Call). did j m) e ∙ q) f

one-next : (k : Call) (n : ℕ) (xs : List Made) → k ≡ next → 0 < n → NextsWithin (n - 1) xs → NextsWithin n (own k ∷ xs)
one-next k n xs e h w = rw e (h, w)

mutual
  drain-few : (xs : List Made) (ts : List Todo) (p : List ℕ) {st st' : State} {c c' : List ℕ} {es : List Shown}
      → Drains p st c es st' c' → Follows (drain ∷ ts) (machine st p c) xs → (n : ℕ) → length es < n → Few ts (machine st' p c')
      → NextsWithin n xs
  drain-few [] ts p d f n h w = absurd (not_done f)
  drain-few (own k ∷ xs) ts p (stops {st} {st'} {c} {c'} e) f n h w =
      let g = then ts (machine st p c) k _ xs f.0 (did-next st p c c' (record { event = Nothing; state = st' }) e) f.1 in
      one-next k n xs f.0 (omega arith) (w xs g (n - 1))
  drain-few (own k ∷ xs) ts p (notes {st} {st'} {st''} {c} {c'} {c''} {n = i} {id} e d) f n h w =
      let g = then ts (machine st p c) k _ xs f.0 (did-next st p c c' (record { event = Note i id; state = st' }) e) f.1 in
      one-next k n xs f.0 (omega arith) (drain-few xs ts p d g (n - 1) (omega arith) w)
  drain-few (own k ∷ xs) ts p (units {st} {st'} {st''} {c} {c'} {c''} {g} e d) f n h w =
      let q = then ts (machine st p c) k _ xs f.0 (did-next st p c c' (record { event = Unit g; state = st' }) e) f.1 in
      one-next k n xs f.0 (omega arith) (show-few xs ts p g d q (n - 1) (omega arith) w)
  drain-few (shows ∷ xs) ts p d f n h w = absurd f.0
  drain-few (added k ∷ xs) ts p {st} {st'} {c} d f n h w =
      drain-few xs ts p d (rw (did-refused k (machine st p c) f.0) at f.1) n h w

  show-few : (xs : List Made) (ts : List Todo) (p : List ℕ) (g : Given) {st st' : State} {c c' : List ℕ} {es : List Shown}
      → Drains p st c es st' c' → Follows (show g ∷ drain ∷ ts) (machine st p c) xs → (n : ℕ) → length es < n
      → Few ts (machine st' p c') → NextsWithin n xs
  show-few [] ts p g d f n h w = absurd (not_done f)
  show-few (own k ∷ xs) ts p g d f n h w = absurd f.0
  show-few (shows ∷ xs) ts p g d f n h w = drain-few xs ts p d f.1 n h w
  show-few (added k ∷ xs) ts p g {st} {st'} {c} d f n h w =
      show-few xs ts p g d (rw (did-refused k (machine st p c) f.0) at f.1) n h w

-- an own call, and what it leaves
call-few : (k : Call) (ts : List Todo) (m : Machine) → ((xs : List Made) → Follows ts (did k m).machine xs
    → (n : ℕ) → NextsWithin n (own k ∷ xs)) → Few (call k ∷ ts) m
call-few k ts m w [] f n = absurd (not_done f)
call-few k ts m w (own c ∷ xs) f n = rw f.0 (w xs (rw f.0 at f.1) n)
call-few k ts m w (shows ∷ xs) f n = absurd f.0
call-few k ts m w (added c ∷ xs) f n = call-few k ts m w xs (rw (did-refused c m f.0) at f.1) n

owed-few : (k : Call) → Owes k → (xs : List Made) → NextsWithin 42869 xs → (n : ℕ) → NextsWithin n (own k ∷ xs)
owed-few (frame b) o xs h n = absurd o
owed-few lost-frame o xs h n = h
owed-few (slot d) o xs h n = h
owed-few lost-slot o xs h n = h
owed-few next o xs h n = absurd o

-- where nothing is prescribed only added calls stand
none-few : (m : Machine) → Few [] m
none-few m [] f n = tt
none-few m (own k ∷ xs) f n = absurd f.0
none-few m (shows ∷ xs) f n = absurd f.0
none-few m (added k ∷ xs) f n = none-few (did k m).machine xs f.1 n

pub few_hand : (cfg : Config) → Hands cfg Few
few_hand cfg =
    record {
      done = none-few;
      by-frame = λ b ts m m' e w.
          let w' : Few ts (did (frame b) m).machine = subst (λ (x : Did). Few ts x.machine) (sym e) w in
          call-few (frame b) ts m (λ xs f n. w' xs f 0);
      by-item = λ k o m tl f es l s i few ts w.
          call-few k (drain ∷ ts) m
          (λ xs g n. owed-few k o xs (drain-few xs ts (did k m).machine.packet i.drains g 42869 (omega arith) w) n);
    }
