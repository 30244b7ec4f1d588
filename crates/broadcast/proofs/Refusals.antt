-- In a list of calls a refused one leaves the machine as it was: demand 1, call by call.
use Prim.Native.Nat.{ℕ}
use mathlib.Core.Path.{◌≡◌, refl, ap}
use lib.ListN.{length}
use Rattle.queue.specs.Event.{Event}
use Rattle.queue.specs.Event.{Nothing, Note, Unit, Refused}
use Rattle.receiver.proofs.Demand1.{demand_1}
use Rattle.broadcast.specs.Calls.{
  Machine,
  Call,
  frame,
  lost-frame,
  slot,
  lost-slot,
  next,
  did,
  numbered,
  event_answer,
  IsRefused,
  with_state,
}

-- a refused call's number is not 0, and its event is a refusal
number-refused : (n : ℕ) → IsRefused (numbered n) → n ≡ 0 → ⊥
number-refused n q e = rw e at q

event-refused : (e : Event) → IsRefused (event_answer e) → (n : ℕ) × (e ≡ Refused n)
event-refused Nothing q = absurd q
event-refused (Note n id) q = absurd q
event-refused (Unit g) q = absurd q
event-refused (Refused n) q = (n, refl)

pub did-refused : (k : Call) (m : Machine) → IsRefused (did k m).answer → (did k m).machine ≡ m
unfolding did
did-refused (frame b) m q = ap (with_state m) (demand_1.frame m.state b (number-refused _ q)).state
did-refused lost-frame m q = ap (with_state m) (demand_1.lost-frame m.state (number-refused _ q)).state
did-refused (slot d) m q =
    let k = demand_1.slot m.state m.packet m.collecting d (number-refused _ q) in
    rw (k.0.state, k.1)
did-refused lost-slot m q =
    ap (with_state m) (demand_1.lost-slot m.state (length m.packet) (length m.collecting) (number-refused _ q)).state
did-refused next m q =
    let e = event-refused _ q in
    let k = demand_1.next m.state m.packet m.collecting e.0 e.1 in
    rw (k.1, k.2)
