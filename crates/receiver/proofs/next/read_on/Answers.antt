use Prim.Native.Nat.{◌≤◌}
use mathlib.Core.Bool.{true, false}
use mathlib.Core.Path.{◌≡◌, refl, sym, ◌∙◌, ap}
use native.Mathlib.Omega.{arith}
use lib.ListN.{length}
use Rattle.queue.specs.declared.event.Event.{Event}
use Rattle.queue.specs.declared.event.Event.TheVariants.{Note, Unit}
use Rattle.queue.specs.Event.{as_given}
use Rattle.delivery.specs.Cursor.{is_event}
use Rattle.delivery.specs.Found.{Found, as_found}
use Rattle.receiver.specs.Turns.{Turned}
use Rattle.receiver.proofs.TurnsLaws.{turned-event, turned_on, turned-less, turned-config, reads-event, reads-packet, reads-tail, reads-done}
use Rattle.state.proofs.LentLaws.{state-held, state-packet, placed-low, config_in_lem}
use Rattle.state.proofs.Clean.{exact_none, exact-on, exact-held, exact-queue, exact-owed, exact-packet}
use Rattle.state.specs.Words.{Exact}
use Rattle.state.specs.State.{State}
use Rattle.receiver.proofs.next.read_on.Goals as goal
use Rattle.receiver.proofs.next.read_on.Goals.{After-take, After-advance_in}

-- the words after an event, or none, was taken from the queue
taken-words : (k : After-take) → Exact k.args.words.now k.take.new.t
taken-words k =
    let e = k.take.ensures in
    exact-on _ _ _ k.loop-event.invariant.1 (exact-queue _ _ e.within e.clean)

-- what waits is an event
given : (e : Event) → is_event (as_given e) ≡ true
given (Note n id) = refl
given (Unit g) = refl

-- what a turn without an event of the queue comes to
module _ (d : After-advance_in) where
  comes-to : (f : Found) → as_found d.advance_in.result ≡ f → Turned d.loop-event.words d.args.memory.now f d.advance_in.new.words
  comes-to f e =
      rw (← e) (turned_on _ _ _ _ d.in_default.ensures _ _ refl d.advance_in.ensures)

  same-words : Exact d.args.words.now d.advance_in.new.words
  same-words =
      let e = d.take.ensures in
      exact-on _ _ _ (exact-on _ _ _ d.loop-event.invariant.1 (exact-queue _ _ e.within e.clean)) d.advance_in.ensures.exact

  enough : 751 ≤ length d.advance_in.new.words
  enough = let e = d.take.ensures in
      rw (exact-on _ _ _ (exact-on _ _ _ d.loop-event.invariant.1 (exact-queue _ _ e.within e.clean)) d.advance_in.ensures.exact).size d.requires.0

pub loop-event-init : goal.loop-event-init
loop-event-init c = (refl, exact_none _, refl, refl)

pub take-requires : goal.take-requires
take-requires c = omega (arith, c.loop-event.invariant.1.size, c.requires.0)

pub returns-in-Some : goal.returns-in-Some
returns-in-Some c =
    let k = (goal.at.returns-in-Some c).After-take in
    let l = c.loop-event in
    let x = turned-event _ _ _ _ c.in-Some.ensures (given _) in
    record { answer = sym (reads-event _ _ _ l.collecting _ x) ∙ l.invariant.0; exact = taken-words k }

pub advance_in-requires : goal.advance_in-requires
advance_in-requires c =
    let k = (goal.at.advance_in-requires c).After-take in
    omega (arith, (taken-words k).size, c.requires.0)

pub returns-in-Note : goal.returns-in-Note
returns-in-Note c =
    let d = (goal.at.returns-in-Note c).After-advance_in in
    let l = c.loop-event in
    let x = comes-to d _ (ap as_found c.in-Note.is) in
    record { answer = sym (reads-event _ _ _ l.collecting _ x) ∙ l.invariant.0; exact = same-words d }

pub receive-requires : goal.receive-requires
receive-requires c =
    let d = (goal.at.receive-requires c).After-advance_in in
    let l = c.loop-event in
    let x = comes-to d _ (ap as_found c.in-Packet.is) in
    let e = sym (config_in_lem c.advance_in.new.words) ∙ turned-config _ _ _ _ x ∙ l.invariant.3 in
    (omega arith, omega arith, omega (arith, enough d), rw (e, l.invariant.2) c.requires.1)

pub loop-event-smaller-in-Packet : goal.loop-event-smaller-in-Packet
loop-event-smaller-in-Packet c =
    let x = comes-to (goal.at.loop-event-smaller-in-Packet c).After-advance_in _ (ap as_found c.in-Packet.is) in
    rw (state-packet _ _ _ _ _ _ _ _ c.receive.ensures) (turned-less _ _ _ _ x refl)

pub loop-event-preserved-in-Packet : goal.loop-event-preserved-in-Packet
loop-event-preserved-in-Packet c =
    let d = (goal.at.loop-event-preserved-in-Packet c).After-advance_in in
    let l = c.loop-event in
    let x = comes-to d _ (ap as_found c.in-Packet.is) in
    let e = c.receive.ensures in (
      sym (reads-packet _ _ _ l.collecting _ _ _ _ _ x (sym (turned-config _ _ _ _ x) ∙ config_in_lem _) e) ∙ l.invariant.0,
      exact-on _ _ _ (same-words d)
          (exact-packet _ _ _ (placed-low _ _ _ _ _ _ _ _ e) e.size e.elsewhere e.queue-clean e.channel-clean),
      c.receive.auto.collecting ∙ l.invariant.2,
      ap (λ (s : State). s.config) (state-packet _ _ _ _ _ _ _ _ e) ∙ turned-config _ _ _ _ x ∙ l.invariant.3,
    )

pub store_held-requires : goal.store_held-requires
store_held-requires c = omega (arith, enough (goal.at.store_held-requires c).After-advance_in)

pub loop-event-smaller : goal.loop-event-smaller
loop-event-smaller c =
    let x = comes-to (goal.at.loop-event-smaller c).After-advance_in _ (ap as_found c.in-Tail.is) in
    let q = c.store_held.ensures in
    rw (state-held _ _ _ q) (turned-less _ _ _ _ x refl)

pub loop-event-preserved : goal.loop-event-preserved
loop-event-preserved c =
    let d = (goal.at.loop-event-preserved c).After-advance_in in
    let l = c.loop-event in
    let x = comes-to d _ (ap as_found c.in-Tail.is) in
    let q = c.store_held.ensures in (
      sym (reads-tail _ _ _ l.collecting _ _ _ x q) ∙ l.invariant.0,
      exact-on _ _ _ (same-words d) (exact-held _ _ _ q),
      l.invariant.2,
      ap (λ (s : State). s.config) (state-held _ _ _ q) ∙ turned-config _ _ _ _ x ∙ l.invariant.3,
    )

pub bounds-words-21 : goal.bounds-words-21
bounds-words-21 c = omega (arith, enough (goal.at.bounds-words-21 c).After-advance_in)

pub returns-in-Done : goal.returns-in-Done
returns-in-Done c =
    let d = (goal.at.returns-in-Done c).After-advance_in in
    let l = c.loop-event in
    let x = comes-to d _ (ap as_found c.in-Done.is) in
    record {
      answer = sym (reads-done _ _ _ l.collecting x (omega (arith, enough d))) ∙ l.invariant.0;
      exact = exact-on _ _ _ (same-words d) (exact-owed d.advance_in.new.words false (omega (arith, enough d)));
    }
