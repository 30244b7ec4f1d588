use Prim.Native.Nat.{ℕ, suc, ◌+◌, ◌-◌, ◌*◌, ◌/◌, ◌<◌, ◌≤◌}
use mathlib.Core.Path.{◌≡◌, refl, sym, ◌∙◌}
use native.Mathlib.Nat.{div-add-mod'}
use native.Mathlib.Omega.{arith}
use lib.ListN.{length}
use Rattle.state.specs.Words.{state_in}
use Rattle.receiver.proofs.NextLaws.{next-idle, next-reads, short-room}
use Rattle.receiver.proofs.ReadOnLaws.{next-calm}
use Rattle.state.proofs.Clean.{exact_none, exact-on}
use Rattle.calls.proofs.EventsLaws.{event-put, is_given-event, gave-start, gave-full, gave-none, gave-last, gave-on}
use Rattle.calls.proofs.events.read_events.Goals as goal

-- there is room for one record more
roomy : (l l' n : ℕ) → l' ≡ l → n < l / 24 → n * 24 + 24 ≤ l'
roomy l l' n e h = let q = div-add-mod' l 24 in omega arith

one_less : (room n : ℕ) → n < room → room - n ≡ suc (room - (n + 1))
one_less room n h = omega arith

next_place : (n : ℕ) → n * 24 + 24 ≡ (n + 1) * 24
next_place n = omega arith

pub loop-n-init : goal.loop-n-init
loop-n-init c =
    let e : length c.args.records.now / 24 - 0 ≡ length c.args.records.now / 24 = omega arith in
    record { same = rw e (gave-start _ _); words = c.requires.0; exact = exact_none _; suffice = c.requires.1 }

-- nothing is owed
pub returns-then-not-is_owed : goal.returns-then-not-is_owed
returns-then-not-is_owed c =
    let i = c.loop-n.invariant in
    let ahead = rw (one_less _ _ c.loop-n-test.true) at i.same in
    let o = sym c.is_owed.ensures ∙ c.if-not-is_owed.true in
    record {
      answer = sym (gave-none _ (c.loop-n.n * 24) _ _ _ _ _ _ (sym (next-idle _ _ _ i.suffice o)) refl) ∙ ahead;
      exact = i.exact;
    }

pub read_on-requires : goal.read_on-requires
read_on-requires c =
    let i = c.loop-n.invariant in
    (i.words, short-room _ _ _ i.suffice)

pub put_event-requires : goal.put_event-requires
put_event-requires c = roomy _ _ _ c.loop-n.auto.records c.loop-n-test.true

-- nothing waits
pub returns-in_default : goal.returns-in_default
returns-in_default c =
    let i = c.loop-n.invariant in
    let ahead = rw (one_less _ _ c.loop-n-test.true) at i.same in
    let d = rw c.in_default.is at c.read_on.ensures in
    let next = d.answer ∙ sym (next-reads _ _ _ i.suffice (sym c.is_owed.ensures ∙ c.if-not-is_owed.false)) in
    record {
      answer = sym (gave-none _ (c.loop-n.n * 24) _ _ _ _ _ _ next refl) ∙ ahead;
      exact = exact-on _ _ _ i.exact d.exact;
    }

pub returns-then-is_joined : goal.returns-then-is_joined
returns-then-is_joined c =
    let i = c.loop-n.invariant in
    let ahead = rw (one_less _ _ c.loop-n-test.true) at i.same in
    let d = c.in-Some.ensures in
    let next = d.answer ∙ sym (next-reads _ _ _ i.suffice (sym c.is_owed.ensures ∙ c.if-not-is_owed.false)) in
    let room = roomy _ _ _ c.loop-n.auto.records c.loop-n-test.true in
    record {
      answer =
          rw (event-put _ _ _ _ room c.put_event.ensures)
          (sym (gave-last _ _ _ _ _ _ _ _ next (is_given-event c.in-Some.event)
          (sym c.is_joined.ensures ∙ c.if-is_joined.true)) ∙ ahead);
      exact = exact-on _ _ _ i.exact d.exact;
    }

pub loop-n-preserved : goal.loop-n-preserved
loop-n-preserved c =
    let i = c.loop-n.invariant in
    let ahead = rw (one_less _ _ c.loop-n-test.true) at i.same in
    let d = c.in-Some.ensures in
    let next = d.answer ∙ sym (next-reads _ _ _ i.suffice (sym c.is_owed.ensures ∙ c.if-not-is_owed.false)) in
    let room = roomy _ _ _ c.loop-n.auto.records c.loop-n-test.true in
    let k = rw (← next) at (next-calm (state_in c.loop-n.words) c.args.packet.now c.loop-n.collecting) in
    record {
      same =
          rw (← next_place c.loop-n.n, event-put _ _ _ _ room c.put_event.ensures)
          (sym (gave-on _ _ _ _ _ _ _ _ next (is_given-event c.in-Some.event)
          (sym c.is_joined.ensures ∙ c.if-is_joined.false)) ∙ ahead);
      words = rw d.exact.size i.words;
      exact = exact-on _ _ _ i.exact d.exact;
      suffice = rw (k.config, k.size) i.suffice;
    }

pub returns : goal.returns
returns c =
    let i = c.loop-n.invariant in
    let e : c.loop-n.n ≡ length c.args.records.now / 24 = omega arith in
    let z : length c.args.records.now / 24 - c.loop-n.n ≡ 0 = omega arith in
    record {
      answer = rw (← e) (sym (gave-full _ (c.loop-n.n * 24) _ _ _ _)) ∙ (rw z at i.same);
      exact = i.exact;
    }
