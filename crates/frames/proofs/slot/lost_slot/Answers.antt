-- Why lost_slot meets its contract: each return is one case of the definition.
use Prim.Native.Nat.{◌≤◌}
use mathlib.Core.List.{[]}
use mathlib.Core.Path.{◌≡◌, refl, sym, ◌∙◌, ap}
use native.Mathlib.Omega.{arith}
use lib.ListN.{length}
use Rattle.std.proofs.lemmas.Grind.{common_steps}
use Rattle.refusal.specs.Refusal.{answer}
use Rattle.refusal.proofs.Numbers.{number-some}
use Rattle.frames.specs.Slot.{slot_refusal, Ready}
use Rattle.frames.proofs.SlotLaws.{lost-refused, lost-not-own, lost-own, ready}
use Rattle.state.specs.Words.{state_words, state_in}
use Rattle.frames.proofs.Due.{due-first, due-own}
use Rattle.state.proofs.Leaves.{sets-on, leaves-short, leaves-refused, leaves-accepted}
use Rattle.frames.specs.Frame.{loss_of}
use Rattle.state.specs.State.{Called}
use Rattle.frames.proofs.slot.lost_slot.Goals as goal
use Rattle.frames.proofs.slot.lost_slot.Goals.{In_ok-check}

-- the words suffice, and the slot is not refused
enough : (d : In_ok-check) → state_words ≤ length d.args.words.now
enough d = d.if-words-lt-STATE_WORDS.false

accepts : (d : In_ok-check) → let a = d.args in
    slot_refusal (state_in a.words.now) (length a.packet.now) (length a.collecting.now) ≡ 0
accepts d = sym d.in_ok-check.ensures

is-ready : (d : In_ok-check) → let a = d.args in
    Ready (state_in a.words.now) (length a.packet.now) (length a.collecting.now)
is-ready d = ready _ _ _ (accepts d)

pub returns-then-words-lt-STATE_WORDS : goal.returns-then-words-lt-STATE_WORDS
returns-then-words-lt-STATE_WORDS c = leaves-short _ _ _ c.if-words-lt-STATE_WORDS.true

pub returns-in_err-check : goal.returns-in_err-check
returns-in_err-check c =
    let e : answer c.from_residual.result ≡ slot_refusal (state_in c.args.words.now) (length c.args.packet.now) (length c.args.collecting.now) = grind (arith, common_steps, c.in_err-check.was) in
    let n : slot_refusal (state_in c.args.words.now) (length c.args.packet.now) (length c.args.collecting.now) ≡ 0 → ⊥ = rw (← c.in_err-check.ensures) (number-some _) in
    leaves-refused _ _ _ _ c.if-words-lt-STATE_WORDS.false
    (rw e (ap (λ (x : Called). (x, [])) (lost-refused _ _ _ n)))

pub is_own-own-requires : goal.is_own-own-requires
is_own-own-requires c =
    let d = (goal.at.is_own-own-requires c).In_ok-check in
    (due-first _ (is-ready d).due, enough d)

pub count-requires : goal.count-requires
count-requires c =
    let d = (goal.at.count-requires c).In_ok-check in
    (enough d, (is-ready d).due)

pub returns-else-own : goal.returns-else-own
returns-else-own c =
    let d = (goal.at.returns-else-own c).In_ok-check in
    let o = due-own _ (is-ready d).due ∙ sym c.is_own-own.ensures ∙ c.if-own.false in
    leaves-accepted _ _ _ _ _ _ _ (enough d) refl c.count.ensures
    (ap (λ (x : Called). (x, [])) (lost-not-own _ _ _ (accepts d) o))

pub returns-then-own : goal.returns-then-own
returns-then-own c =
    let d = (goal.at.returns-then-own c).In_ok-check in
    let o = due-own _ (is-ready d).due ∙ sym c.is_own-own.ensures ∙ c.if-own.true in
    leaves-accepted _ _ _ _ _ _ _ (enough d) refl
    (sets-on _ _ _ loss_of _ c.count.ensures c.lose.ensures)
    (ap (λ (x : Called). (x, [])) (lost-own _ _ _ (accepts d) o))
