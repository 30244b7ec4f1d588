-- Why slot meets its contract: each return is one case of the definition.
use Prim.Native.Nat.{◌≤◌}
use mathlib.Core.Bool.{false}
use mathlib.Core.Path.{◌≡◌, refl, sym, ◌∙◌}
use native.Mathlib.Omega.{arith}
use lib.ListN.{length}
use Rattle.std.proofs.lemmas.Grind.{common_steps}
use Rattle.refusal.specs.Refusal.{answer}
use Rattle.refusal.proofs.Numbers.{number-some}
use Rattle.state.proofs.Leaves.{sets-on, leaves-short, leaves-refused, leaves-accepted}
use Rattle.frames.proofs.Due.{due-first, due_wrong, due-own, due-pointers, slot-settled}
use Rattle.frames.specs.Slot.{slot_refusal, due_length, wrong_length, Ready}
use Rattle.frames.proofs.SlotLaws.{ready, right-length, slot-refused, slot_wrong_length, slot-not-own}
use Rattle.state.specs.Words.{state_words, state_in}
use Rattle.state.specs.State.{State, with_intake}
use Rattle.frames.proofs.slot.slot.Goals as goal
use Rattle.frames.proofs.slot.slot.Goals.{Else-is_wrong, In_ok-check}

-- the words suffice, and the slot is not refused
enough : (d : In_ok-check) → state_words ≤ length d.args.words.now
enough d = d.if-words-lt-STATE_WORDS.false

accepts : (d : In_ok-check) → let a = d.args in
    slot_refusal (state_in a.words.now) (length a.packet.now) (length a.collecting.now) ≡ 0
accepts d = sym d.in_ok-check.ensures

is-ready : (d : In_ok-check) → let a = d.args in
    Ready (state_in a.words.now) (length a.packet.now) (length a.collecting.now)
is-ready d = ready _ _ _ (accepts d)

-- nor for its length
right : (b : Else-is_wrong) → let a = b.args in
    wrong_length (due_length (state_in a.words.now)) (length a.bytes.now) ≡ false
right b =
    let h = (ready _ _ _ (sym b.in_ok-check.ensures)).due in
    due_wrong _ h _ _ _ b.length_at.ensures (sym b.is_wrong.ensures ∙ b.if-is_wrong.false)

pub returns-then-words-lt-STATE_WORDS : goal.returns-then-words-lt-STATE_WORDS
returns-then-words-lt-STATE_WORDS c = leaves-short _ _ _ c.if-words-lt-STATE_WORDS.true

pub returns-in_err-check : goal.returns-in_err-check
returns-in_err-check c =
    let e : answer c.from_residual.result ≡ slot_refusal (state_in c.args.words.now) (length c.args.packet.now) (length c.args.collecting.now) = grind (arith, common_steps, c.in_err-check.was) in
    let n : slot_refusal (state_in c.args.words.now) (length c.args.packet.now) (length c.args.collecting.now) ≡ 0 → ⊥ = rw (← c.in_err-check.ensures) (number-some _) in
    leaves-refused _ _ _ _ c.if-words-lt-STATE_WORDS.false
    (rw e (slot-refused _ _ _ _ n))

pub length_at-requires : goal.length_at-requires
length_at-requires c =
    let d = (goal.at.length_at-requires c).In_ok-check in
    (due-first _ (is-ready d).due, enough d)

pub returns-then-is_wrong : goal.returns-then-is_wrong
returns-then-is_wrong c =
    let d = (goal.at.returns-then-is_wrong c).In_ok-check in
    let t = sym c.is_wrong.ensures ∙ c.if-is_wrong.true in
    leaves-refused _ _ _ _ (enough d)
    (slot_wrong_length _ _ _ _ (accepts d) (due_wrong _ (is-ready d).due _ _ _ c.length_at.ensures t))

pub is_own-own-requires : goal.is_own-own-requires
is_own-own-requires c =
    let d = (goal.at.is_own-own-requires c).In_ok-check in
    (due-first _ (is-ready d).due, enough d)

pub pointers_at-pointers-requires : goal.pointers_at-pointers-requires
pointers_at-pointers-requires c =
    let d = (goal.at.pointers_at-pointers-requires c).In_ok-check in
    (due-first _ (is-ready d).due, enough d)

pub count-requires : goal.count-requires
count-requires c =
    let d = (goal.at.count-requires c).In_ok-check in
    (enough d, (is-ready d).due)

pub returns-else-own : goal.returns-else-own
returns-else-own c =
    let g = goal.at.returns-else-own c in
    let d = g.In_ok-check in
    let o = due-own _ (is-ready d).due ∙ sym c.is_own-own.ensures ∙ c.if-own.false in
    leaves-accepted _ _ _ _ _ _ _ (enough d) refl c.count.ensures (slot-not-own _ _ _ _ (accepts d) (right g.Else-is_wrong) o)

pub take-taken-requires : goal.take-taken-requires
take-taken-requires c =
    let g = goal.at.take-taken-requires c in
    ((is-ready g.In_ok-check).packets, (right-length _ _ (right g.Else-is_wrong)).0)

pub settle-requires : goal.settle-requires
settle-requires c =
    omega (arith, c.count.ensures.exact.size, enough (goal.at.settle-requires c).In_ok-check)

pub returns-then-own : goal.returns-then-own
returns-then-own c =
    let g = goal.at.returns-then-own c in
    let d = g.In_ok-check in
    let h = (is-ready d).due in
    let o = due-own _ h ∙ sym c.is_own-own.ensures ∙ c.if-own.true in
    let p = c.pointers_at-pointers.ensures ∙ sym (due-pointers _ h) in
    let s = c.count.ensures in
    leaves-accepted _ _ _ _ _ _ _ (enough d) refl
    (sets-on _ _ _ (λ (x : State). with_intake x c.take-taken.result) _ s c.settle.ensures)
    (slot-settled _ _ _ _ _ _ _ _ _ (accepts d) (right g.Else-is_wrong) o s.state c.load_held.ensures p c.take-taken.ensures)
