-- Why take meets its contract: the note, note 64, and the units, in this order.
use mathlib.Core.Path.{◌≡◌}
use mathlib.Core.Bool.{true, false}
use borrow.Author.Tests.{eq-eqb, ne_eqb}
use Rattle.std.proofs.Common.{rules}
use Rattle.wire.specs.Words.{flag_of}
use Rattle.queue.specs.Words.{read_queue}
use Rattle.queue.proofs.Taking.{takes_note, takes_over, takes_nothing}
use Rattle.queue.proofs.waiting.take.Goals as goal
use Rattle.queue.proofs.waiting.take.Goals.{Else-note-ne0, Else-t-i-ne0, Then-t-i-ne0}

-- what the tests show of the queue
no_note : (c : Else-note-ne0) → (read_queue c.args.t.now c.args.i).note ≡ 0
unfolding read_queue
no_note c = c.if-note-ne0.false

not-over : (c : Else-t-i-ne0) → (read_queue c.args.t.now c.args.i).over ≡ false
unfolding read_queue flag_of
not-over c = rw (eq-eqb _ _ c.if-t-i-ne0.false)

pub returns-then-note-ne0 : goal.returns-then-note-ne0
unfolding read_queue
returns-then-note-ne0 c =
    takes_note c.args.t.now c.args.i c.args.memory.now c.requires c.if-note-ne0.true

over : (c : Then-t-i-ne0) → (read_queue c.args.t.now c.args.i).over ≡ true
unfolding read_queue flag_of
over c = rw (ne_eqb _ _ c.if-t-i-ne0.true)

pub returns-then-t-i-ne0 : goal.returns-then-t-i-ne0
unfolding read_queue
returns-then-t-i-ne0 c =
    let p = goal.at.returns-then-t-i-ne0 c in
    rw c.from.ensures
    (takes_over c.args.t.now c.args.i c.args.memory.now c.requires (no_note p.Else-note-ne0) (over p.Then-t-i-ne0))

pub returns-in-0 : goal.returns-in-0
returns-in-0 c =
    let p = goal.at.returns-in-0 c in
    let n = no_note p.Else-note-ne0 in
    let o = not-over p.Else-t-i-ne0 in
    takes_nothing c.args.t.now c.args.i c.args.memory.now
    (record { room = c.requires; note = n; over = o; units = c.in-0.is })

pub take_one-requires : goal.take_one-requires
take_one-requires c =
    let p = goal.at.take_one-requires c in
    record { room = c.requires; note = no_note p.Else-note-ne0; over = not-over p.Else-t-i-ne0; units = c.in-1.is }

pub returns-in-1 : goal.returns-in-1
returns-in-1 c = c.take_one.ensures _

pub take_many-requires : goal.take_many-requires
take_many-requires c =
    let p = goal.at.take_many-requires c in
    record { room = c.requires; note = no_note p.Else-note-ne0; over = not-over p.Else-t-i-ne0; units = search rules }
