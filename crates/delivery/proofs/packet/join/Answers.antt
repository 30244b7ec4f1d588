-- Why join meets its contract: the packet's bytes, its piece and the step are those of the definition, the piece fits, and the
-- state, the notes and the units are stored one after the other.
use Prim.Native.Nat.{◌+◌, ◌*◌, ◌<◌, ◌≤◌}
use mathlib.Core.Path.{◌≡◌, ap}
use native.Mathlib.Omega.{arith}
use Rattle.std.proofs.lemmas.Grind.{common_steps}
use lib.ListN.{length}
use Rattle.reassembly.specs.Joined.{Joined, as_joined, as_number}
use Rattle.words.specs.Channel.{read_channel}
use Rattle.wire.proofs.MemoryLaws.{part-reach}
use Rattle.delivery.proofs.WithinLaws.{joined-reach, first-inside, joined-room}
use Rattle.delivery.specs.Packet.{bytes_at, unit_in, step_of}
use Rattle.delivery.specs.Words.{channel_place}
use Rattle.delivery.proofs.Joining.{joins-by}
use Rattle.delivery.proofs.packet.join.Goals as goal
use Rattle.delivery.proofs.packet.join.Goals.{After-part-m, After-first_unit-u, After-join-j, After-map_or-note}

-- the packet's bytes, its data unit, the state and the step are those of the definition
bytes : (d : After-part-m) → let a = d.args in
    d.part-m.result.now ≡ bytes_at a.l a.memory.now
bytes d = rw (d.part-m.ensures, d.distance-len.ensures)

unit : (d : After-first_unit-u) → let a = d.args in
    d.first_unit-u.result ≡ unit_in a.l a.memory.now
unit d =
    rw (d.part-m.ensures, d.distance-len.ensures) at d.first_unit-u.ensures

step : (d : After-join-j)
    → let a = d.args in
    as_joined d.join-j.result ≡ step_of (read_channel a.t.now (channel_place a.k a.l.packet.place)) a.l a.memory.now a.rules
step d =
    rw (
      d.join-j.ensures,
      d.load_channel-ch.ensures,
      d.piece-p.ensures,
      d.first_unit-u.ensures,
      d.part-m.ensures,
      d.distance-len.ensures,
    )

-- and so is the action
acts : (d : After-join-j)
    → let a = d.args in
    d.join-j.result.action ≡ (step_of (read_channel a.t.now (channel_place a.k a.l.packet.place)) a.l a.memory.now a.rules).action
acts d = ap (λ (x : Joined). x.action) (step d)

noted : (d : After-map_or-note) → d.map_or-note.result ≡ as_number d.join-j.result.note
noted d = grind (arith, common_steps, d.map_or-note.ensures)

pub piece-p-requires : goal.piece-p-requires
piece-p-requires c = rw c.first_unit-u.ensures (first-inside _ _).ordered

pub overflow_add-at : goal.overflow_add-at
overflow_add-at c =
    let h : c.args.k + 14 * c.args.l.packet.place < 18446744073709551616 = omega (arith, c.requires, c.well_formed) in
    record { fits = h }

pub overflow_mul-base : goal.overflow_mul-base
overflow_mul-base c =
    let a = c.args in
    let h : a.l.packet.place * a.rules.limit < 18446744073709551616 = omega (arith, c.requires.3) in
    record { fits = h }

pub collect-requires : goal.collect-requires
collect-requires c =
    let a = c.args in
    let g = goal.at.collect-requires c in
    rw (acts g.After-join-j, unit g.After-first_unit-u, bytes g.After-part-m)
    (joined-room _ a.l a.memory.now a.collecting.now a.rules c.requires.3)

pub keep-requires : goal.keep-requires
keep-requires c =
    omega (arith, c.requires.1, c.requires.2)

pub put_notes-requires : goal.put_notes-requires
put_notes-requires c =
    omega (arith, c.requires.0, c.requires.1, c.keep.ensures.within.size)

pub give-requires : goal.give-requires
give-requires c =
    let a = c.args in
    let p = a.memory.now in
    let k : a.l.start < 18446744073709551616 = omega (arith, c.well_formed) in
    let n : a.rules.limit < 18446744073709551616 = omega (arith, c.well_formed) in
    let z : length p < 18446744073709551616 = omega (arith, c.well_formed) in
    let i = first-inside (bytes_at a.l p) a.l.packet.payload in
    let w : (unit_in a.l p).start ≤ length (bytes_at a.l p) = omega (arith, i.ordered, i.within) in
    let g = goal.at.give-requires c in
    rw (acts g.After-join-j, unit g.After-first_unit-u) (
      omega (
        arith,
        c.requires.0,
        c.requires.1,
        c.put_notes.ensures.put.size,
        c.keep.ensures.within.size,
      ),
      i.ordered,
      part-reach _ a.l.start _ _ _ k z w,
      joined-reach _ a.l p a.collecting.now a.rules c.requires.3 n,
    )

pub returns : goal.returns
returns c =
    let a = c.args in
    let g = goal.at.returns c in
    joins-by a.t.now _ _ _ a.i a.k a.l a.memory.now a.collecting.now _ a.rules c.requires.0 _ _ _
    (bytes g.After-part-m) (unit g.After-first_unit-u) (step g.After-join-j) c.collect.ensures c.keep.ensures (rw (← noted g.After-map_or-note) c.put_notes.ensures)
    c.give.ensures
