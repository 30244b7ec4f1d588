use Rattle.std.proofs.Common.{◌≡◌, true, drop, sym, ◌∙◌, arith}
use Rattle.tlv.specs.Packet.{marked}
use Rattle.tlv.proofs.Walks.{marked-at, marked-end, walk_unmarked, walk_tail, walk_on, packet_within, packet_past}
use Rattle.tlv.proofs.packet.walk.Goals as goal
use Rattle.tlv.proofs.packet.walk.Goals.{Else-not-good_first}

-- the byte at the place is good
good : (d : Else-not-good_first) → marked (drop d.loop-at.at d.args.s.now) ≡ true
good d = marked-at _ _ d.loop-at-test.true ∙ cc

pub returns-then-not-good_first : goal.returns-then-not-good_first
returns-then-not-good_first c =
    let bad = marked-at _ _ c.loop-at-test.true ∙ sym c.good_first.ensures ∙ c.if-not-good_first.true in
    sym (walk_unmarked _ _ bad) ∙ c.loop-at.invariant.same

pub loop-at-smaller : goal.loop-at-smaller
loop-at-smaller c =
    let w = packet_within _ _ c.in-Some.end (sym c.packet_at.ensures ∙ c.in-Some.is) in
    omega arith

pub loop-at-preserved : goal.loop-at-preserved
loop-at-preserved c =
    let p = sym c.packet_at.ensures ∙ c.in-Some.is in
    let g = good (goal.at.loop-at-preserved c).Else-not-good_first in
    record {
      within = (packet_within _ _ c.in-Some.end p).1;
      same = sym (walk_on _ _ g c.in-Some.end p) ∙ c.loop-at.invariant.same;
    }

pub returns-after-loop-at : goal.returns-after-loop-at
returns-after-loop-at c =
    let l = c.loop-at in
    let h = c.loop-at-test.false in
    sym (walk_tail _ _ l.invariant.within (marked-end _ _ h) (packet_past _ _ h)) ∙ l.invariant.same

pub returns-in_default : goal.returns-in_default
returns-in_default c =
    let g = good (goal.at.returns-in_default c).Else-not-good_first in
    sym (walk_tail _ _ c.loop-at.invariant.within g (sym c.packet_at.ensures ∙ c.in_default.is)) ∙ c.loop-at.invariant.same
