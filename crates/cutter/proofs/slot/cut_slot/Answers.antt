-- Why cut_slot meets its contract: a refused call leaves the output; else the slot lies in the run and fills the output.
use Rattle.std.proofs.Common.{◌≡◌, ℕ, ◌+◌, ◌-◌, ◌*◌, ◌≤◌, List, [], length, take, drop, sym, ◌∙◌, arith, length-drop, zero-add, append-nil}
use Rattle.std.proofs.lemmas.Result.{err_from_is_err_and}
use lib.ListN.{drop_of_length-le}
use lib.Seq.{take-length, length-take-le}
use Rattle.wire.specs.Memory.{pasted}
use Rattle.tlv.specs.Packet.{cut}
use Rattle.cutter.specs.Pointers.{pointers_of}
use Rattle.cutter.specs.Slot.{cut_refusal, slot_at}
use Rattle.cutter.proofs.SlotLaws.{accepted, slot-within, refused-with, slot-cut}
use Rattle.cutter.proofs.Packets.{whole-good}
use Rattle.cutter.proofs.Table.{listed_bounds}
use Rattle.cutter.proofs.slot.cut_slot.Goals as goal

pub returns-in_err-test : goal.returns-in_err-test
returns-in_err-test c =
    let p = err_from_is_err_and c.from_residual.result c.from_residual.ensures.1 in
    rw (p.1, p.2) (sym (refused-with _ _ _ _ _ c.in_err-test.ensures))

-- an accepted call: the room that the slot has
record Room (run : List ℕ) (l s m : ℕ) : Type 0 where
  pub inside : s * l + l ≤ length run
  pub most : l ≤ 5049
  pub fills : m ≡ l
  pub tail : (cut run).tail ≡ []

room : (run : List ℕ) (l s m : ℕ) → 0 ≡ cut_refusal run l s m → Room run l s m
room run l s m e =
    let a = accepted run l s m (sym e) in
    record {
      inside = slot-within run l s m a;
      most = (listed_bounds l a.listed).1;
      fills = a.fits;
      tail = (whole-good run a.packets).1;
    }

pub overflow_mul-from : goal.overflow_mul-from
overflow_mul-from c =
    let r = room _ _ _ _ c.in_ok-test.ensures in
    omega arith

pub find-pointers-requires : goal.find-pointers-requires
find-pointers-requires c =
    let r = room _ _ _ _ c.in_ok-test.ensures in
    (r.tail, omega arith, omega arith)

pub overflow_add-from : goal.overflow_add-from
overflow_add-from c =
    let r = room _ _ _ _ c.in_ok-test.ensures in
    omega arith

pub slice_bounds-copy_at-end : goal.slice_bounds-copy_at-end
slice_bounds-copy_at-end c =
    let r = room _ _ _ _ c.in_ok-test.ensures in
    omega arith

-- the part of the run that is copied, and the output that it fills
module _ (run : List ℕ) (from l : ℕ) (h : from + l ≤ length run) where
  same : from + l - from ≡ l
  same = omega arith

  part_length : length (take (from + l - from) (drop from run)) ≡ l
  part_length = rw (same, length-take-le l (drop from run) (rw length-drop (omega arith)))

filled : (d s : List ℕ) → length d ≡ length s → pasted d 0 s (length s) ≡ s
unfolding pasted
filled d s e = rw (zero-add, take-length s, drop_of_length-le d {i = length s} (omega arith), append-nil)

copied : (run output : List ℕ) (from l : ℕ) → from + l ≤ length run → length output ≡ l
    → pasted output 0 (take (from + l - from) (drop from run)) (length (take (from + l - from) (drop from run)))
    ≡ take l (drop from run)
copied run output from l h e =
    filled output (take (from + l - from) (drop from run)) (e ∙ sym (part_length run from l h)) ∙ rw (same run from l h)

pub copy_at-requires : goal.copy_at-requires
copy_at-requires c =
    let a = c.args in
    let r = room _ _ _ _ c.in_ok-test.ensures in
    omega (arith, part_length a.run.now (a.s * a.l) a.l r.inside)

pub returns : goal.returns
unfolding slot_at pointers_of
returns c =
    let r = room _ _ _ _ c.in_ok-test.ensures in
    let b = c.copy_at.ensures ∙ copied _ _ _ _ r.inside r.fills in
    rw (b, c.find-pointers.ensures) (sym (slot-cut _ _ _ _ (sym c.in_ok-test.ensures)))
