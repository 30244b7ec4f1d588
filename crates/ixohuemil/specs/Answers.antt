-- The packer's and the cutter's calls of C linkage.
use Rattle.std.specs.Prelude.{ℕ, cond, List}
use Rattle.tmcc.specs.declared.layout.Pointers.{Pointers}
use Rattle.reassembly.specs.declared.unit.Unit.{Unit}
use Rattle.words.specs.Channel.{read_unit}
use Rattle.calls.specs.Record.{is_unit_record}
use Rattle.packer.specs.Packed.{Packed}
use Rattle.packer.specs.Packed.{Written, Refused as NotPacked}
use Rattle.packer.specs.Packer.{pack_of, number_of as packNumber}
use Rattle.cutter.specs.Cut.{CutSlot}
use Rattle.cutter.specs.Cut.{Cut, Refused as NotCut}
use Rattle.cutter.specs.Slot.{slot_cut, number_of as cutNumber}

-- "Refused calls return the number only": numbers that are lent for the answer are then as they were
abbrev pub length_left : Packed → ℕ → ℕ
length_left (Written n) len = n
length_left (NotPacked n) len = len

abbrev pub pointers_left : CutSlot → Pointers → Pointers
pointers_left (Cut p) lent = p
pointers_left (NotCut n) lent = lent

-- the packer's answer: document 01's number, or 0; `len`; the output
unfoldable pub pack_call : Unit → ℕ → ℕ → ℕ → List ℕ → List ℕ → ℕ → ℕ × ℕ × List ℕ
pack_call u cid sn m s out len =
    let r = pack_of u cid sn m s out in
    (packNumber r.0, length_left r.0 len, r.1)

-- the packer's call, with the record t of a unit; 92 for any other record
unfoldable pub pack_record : List ℕ → ℕ → ℕ → ℕ → List ℕ → List ℕ → ℕ → ℕ × ℕ × List ℕ
pack_record t cid sn m s out len = cond (is_unit_record t) (pack_call (read_unit t 5) cid sn m s out len) (92, len, out)

-- the cutter's call: document 01's number, or 0; `top` and `last`; the output
unfoldable pub cut_call : List ℕ → ℕ → ℕ → List ℕ → ℕ → ℕ → ℕ × ℕ × ℕ × List ℕ
cut_call run l s output top last =
    let r = slot_cut run l s output in
    let p = pointers_left r.0 (record { 0 = top; 1 = last }) in
    (cutNumber r.0, p.0, p.1, r.1)
