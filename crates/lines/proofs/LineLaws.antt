-- Laws of specs/Line.antt.
use Rattle.std.specs.Prelude.{ℕ, ◌+◌, ◌≤◌, ◌<◌, ◌≡◌, Bool, true, false, cond, [], ◌∷◌, length, leb}
use Rattle.std.proofs.Common.{arith, le-leb, length-append}
use Rattle.std.proofs.lemmas.Bool.{lt-leb}
use Rattle.reassembly.specs.declared.unit.Unit.{Unit}
use Rattle.queue.specs.declared.event.Given.{Given}
use Rattle.lines.specs.Decimal.{decimal}
use Rattle.lines.proofs.DecimalLaws.{decimal-20}
use Rattle.lines.specs.Line.{newline, field, place_text, carried_text, unit_line, id_text, note_line, refused_line, end_line, longest_line}

-- Laws.
pub length-field : (n end : ℕ) → length (field n end) ≡ length (decimal n) + 1
unfolding field
length-field n end = rw length-append

pub field-21 : (n end : ℕ) → length (field n end) ≤ 21
field-21 n end = rw (length-field n end) (omega (arith, decimal-20 n))

-- a note without an id, and one with it
pub id-none : (n id : ℕ) → n ≤ 51 → id_text n id ≡ 45 ∷ newline ∷ []
unfolding id_text
id-none n id h = rw (le-leb _ _ h)

pub id-some : (n id : ℕ) → 51 < n → id_text n id ≡ field id newline
unfolding id_text
id-some n id h = rw (lt-leb _ _ h)

-- how long each line is at most
place-42 : (f s : ℕ) → length (place_text f s) ≤ 42
unfolding place_text
place-42 f s = rw length-append (omega (arith, field-21 f 32, field-21 s 32))

carried-84 : (u : Unit) → length (carried_text u) ≤ 84
unfolding carried_text
carried-84 u =
    simp length-append
    (omega (arith, field-21 u.packet_id 32, field-21 u.kind 32, field-21 u.psn.0 32, field-21 u.mpu 32))

id-21 : (n id : ℕ) → length (id_text n id) ≤ 21
unfolding id_text
id-21 n id = go (leb n 51)
  where
    go : (b : Bool) → length (cond b (45 ∷ 10 ∷ []) (field id 10)) ≤ 21
    go true = omega arith
    go false = field-21 id 10

pub unit_longest : (frame slot : ℕ) (g : Given) → length (unit_line frame slot g) ≤ longest_line
unfolding unit_line
unit_longest frame slot g =
    simp length-append (omega (arith, place-42 frame slot, carried-84 g.unit, field-21 g.place.len 10))

pub note-89 : (frame slot n id : ℕ) → length (note_line frame slot n id) ≤ 89
unfolding note_line
note-89 frame slot n id = simp length-append (omega (arith, place-42 frame slot, field-21 n 32, id-21 n id))

pub refused-29 : (n : ℕ) → length (refused_line n) ≤ 29
unfolding refused_line
refused-29 n = simp length-append (omega (arith, field-21 n 10))

pub end-67 : (frames units notes : ℕ) → length (end_line frames units notes) ≤ 67
unfolding end_line
end-67 frames units notes =
    simp length-append (omega (arith, field-21 frames 32, field-21 units 32, field-21 notes 10))
