-- Why `put_field` meets its contract: the number, and a character behind it.
use Prim.Native.Nat.{◌<◌}
use mathlib.Core.List.{[], ◌∷◌}
use native.Mathlib.Omega.{arith}
use lib.ListN.{length}
use Rattle.lines.proofs.DecimalLaws.{decimal-20}
use Rattle.lines.specs.Line.{field}
use Rattle.lines.proofs.TextLaws.{wrote-byte, written-end, written-length, written-more}
use Rattle.lines.proofs.line.put_field.Goals as goal
use Rattle.lines.proofs.line.put_field.Goals.{After-put_decimal-last}

-- there is room for the character behind it
room : (c : After-put_decimal-last) → let a = c.put_decimal-last in
    (a.result < length a.new.out) × (a.result < 18446744073709551615)
room c =
    let d = decimal-20 c.args.n in
    let e = written-end _ _ _ _ _ c.put_decimal-last.ensures in
    let l = written-length _ _ _ _ _ c.put_decimal-last.ensures (omega (arith, c.requires)) in
    (omega (arith, c.requires), omega (arith, c.requires))

pub put_decimal-last-requires : goal.put_decimal-last-requires
put_decimal-last-requires c = omega (arith, decimal-20 c.args.n, c.requires)

pub bounds-out-last : goal.bounds-out-last
bounds-out-last c = (room (goal.at.bounds-out-last c).After-put_decimal-last).0

pub overflow_add-result : goal.overflow_add-result
overflow_add-result c = record { fits = omega (arith, (room (goal.at.overflow_add-result c).After-put_decimal-last).0) }

pub returns : goal.returns
unfolding field
returns c =
    let d = decimal-20 c.args.n in
    let e = written-end _ _ _ _ _ c.put_decimal-last.ensures in
    record {
      written =
          written-more _ _ _ _ _ c.put_decimal-last.ensures _ _ (c.args.end ∷ [])
          (wrote-byte _ _ _ (room (goal.at.returns c).After-put_decimal-last).0)
          (omega (arith, c.requires));
      within = omega arith;
    }
