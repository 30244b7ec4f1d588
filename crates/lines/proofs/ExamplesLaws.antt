-- Laws of specs/Examples.antt.
use Rattle.std.specs.Prelude.{refl}
use Rattle.lines.specs.Decimal.{digits, decimal}
use Rattle.lines.specs.Line.{field, place_text, carried_text, unit_line, id_text, note_line, refused_line, end_line}
use Rattle.lines.specs.Examples.{Examples}

pub examples : Examples
unfolding digits decimal field place_text carried_text unit_line id_text note_line refused_line end_line
examples = (refl, refl, refl, refl, refl)
