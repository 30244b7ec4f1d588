-- Why copy_unit meets its contract: a record that is too short, an output that is too short, or a copy of what show gives.
use mathlib.Core.Path.{sym, ◌∙◌}
use Rattle.calls.proofs.ShowLaws.{copied-short, copied-whole, show-few, show-long}
use Rattle.calls.proofs.show.copy_unit.Goals as goal

pub returns-then-event-lt-RECORD_WORDS : goal.returns-then-event-lt-RECORD_WORDS
returns-then-event-lt-RECORD_WORDS c len = sym (show-few _ _ _ _ len c.if-event-lt-RECORD_WORDS.true)

pub returns-then-output-bytes : goal.returns-then-output-bytes
returns-then-output-bytes c len =
    let e = rw c.load_place-place.ensures at c.show-bytes.ensures in
    sym (show-long _ _ _ _ len c.if-event-lt-RECORD_WORDS.false ∙ copied-short _ _ len (rw e at c.if-output-bytes.true))

pub returns : goal.returns
returns c len =
    let e = rw c.load_place-place.ensures at c.show-bytes.ensures in
    rw (c.copy_at.ensures, e)
    (sym (show-long _ _ _ _ len c.if-event-lt-RECORD_WORDS.false ∙ copied-whole _ _ len (rw e at c.if-output-bytes.false)))
