-- A copy of a unit's bytes: show, with the place in a record and the bytes in a memory that the caller lends.
use Rattle.std.specs.Prelude.{ℕ, cond, List, ltb, length}
use Rattle.wire.specs.Memory.{pasted}
use Rattle.receiver.specs.Show.{show_of}
use Rattle.calls.specs.Record.{record_words, read_place}

-- what it leaves: its refusal's number or 0, how many bytes, and the output
abbrev pub Shown : Type 0
Shown = ℕ × ℕ × List ℕ

-- 93 for an output that is shorter than the unit (docs/DECISIONS.md)
unfoldable pub copied : List ℕ → List ℕ → ℕ → Shown
copied b out len = cond (ltb (length out) (length b)) (93, len, out) (0, length b, pasted out 0 b (length b))

-- 92 for a record of fewer than 24 words, before that
unfoldable pub show_call : List ℕ → List ℕ → List ℕ → List ℕ → ℕ → Shown
show_call p c t out len = cond (ltb (length t) record_words) (92, len, out) (copied (show_of p c (read_place t 0)) out len)
