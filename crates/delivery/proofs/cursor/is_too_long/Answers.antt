-- Why `is_too_long` meets its contract: past the end there is no header.
use Rattle.std.specs.Prelude.{ℕ, ◌<◌, ◌≡◌, List, length, drop, leb}
use Rattle.std.proofs.Common.{◌∙◌, sym, arith}
use borrow.Author.Tests.{lt-leb}
use Rattle.tlv.specs.Packet.{too_long}
use lib.ListN.{drop_of_length-le}
use Rattle.delivery.proofs.cursor.is_too_long.Goals as goal

past : (s : List ℕ) (at : ℕ) → length s < at → leb at (length s) ≡ too_long (drop at s)
unfolding too_long
past s at h = lt-leb _ _ h ∙ sym (rw (drop_of_length-le s {i = at} (omega arith)))

pub returns-else-at-s : goal.returns-else-at-s
returns-else-at-s c = past c.args.s.now c.args.at (omega arith)
