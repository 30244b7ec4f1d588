-- Held bytes and the cursor in words that the caller lends. Reading is total; what is written is read back.
use Rattle.std.specs.Prelude.{ℕ, ◌+◌, ◌%◌, ◌<◌, get_or}
use mathlib.Core.List.{List, [], ◌∷◌}
use Rattle.wire.specs.Words.{Put, flag_of, flag_word}
use Rattle.intake.specs.declared.held.Held.{Held}
use Rattle.intake.specs.declared.held.Cursor.{Cursor}

-- held bytes, three words from i on
unfoldable pub read_held : List ℕ → ℕ → Held
read_held t i = record { on = flag_of (get_or t i 0); start = get_or t (i + 1) 0; len = get_or t (i + 2) 0 }

unfoldable pub held_words : Held → List ℕ
held_words h = flag_word h.on ∷ h.start ∷ h.len ∷ []

-- the cursor, five words
unfoldable pub read_cursor : List ℕ → ℕ → Cursor
read_cursor t i =
    record {
      note = get_or t i 0 % 256;
      packet = get_or t (i + 1) 0;
      reading = flag_of (get_or t (i + 2) 0);
      at = get_or t (i + 3) 0;
      end = get_or t (i + 4) 0;
    }

unfoldable pub cursor_words : Cursor → List ℕ
cursor_words c = c.note ∷ c.packet ∷ flag_word c.reading ∷ c.at ∷ c.end ∷ []

-- words after the cursor was stored; a note fits its type
pub record CursorStored (before after : List ℕ) (i : ℕ) (c : Cursor) : Type 0 where
  pub put : Put before after i 5 (cursor_words c)
  pub sized : c.note < 256
