-- Laws of specs/Cursor.antt.
use Rattle.std.specs.Prelude.{ℕ, ◌<◌, ◌≡◌, refl, replicate}
use Rattle.std.proofs.Common.{◌∙◌, mod-eq_of_lt, arith}
use mathlib.Core.List.{List, []}
use Rattle.wire.specs.Words.{Holds, Zeros, Put, Same, flag_of}
use Rattle.wire.proofs.WordsLaws.{same_first, put_holds, zeros_hold, flag-back}
use Rattle.intake.specs.declared.held.Held.{Held}
use Rattle.intake.specs.declared.held.Cursor.{Cursor}
use Rattle.intake.specs.Slot.{searching, noted}
use Rattle.words.specs.Cursor.{read_held, held_words, read_cursor, cursor_words, CursorStored}

-- Laws.
-- the same words, perhaps elsewhere, are read as the same
module _ (t : List ℕ) (i : ℕ) (u : List ℕ) (k : ℕ) where
  pub held_same : Same t i u k 3 → read_held t i ≡ read_held u k
  unfolding read_held
  held_same s = rw (same_first t i u k 3 (omega arith) s, s 1 (omega arith), s 2 (omega arith))

  pub cursor-same : Same t i u k 5 → read_cursor t i ≡ read_cursor u k
  unfolding read_cursor
  cursor-same s =
      rw (same_first t i u k 5 (omega arith) s, s 1 (omega arith), s 2 (omega arith), s 3 (omega arith), s 4 (omega arith))

held_back : (h : Held) → read_held (held_words h) 0 ≡ h
unfolding read_held held_words
held_back h = rw (flag-back h.on)

cursor-back : (c : Cursor) → c.note < 256 → read_cursor (cursor_words c) 0 ≡ c
unfolding read_cursor cursor_words
cursor-back c s = rw (mod-eq_of_lt s, flag-back c.reading)

-- what was stored is read back
pub held-put : (t u : List ℕ) (i : ℕ) (h : Held) → Put t u i 3 (held_words h) → read_held u i ≡ h
held-put t u i h p = held_same u i (held_words h) 0 (put_holds t u i 3 (held_words h) p) ∙ held_back h

pub cursor-put : (t u : List ℕ) (i : ℕ) (c : Cursor) → CursorStored t u i c → read_cursor u i ≡ c
cursor-put t u i c p =
    cursor-same u i (cursor_words c) 0 (put_holds t u i 5 (cursor_words c) p.put) ∙ cursor-back c p.sized

-- the words stored are those of what is read there
pub held-clean : (t u : List ℕ) (i : ℕ) (h : Held) → Put t u i 3 (held_words h) → Holds u i 3 (held_words (read_held u i))
held-clean t u i h p = rw (held-put t u i h p) p.holds

pub cursor-clean : (t u : List ℕ) (i : ℕ) (c : Cursor) → CursorStored t u i c → Holds u i 5 (cursor_words (read_cursor u i))
cursor-clean t u i c p = rw (cursor-put t u i c p) p.put.holds

searching_words : held_words searching ≡ replicate 3 0
unfolding held_words
searching_words = refl

noted_words : cursor_words (noted 0) ≡ replicate 5 0
unfolding cursor_words
noted_words = refl

-- words that are 0: nothing is held, nothing is left to read
module _ (t : List ℕ) (i : ℕ) where
  pub held-zero : Zeros t i 3 → read_held t i ≡ searching
  unfolding read_held flag_of
  held-zero z = held_same t i [] 0 z

  pub held-zero-clean : Zeros t i 3 → Holds t i 3 (held_words (read_held t i))
  held-zero-clean z = rw (held-zero z, searching_words) (zeros_hold t i 3 z)

  pub cursor-zero : Zeros t i 5 → read_cursor t i ≡ noted 0
  unfolding read_cursor flag_of
  cursor-zero z = cursor-same t i [] 0 z

  pub cursor-zero-clean : Zeros t i 5 → Holds t i 5 (cursor_words (read_cursor t i))
  cursor-zero-clean z = rw (cursor-zero z, noted_words) (zeros_hold t i 5 z)
