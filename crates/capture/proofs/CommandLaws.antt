-- Laws of specs/Command.antt.
use Rattle.std.specs.Prelude.{◌≡◌, ℕ, ◌+◌, ◌%◌, ◌<◌, ◌≤◌, Bool, true, false, List, [], ◌∷◌, ◌++◌, length, take, drop, nat_lt, slice_index, slice_index_or, refl}
use Rattle.std.proofs.Common.{sym, ◌∙◌, arith, lt-ltb, le-ltb, ltb-true, ltb-false, length-append, take-append-drop, length-take-le}
use Rattle.std.proofs.Math.Path.{ap}
use Rattle.std.proofs.Math.ListN.{get_or-append}
use Rattle.wire.specs.Field.{be}
use Rattle.wire.proofs.FieldLaws.{be-2}
use Rattle.capture.specs.declared.command.Letter.{Letter}
use Rattle.capture.specs.declared.command.Letter.TheVariants.{Start, Frame, LostFrame, Slot, LostSlot, Unknown}
use Rattle.capture.specs.Command.{letter_of, slot_size, size_by, size_of, longest_command}

-- Laws.
module _ (b : List ℕ) where
  pub slot-size-short : length b < 3 → slot_size b ≡ 3
  unfolding slot_size
  slot-size-short h = rw (lt-ltb _ _ h)

  pub slot-size-known : 3 ≤ length b → slot_size b ≡ 3 + be 2 b 1 % 65536
  unfolding slot_size
  slot-size-known h = rw (le-ltb _ _ h)

  -- S that is whole has its length
  pub slot-size-long : slot_size b ≤ length b → 3 ≤ length b
  slot-size-long h = go (nat_lt (length b) 3) refl
    where
      go : (t : Bool) → nat_lt (length b) 3 ≡ t → 3 ≤ length b
      go true e = let l = ltb-true (length b) 3 e in omega (arith, slot-size-short l)
      go false e = ltb-false (length b) 3 e

  pub slot-size-within : (3 ≤ slot_size b) × (slot_size b ≤ longest_command)
  slot-size-within = go (nat_lt (length b) 3) refl
    where
      go : (t : Bool) → nat_lt (length b) 3 ≡ t → (3 ≤ slot_size b) × (slot_size b ≤ longest_command)
      go true e = let l = slot-size-short (ltb-true (length b) 3 e) in (omega arith, omega arith)
      go false e = let l = slot-size-known (ltb-false (length b) 3 e) in (omega arith, omega arith)

  pub size-by : (l : Letter) → letter_of (slice_index b 0) ≡ l → size_of b ≡ size_by l b
  unfolding size_of
  size-by l e = ap (λ (x : Letter). size_by x b) e

pub size_none : (b : List ℕ) → length b ≡ 0 → size_of b ≡ 0
unfolding size_of letter_of
size_none [] e = refl
size_none (x ∷ b) e = absurd (omega arith)

-- an S that is whole keeps its size with more bytes behind it; no command gets shorter
module _ (b rest : List ℕ) where
  slot_kept : 3 ≤ length b → slot_size (b ++ rest) ≡ slot_size b
  slot_kept h =
      let e = length-append b rest in
      let p : slice_index_or (b ++ rest) 1 0 ≡ slice_index_or b 1 0 = get_or-append b rest 0 1 (omega arith) in
      let q : slice_index_or (b ++ rest) 2 0 ≡ slice_index_or b 2 0 = get_or-append b rest 0 2 (omega arith) in
      rw (slot-size-known (b ++ rest) (omega arith), slot-size-known b h, be-2 (b ++ rest) 1, be-2 b 1, p, q)

  module _ (h : 1 ≤ length b) where
    letter-kept : letter_of (slice_index (b ++ rest) 0) ≡ letter_of (slice_index b 0)
    letter-kept = ap letter_of (get_or-append b rest 0 0 h)

    pub size-kept : size_of b ≤ length b → size_of (b ++ rest) ≡ size_of b
    size-kept l = go (letter_of (slice_index b 0)) refl
      where
        go : (x : Letter) → letter_of (slice_index b 0) ≡ x → size_of (b ++ rest) ≡ size_of b
        go Start e = size-by (b ++ rest) Start (letter-kept ∙ e) ∙ sym (size-by b Start e)
        go Frame e = size-by (b ++ rest) Frame (letter-kept ∙ e) ∙ sym (size-by b Frame e)
        go LostFrame e = size-by (b ++ rest) LostFrame (letter-kept ∙ e) ∙ sym (size-by b LostFrame e)
        go Slot e =
            let z = size-by b Slot e in
            size-by (b ++ rest) Slot (letter-kept ∙ e) ∙ slot_kept (slot-size-long b (omega arith)) ∙ sym z
        go LostSlot e = size-by (b ++ rest) LostSlot (letter-kept ∙ e) ∙ sym (size-by b LostSlot e)
        go Unknown e = size-by (b ++ rest) Unknown (letter-kept ∙ e) ∙ sym (size-by b Unknown e)

    slot_grows : (t : Bool) → nat_lt (length b) 3 ≡ t → slot_size b ≤ slot_size (b ++ rest)
    slot_grows true e =
        let s = slot-size-short b (ltb-true (length b) 3 e) in
        let w = (slot-size-within (b ++ rest)).0 in
        omega arith
    slot_grows false e = let k = slot_kept (ltb-false (length b) 3 e) in omega arith

    pub size-grows : size_of b ≤ size_of (b ++ rest)
    size-grows = go (letter_of (slice_index b 0)) refl
      where
        go : (x : Letter) → letter_of (slice_index b 0) ≡ x → size_of b ≤ size_of (b ++ rest)
        go Start e = rw (size-by (b ++ rest) Start (letter-kept ∙ e), size-by b Start e) (omega arith)
        go Frame e = rw (size-by (b ++ rest) Frame (letter-kept ∙ e), size-by b Frame e) (omega arith)
        go LostFrame e = rw (size-by (b ++ rest) LostFrame (letter-kept ∙ e), size-by b LostFrame e) (omega arith)
        go Slot e = rw (size-by (b ++ rest) Slot (letter-kept ∙ e), size-by b Slot e) (slot_grows (nat_lt (length b) 3) refl)
        go LostSlot e = rw (size-by (b ++ rest) LostSlot (letter-kept ∙ e), size-by b LostSlot e) (omega arith)
        go Unknown e = rw (size-by (b ++ rest) Unknown (letter-kept ∙ e), size-by b Unknown e) (omega arith)

-- the bytes of a whole command, by themselves, are whole
pub front-whole : (b : List ℕ) → 1 ≤ size_of b → size_of b ≤ length b → size_of (take (size_of b) b) ≤ length (take (size_of b) b)
front-whole b o h =
    let l = length-take-le (size_of b) b h in
    let g = size-grows (take (size_of b) b) (drop (size_of b) b) (omega arith) in
    omega (arith, rw (take-append-drop (size_of b) b) at g)

pub size-most : (b : List ℕ) → size_of b ≤ longest_command
size-most b = go (letter_of (slice_index b 0)) refl
  where
    go : (x : Letter) → letter_of (slice_index b 0) ≡ x → size_of b ≤ longest_command
    go Start e = rw (size-by b Start e) (omega arith)
    go Frame e = rw (size-by b Frame e) (omega arith)
    go LostFrame e = rw (size-by b LostFrame e) (omega arith)
    go Slot e = rw (size-by b Slot e) (slot-size-within b).1
    go LostSlot e = rw (size-by b LostSlot e) (omega arith)
    go Unknown e = rw (size-by b Unknown e) (omega arith)
