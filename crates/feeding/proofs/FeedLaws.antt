-- Laws of specs/Feed.antt.
use Prim.Native.Nat.{ℕ, zero, suc, min, max, ◌+◌, ◌-◌, ◌<◌, ◌≤◌}
use Rattle.std.specs.Prelude.{◌≡◌, Option, Some, None, unwrap_or, Bool, true, false, cond, ◌&&◌, List, take, drop, eqb, ltb}
use Rattle.std.proofs.Math.Path.{refl}
use Rattle.std.proofs.Common.{ap, ◌∙◌, length-take, take-append-drop, length-take-le}
use Rattle.std.proofs.Math.Bool.{not, and-false, and-eq-true_iff}
use Rattle.std.proofs.Math.Nat.{add-sub_cancel_left}
use native.Mathlib.Omega.{arith}
use borrow.Author.Tests.{lt-ltb, le-ltb, eq-eqb, ne_eqb, ltb-true, ltb-false, eqb-true, eqb-false, not-true}
use Rattle.std.proofs.Math.ListN.{length, length-drop}
use Rattle.wire.specs.Memory.{pasted}
use Rattle.wire.proofs.MemoryLaws.{length-pasted, pasted-take}
use Rattle.wire.proofs.Choice.{by_test}
use Rattle.capture.specs.Session.{Progress, Session}
use Rattle.feeding.specs.Turn.{Turn, some_of, kept_turn, Stands}
use Rattle.feeding.specs.declared.feed.Turn.{Turn as ValuesTurn}
use Rattle.capture.specs.Command.{longest_command, size_of}
use Rattle.capture.proofs.CommandLaws.{size_none, size-grows, size-kept, front-whole}
use Rattle.capture.specs.Steps.{roomy, acted_of, poured_of}
use Rattle.feeding.specs.Feed.{held_of, wanted_of, kept_of, Keeps, gathered_of, whole_size, bytes_taken, source_of, ran_of, goes_by, World, goes, turn_of, fed_by, fed_from, left_by, entered, fed_of, Front, Wants}

-- Laws.
module _ (s : Session) (b p c out : List ℕ) (at : ℕ) where
  pub ran-part : length b < size_of b → ran_of s b p c out at ≡ (record { session = s; at = at }, p, c, out)
  unfolding ran_of
  ran-part h = rw (lt-ltb _ _ h)

  pub ran-whole : size_of b ≤ length b → (a : Progress) (p' o : List ℕ) → (a, p', o) ≡ acted_of s p c b out at
      → (w : Progress) (c' o' : List ℕ) → (w, c', o') ≡ poured_of a.session p' c o a.at
      → ran_of s b p c out at ≡ (w, p', c', o')
  unfolding ran_of
  ran-whole h a p' o e w c' o' f = rw (le-ltb _ _ h, ← e, ← f)

module _ (b : List ℕ) where
  pub wanted_first : length b ≡ 0 → wanted_of b ≡ 1
  unfolding wanted_of
  wanted_first h = rw (eq-eqb _ _ h)

  pub wanted_rest : (length b ≡ 0 → ⊥) → wanted_of b ≡ size_of b - length b
  unfolding wanted_of
  wanted_rest h = rw (ne_eqb _ _ h)

-- what is kept
module _ (command : List ℕ) (held : ℕ) where
  pub kept-past : length command < held → kept_of command held ≡ 0
  unfolding kept_of
  kept-past h = rw (lt-ltb _ _ h)

  module _ (l : held ≤ length command) where
    pub kept-all : held < size_of (held_of command held) → kept_of command held ≡ held
    unfolding kept_of
    kept-all h = rw (le-ltb _ _ l, lt-ltb _ _ h)

    pub kept-none : size_of (held_of command held) ≤ held → kept_of command held ≡ 0
    unfolding kept_of
    kept-none h = rw (le-ltb _ _ l, le-ltb _ _ h)

    pub wants_all : held < size_of (held_of command held) → 1 ≤ wanted_of (held_of command held)
    wants_all h =
        let e : length (held_of command held) ≡ held = length-take-le held command l in
        let z : length (held_of command held) ≡ 0 → ⊥ =
        λ q. let y = size_none (held_of command held) q in omega arith in
        let w = wanted_rest (held_of command held) z in
        omega arith

    pub keeps-all : held < size_of (held_of command held) → size_of (held_of command held) ≤ longest_command → Keeps command held
    keeps-all h m =
        let e : length (held_of command held) ≡ held = length-take-le held command l in
        let z : length (held_of command held) ≡ 0 → ⊥ =
        λ q. let y = size_none (held_of command held) q in omega arith in
        let w = wanted_rest (held_of command held) z in
        record { some = omega arith; most = omega arith }

pub keeps-none : (command : List ℕ) → Keeps command 0
keeps-none command = let w = wanted_first (held_of command 0) refl in record { some = omega arith; most = omega arith }

-- a command in the block, case by case
module _ (b : List ℕ) where
  pub whole-none : length b ≡ 0 → whole_size b ≡ 0
  unfolding whole_size
  whole-none h = rw (eq-eqb _ _ h)

  module _ (o : length b ≡ 0 → ⊥) where
    pub whole_unknown : size_of b ≡ 0 → whole_size b ≡ 1
    unfolding whole_size
    whole_unknown h = rw (ne_eqb _ _ o, eq-eqb _ _ h)

    module _ (k : size_of b ≡ 0 → ⊥) where
      pub whole_part : length b < size_of b → whole_size b ≡ 0
      unfolding whole_size
      whole_part h = rw (ne_eqb _ _ o, ne_eqb _ _ k, lt-ltb _ _ h)

      pub whole-known : size_of b ≤ length b → whole_size b ≡ size_of b
      unfolding whole_size
      whole-known h = rw (ne_eqb _ _ o, ne_eqb _ _ k, le-ltb _ _ h)

-- the first byte of an unknown command stands for it
module _ (b : List ℕ) (n : ℕ) (e : n ≡ max (size_of b) 1) where
  pub whole_fits : n ≤ length b → whole_size b ≡ n
  whole_fits h = go (eqb (size_of b) 0) refl
    where
      o : length b ≡ 0 → ⊥
      o z = omega arith

      go : (t : Bool) → eqb (size_of b) 0 ≡ t → whole_size b ≡ n
      go true f = let z = eqb-true (size_of b) 0 f in whole_unknown b o z ∙ omega arith
      go false f = let z = eqb-false (size_of b) 0 f in whole-known b o z (omega arith) ∙ omega arith

  pub whole_over : length b < n → whole_size b ≡ 0
  whole_over h = go (eqb (length b) 0) refl
    where
      go : (t : Bool) → eqb (length b) 0 ≡ t → whole_size b ≡ 0
      go true f = whole-none b (eqb-true (length b) 0 f)
      go false f = let z = eqb-false (length b) 0 f in whole_part b z (λ y. omega arith) (omega arith)

-- some bytes, and which
pub some-of : (n : ℕ) → 1 ≤ n → Some n ≡ some_of n
some-of zero h = absurd (omega arith)
some-of (suc n) h = refl

pub of-some : (n k : ℕ) → Some n ≡ some_of k → (k ≡ n) × (1 ≤ n)
of-some n zero e = cc
of-some n (suc k) e = let i : suc k ≡ n = cc in (i, omega arith)

pub of-none : (k : ℕ) → None ≡ some_of k → k ≡ 0
of-none zero e = refl
of-none (suc k) e = cc

pub or-none : (n : ℕ) → unwrap_or (some_of n) 0 ≡ n
or-none zero = refl
or-none (suc n) = refl

pub stands-of : (n size : ℕ) → n ≤ size → Stands (some_of n) size
stands-of zero size h = tt
stands-of (suc n) size h = h

pub whole-front : (b : List ℕ) → (whole_size b ≡ 0 → ⊥) → Front b (whole_size b)
whole-front b z = go (eqb (length b) 0) (eqb (size_of b) 0) (ltb (length b) (size_of b)) refl refl refl
  where
    go : (x y t : Bool) → eqb (length b) 0 ≡ x → eqb (size_of b) 0 ≡ y → ltb (length b) (size_of b) ≡ t → Front b (whole_size b)
    go true y t e f g = absurd (z (whole-none b (eqb-true _ _ e)))
    go false true t e f g =
        let o = eqb-false (length b) 0 e in
        let k = eqb-true (size_of b) 0 f in
        let l : 1 ≤ length b = omega arith in
        let i = length-take-le 1 b l in
        let s = rw (take-append-drop 1 b) at (size-grows (take 1 b) (drop 1 b) (omega arith)) in
        rw (whole_unknown b o k) (record { within = l; whole = omega arith; exact = λ m. absurd (omega arith) })
    go false false true e f g =
        absurd (z (whole_part b (eqb-false (length b) 0 e) (eqb-false (size_of b) 0 f) (ltb-true _ _ g)))
    go false false false e f g =
        let k = eqb-false (size_of b) 0 f in
        let l = ltb-false _ _ g in
        let i = length-take-le (size_of b) b l in
        let s = front-whole b (omega arith) l in
        let q = rw (take-append-drop (size_of b) b) at (size-kept (take (size_of b) b) (drop (size_of b) b) (omega arith) s) in
        rw (whole-known b (eqb-false (length b) 0 e) k l)
        (record { within = l; whole = omega arith; exact = λ m. omega arith })

module _ (command : List ℕ) (held : ℕ) (block : List ℕ) (read : ℕ) where
  -- taken from the block, or gathered
  pub taken-whole : held ≡ 0 → (whole_size (drop read block) ≡ 0 → ⊥)
      → bytes_taken command held block read ≡ (record { took = whole_size (drop read block); gathered = 0 }, command)
  unfolding bytes_taken
  taken-whole h z = rw (eq-eqb _ _ h, ne_eqb _ _ z)

  pub taken-held : (held ≡ 0 → ⊥) → bytes_taken command held block read ≡ gathered_of command held block read
  unfolding bytes_taken
  taken-held h = rw (ne_eqb _ _ h)

  pub taken-part : whole_size (drop read block) ≡ 0 → bytes_taken command held block read ≡ gathered_of command held block read
  unfolding bytes_taken
  taken-part z = rw (eq-eqb _ _ z, and-false (eqb held 0))

  pub gathered-by : (d : List ℕ) (n : ℕ) → read ≤ length block → n ≡ min (wanted_of (held_of command held)) (length block - read)
      → d ≡ pasted command held (take (read + n - read) (drop read block)) (length (take (read + n - read) (drop read block)))
      → (record { took = n; gathered = held + n }, d) ≡ gathered_of command held block read
  unfolding gathered_of
  gathered-by d n l e f =
      let k = length-drop read block in
      let q : d ≡ pasted command held (drop read block) n =
      rw add-sub_cancel_left at f ∙ pasted-take command held (drop read block) n (omega arith) in
      rw (q, e)

-- the command's bytes
module _ (command : List ℕ) (block : List ℕ) (from to : ℕ) where
  pub source_block : source_of command 0 block from to ≡ take (to - from) (drop from block)
  unfolding source_of
  source_block = refl

  pub source_gathered : (n : ℕ) → (n ≡ 0 → ⊥) → source_of command n block from to ≡ held_of command n
  unfolding source_of
  source_gathered n h = rw (ne_eqb _ _ h)

-- they are some
pub source_some : (command block : List ℕ) (from n gathered : ℕ) → 1 ≤ n → from + n ≤ length block → gathered ≤ length command
    → 1 ≤ length (source_of command gathered block from (from + n))
source_some command block from n gathered h l m = go (eqb gathered 0) refl
  where
    go : (t : Bool) → eqb gathered 0 ≡ t → 1 ≤ length (source_of command gathered block from (from + n))
    go true e =
        rw (eqb-true gathered 0 e, source_block command block from (from + n), add-sub_cancel_left, length-take)
        (omega (arith, length-drop from block))
    go false e =
        let z = eqb-false gathered 0 e in
        rw (source_gathered command block from (from + n) gathered z, length-take) (omega arith)

-- more bytes are wanted behind what is kept
pub kept_wants : (command : List ℕ) (held : ℕ) → 1 ≤ wanted_of (held_of command (kept_of command held))
kept_wants command held = go (ltb (length command) held) (ltb held (size_of (held_of command held))) refl refl
  where
    none : 1 ≤ wanted_of (held_of command 0)
    none = (keeps-none command).some

    go : (a b : Bool) → ltb (length command) held ≡ a → ltb held (size_of (held_of command held)) ≡ b
        → 1 ≤ wanted_of (held_of command (kept_of command held))
    go true b p q = rw (kept-past command held (ltb-true _ _ p)) none
    go false true p q =
        let l = ltb-false _ _ p in
        let h = ltb-true _ _ q in
        rw (kept-all command held l h) (wants_all command held l h)
    go false false p q = rw (kept-none command held (ltb-false _ _ p) (ltb-false _ _ q)) none

-- at least one byte is taken, and none past the block's end
module _ (command : List ℕ) (held : ℕ) (block : List ℕ) (read : ℕ) (h : 1 ≤ wanted_of (held_of command held)) (l : read < length block)
  where
    abbrev Taken : Turn × List ℕ → Type 0
    Taken x = (1 ≤ x.0.took) × (read + x.0.took ≤ length block)

    gathered-some : Taken (gathered_of command held block read)
    unfolding gathered_of
    gathered-some = (omega arith, omega arith)

    pub taken-some : Taken (bytes_taken command held block read)
    unfolding bytes_taken
    taken-some =
        let n = whole_size (drop read block) in
        by_test Taken (eqb held 0 && not (eqb n 0)) (record { took = n; gathered = 0 }, command) (gathered_of command held block read)
        (λ e. let z = eqb-false n 0 (not-true _ ((and-eq-true_iff (eqb held 0) (not (eqb n 0))).0 e).1) in
        let i = (whole-front (drop read block) z).within in
        (omega arith, omega (arith, length-drop read block)))
        (λ e. gathered-some)

module _ (block : List ℕ) (w : World) where
  pub turn_wants : Wants (turn_of block w)
  unfolding turn_of
  turn_wants = kept_wants _ _

  -- a turn reads at least one byte of the block, and none past its end
  pub turn-reads : Wants w → w.read < length block → (w.read < (turn_of block w).read) × ((turn_of block w).read ≤ length block)
  unfolding turn_of
  turn-reads h l = let t = taken-some w.command w.held block w.read h l in (omega arith, omega arith)

  goes-reads : goes block w ≡ true → w.read < length block
  unfolding goes_by
  goes-reads e = ltb-true _ _ ((and-eq-true_iff (ltb w.read (length block)) _).0 e).0

fed-enough : (f g : ℕ) (block : List ℕ) (w : World) → Wants w → length block - w.read ≤ f → length block - w.read ≤ g
    → fed_by f block w ≡ fed_by g block w
unfolding fed_by
fed-enough zero zero block w z h k = refl
fed-enough zero (suc g) block w z h k = go (goes block w) refl
  where
    go : (b : Bool) → goes block w ≡ b → w ≡ cond b (fed_by g block (turn_of block w)) w
    go true e = let l = goes-reads block w e in absurd (omega arith)
    go false e = refl
fed-enough (suc f) zero block w z h k = go (goes block w) refl
  where
    go : (b : Bool) → goes block w ≡ b → cond b (fed_by f block (turn_of block w)) w ≡ w
    go true e = let l = goes-reads block w e in absurd (omega arith)
    go false e = refl
fed-enough (suc f) (suc g) block w z h k =
    go (goes block w) refl
    (λ l. let t = turn-reads block w z l in
    fed-enough f g block (turn_of block w) (turn_wants block w) (omega arith) (omega arith))
  where
    go : (b : Bool) → goes block w ≡ b
        → (w.read < length block → fed_by f block (turn_of block w) ≡ fed_by g block (turn_of block w))
        → cond b (fed_by f block (turn_of block w)) w ≡ cond b (fed_by g block (turn_of block w)) w
    go true e i = i (goes-reads block w e)
    go false e i = refl

module _ (block : List ℕ) (w : World) (z : Wants w) where
  fed_unroll : fed_from block w ≡ cond (goes block w) (fed_by (length block - w.read) block (turn_of block w)) w
  unfolding fed_from fed_by
  fed_unroll = fed-enough (length block - w.read) (suc (length block - w.read)) block w z (omega arith) (omega arith)

  pub fed-turn : goes block w ≡ true → fed_from block w ≡ fed_from block (turn_of block w)
  unfolding fed_from
  fed-turn e =
      let t = turn-reads block w z (goes-reads block w e) in
      fed_unroll ∙ rw e
      (fed-enough (length block - w.read) (length block - (turn_of block w).read) block (turn_of block w) (turn_wants block w)
      (omega arith) (omega arith))

  pub fed-stops : goes block w ≡ false → fed_from block w ≡ w
  fed-stops e = fed_unroll ∙ rw e

-- what a turn has that is made
module _ (s : Session) (read size written room : ℕ) (e : goes_by s read size written room ≡ true) where
  pub goes-read : read < size
  unfolding goes_by
  goes-read = ltb-true _ _ ((and-eq-true_iff (ltb read size) _).0 e).0

  pub goes-room : roomy room written ≡ true
  unfolding goes_by
  goes-room = ((and-eq-true_iff (roomy room written) _).0 ((and-eq-true_iff (ltb read size) _).0 e).1).0

-- what a turn takes stands within the memories
module _ (command : List ℕ) (held : ℕ) (block : List ℕ) (read : ℕ) (k : Keeps command held) (m : longest_command ≤ length command) where
  abbrev Within : Turn × List ℕ → Type 0
  Within x = (x.0.gathered ≤ longest_command) × (length x.1 ≡ length command)

  gathered-within : Within (gathered_of command held block read)
  unfolding gathered_of
  gathered-within =
      let some = k.some in
      let most = k.most in
      let h : held + min (wanted_of (held_of command held)) (length block - read) ≤ length command = omega arith in
      let q : min (wanted_of (held_of command held)) (length block - read) ≤ length (drop read block) =
      rw (length-drop read block) (omega arith) in
      (omega arith, length-pasted command held (drop read block) _ h q)

  pub taken-within : Within (bytes_taken command held block read)
  unfolding bytes_taken
  taken-within =
      let n = whole_size (drop read block) in
      by_test Within (eqb held 0 && not (eqb n 0)) (record { took = n; gathered = 0 }, command)
      (gathered_of command held block read) (λ e. (omega arith, refl)) (λ e. gathered-within)

pub taken-by : (command d : List ℕ) (held : ℕ) (block : List ℕ) (read : ℕ) (g : Turn) → (g, d) ≡ bytes_taken command held block read
    → Keeps command held → read < length block → longest_command ≤ length command
    → (1 ≤ g.took) × (read + g.took ≤ length block) × (g.gathered ≤ longest_command) × (length d ≡ length command)
taken-by command d held block read g e k l m =
    let s = rw (← e) at (taken-some command held block read k.some l) in
    let w = rw (← e) at (taken-within command held block read k m) in
    (s.0, s.1, w.0, w.1)

-- as the program keeps it
module _ (g : ValuesTurn) (d : List ℕ) (x : Turn × List ℕ) (e : (g, d) ≡ kept_turn x) where
  pub kept-gathered : g.gathered ≡ some_of x.0.gathered
  kept-gathered = ap (λ (y : ValuesTurn × List ℕ). y.0.gathered) e

  pub kept-is : (record { took = g.took; gathered = x.0.gathered }, d) ≡ x
  kept-is =
      let t = ap (λ (y : ValuesTurn × List ℕ). y.0.took) e in
      let k = ap (λ (y : ValuesTurn × List ℕ). y.1) e in
      rw (t, k)

pub turn_by_lem : (block : List ℕ) (w : World) (g : Turn) (d : List ℕ) → (g, d) ≡ bytes_taken w.command w.held block w.read
    → (b : List ℕ) → b ≡ source_of d g.gathered block w.read (w.read + g.took)
    → (r : Progress) (p c o : List ℕ) → (r, p, c, o) ≡ ran_of w.session b w.packet w.collecting w.out w.written
    → (k : ℕ) → k ≡ kept_of d g.gathered
    → turn_of block w
    ≡ record {
      session = r.session;
      held = k;
      command = d;
      read = w.read + g.took;
      packet = p;
      collecting = c;
      out = o;
      written = r.at;
    }
unfolding turn_of
turn_by_lem block w g d e b q r p c o f k h = rw (← e, ← q, ← f, h)

-- a command memory that is too short, and one that is long enough
module _ (s : Session) (held : ℕ) (command block p c out : List ℕ) where
  pub fed-short : length command < longest_command → fed_of s held command block p c out ≡ left_by (entered s held command p c out)
  unfolding fed_of
  fed-short h = rw (lt-ltb _ _ h)

  pub fed-long : longest_command ≤ length command → (k : ℕ) → k ≡ kept_of command held → {w : World}
      → fed_from block (entered s k command p c out) ≡ w → fed_of s held command block p c out ≡ left_by w
  unfolding fed_of
  fed-long h k e f = rw (le-ltb _ _ h, ← e, f)
