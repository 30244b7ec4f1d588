-- Why feeding writes the first of the lines that the bytes ahead come to: a turn gathers bytes, or carries out a whole command.
use Prim.Native.Nat.{ℕ, zero, suc, min, ◌+◌, ◌-◌, ◌<◌, ◌≤◌}
use mathlib.Core.Path.{◌≡◌, refl, sym, ◌∙◌, ap}
use mathlib.Core.Bool.{Bool, true, false, cond, ◌&&◌, not, and-eq-true_iff, true≢false}
use mathlib.Core.List.{List, [], ◌++◌, append_assoc}
use native.Mathlib.Nat.{add-sub_cancel_left}
use native.Mathlib.Omega.{arith}
use borrow.Author.Tests.{leb-true, eqb-true, eqb-false, not-true, ltb-true, ltb-false, eq-eqb}
use lib.ListN.{length, get_or, take, drop, length-append, length-drop, take-append-drop}
use lib.Seq.{take-paste, take_at, drop_at, drop-drop, length-take-le}
use lib.Dec.{eqb, ltb}
use Rattle.wire.specs.Memory.{pasted}
use Rattle.wire.proofs.MemoryLaws.{length-pasted}
use Rattle.wire.proofs.Choice.{by_test}
use Rattle.capture.specs.declared.command.Letter.{Letter}
use Rattle.capture.specs.declared.command.Letter.TheVariants.{Start, Frame, LostFrame, Slot, LostSlot, Unknown}
use Rattle.capture.specs.declared.session.Phase.{Phase}
use Rattle.capture.specs.declared.session.Phase.TheVariants.{Before, Reading, Ended}
use Rattle.capture.specs.Session.{Session, busy, is_reading, is_ended, in_phase, with_state}
use Rattle.lines.specs.Line.{longest_line, refused_line}
use Rattle.lines.proofs.LineLaws.{field-21}
use Rattle.lines.specs.Text.{wrote}
use Rattle.lines.proofs.TextLaws.{wrote_none, wrote-end, length-wrote, wrote-append}
use Rattle.capture.specs.Command.{longest_command, letter_of, size_of, whole}
use Rattle.capture.proofs.CommandLaws.{size-by, slot-size-within, size-kept, size-grows, size-most, size_none}
use Rattle.capture.specs.Capture.{Done, fits, call_of, after_call, settled, done_of, last_line, text_of}
use Rattle.capture.specs.Steps.{roomy, acted_of, poured_of}
use Rattle.feeding.specs.Feed.{World, held_of, wanted_of, kept_of, Keeps, whole_size, gathered_of, bytes_taken, source_of, ran_of, goes_by, goes, turn_of, fed_by, fed_from}
use Rattle.feeding.proofs.FeedLaws.{keeps-all, keeps-none, wanted_first, wanted_rest, kept-all, kept-none, ran-part, ran-whole, goes-read, whole-front, taken-whole, taken-held, taken-part, source_block, source_gathered, turn_by_lem}
use Rattle.feeding.specs.Claims.{Right, ahead, Feeds, FeedClaim}
use Rattle.capture.proofs.Drains.{drain-idle}
use Rattle.capture.proofs.Pours.{pour_claim}
use Rattle.capture.proofs.Texts.{size-whole, text-step, text-behind}

right-keeps : (block : List ℕ) (w : World) → Right block w → Keeps w.command w.held
right-keeps block w r = go (eqb w.held 0) refl
  where
    go : (t : Bool) → eqb w.held 0 ≡ t → Keeps w.command w.held
    go true e = rw (eqb-true w.held 0 e) (keeps-none w.command)
    go false e = keeps-all w.command w.held r.held (r.part (eqb-false _ _ e)) (size-most _)

-- what a turn takes: `n` bytes of the block, so that the command's first bytes are `b`, `end` of them in the command memory `d`
pub record Takes (block : List ℕ) (w : World) (n end : ℕ) (d b : List ℕ) : Type 0 where
  pub first : 1 ≤ length b
  pub ahead-split : (more : List ℕ) → ahead block w more ≡ b ++ (drop (w.read + n) block ++ more)
  -- a command that is known is not passed
  pub within : 1 ≤ size_of b → length b ≤ size_of b
  -- it is held where it is not whole, else nothing is
  pub part : length b < size_of b → (take end d ≡ b) × (end ≤ length d)
  pub none : size_of b ≤ length b → kept_of d end ≡ 0

module _ (block : List ℕ) (w : World) where
  -- bytes ahead of which the first n are read
  front-split : (n : ℕ) (more : List ℕ)
      → ahead block w more ≡ (held_of w.command w.held ++ take n (drop w.read block)) ++ (drop (w.read + n) block ++ more)
  front-split n more =
      let new = take n (drop w.read block) in
      ap (λ (x : List ℕ). held_of w.command w.held ++ (x ++ more))
      (sym (take-append-drop n (drop w.read block)) ∙ ap (λ (x : List ℕ). new ++ x) (drop-drop n w.read block))
      ∙ ap (λ (x : List ℕ). held_of w.command w.held ++ x) (append_assoc new (drop (w.read + n) block) more)
      ∙ sym (append_assoc (held_of w.command w.held) new _)

-- bytes are gathered
module _ (block : List ℕ) (w : World) (r : Right block w) (l : w.read < length block) where
  abbrev n : ℕ
  n = min (wanted_of (held_of w.command w.held)) (length block - w.read)

  abbrev d : List ℕ
  d = pasted w.command w.held (drop w.read block) n

  abbrev b : List ℕ
  b = take (w.held + n) d

  abbrev new : List ℕ
  new = take n (drop w.read block)

  some : (1 ≤ n) × (w.held + n ≤ longest_command) × (w.read + n ≤ length block) × (length d ≡ length w.command)
  some =
      let k = right-keeps block w r in
      let some = k.some in
      let most = k.most in
      let long = r.long in
      let q : n ≤ length (drop w.read block) = rw (length-drop w.read block) (omega arith) in
      (omega arith, omega arith, omega arith, length-pasted w.command w.held (drop w.read block) n (omega arith) q)

  b-split : b ≡ held_of w.command w.held ++ new
  unfolding pasted
  b-split =
      let s = some in
      take-paste w.command w.held (drop w.read block) n r.held (rw (length-drop w.read block) (omega arith))

  b-length : length b ≡ w.held + n
  b-length = let s = some in let h = r.long in length-take-le (w.held + n) d (omega arith)

  b-within : 1 ≤ size_of b → length b ≤ size_of b
  b-within k = go (eqb w.held 0) refl
    where
      go : (t : Bool) → eqb w.held 0 ≡ t → length b ≤ size_of b
      go true e =
          let z = eqb-true _ _ e in
          let h = length-take-le w.held w.command r.held in
          let v = wanted_first (held_of w.command w.held) (h ∙ z) in
          let m = b-length in
          omega arith
      go false e =
          let z = eqb-false _ _ e in
          let h = length-take-le w.held w.command r.held in
          let v = wanted_rest (held_of w.command w.held) (λ q. z (sym h ∙ q)) in
          let g = size-grows (held_of w.command w.held) new (omega arith) in
          let p = r.part z in
          let m = b-length in
          let f : size_of (held_of w.command w.held) ≤ size_of b = rw b-split g in
          omega arith

  gathers : Takes block w n (w.held + n) d b
  gathers =
      let s = some in
      let m = b-length in
      let long = r.long in
      record {
        first = omega arith;
        ahead-split = λ more. rw b-split (front-split block w n more);
        within = b-within;
        part = λ h. (refl, omega arith);
        none = λ h. kept-none d (w.held + n) (omega arith) (omega arith);
      }

-- a command is taken from the block, where it stands whole
module _ (block : List ℕ) (w : World) (h : w.held ≡ 0) (z : whole_size (drop w.read block) ≡ 0 → ⊥) where
  abbrev size : ℕ
  size = whole_size (drop w.read block)

  from_block : Takes block w size 0 w.command (take size (drop w.read block))
  from_block =
      let f = whole-front (drop w.read block) z in
      let within = f.within in
      let whole = f.whole in
      let l = length-take-le size (drop w.read block) within in
      record {
        first = omega arith;
        ahead-split = λ more. front-split block w size more ∙ rw h;
        within = λ k. omega (arith, f.exact k);
        part = λ k. absurd (omega arith);
        none = λ k. kept-none w.command 0 (omega arith) (omega (arith, size_none (held_of w.command 0) refl));
      }

refused_longest : (n : ℕ) → length (refused_line n) ≤ longest_line
unfolding refused_line
refused_longest n = rw length-append (omega (arith, field-21 n 10))

-- a line of a command is no longer than any other
either_longest : (t : Bool) (x y : Done) → length x.text ≤ longest_line → length y.text ≤ longest_line → length (cond t x y).text ≤ longest_line
either_longest true x y h k = h
either_longest false x y h k = k

none_longest : length {A = ℕ} [] ≤ longest_line
none_longest = omega arith

done_longest : (s : Session) (p c b : List ℕ) → length (done_of s p c b).text ≤ longest_line
unfolding done_of
done_longest s p c b =
    let l = letter_of (get_or b 0 0) in
    let r = call_of l s.state p c b in
    either_longest (fits s.phase l) (settled l r.0 s r.1) (record { text = []; session = in_phase s Ended; packet = p })
    (either_longest (eqb r.0.refusal 0)
    (record { text = []; session = after_call l (with_state s r.0.state); packet = r.1 })
    (record { text = refused_line r.0.refusal; session = in_phase (with_state s r.0.state) Ended; packet = r.1 })
    none_longest (refused_longest r.0.refusal)) none_longest

-- a session that has ended gives its last line
pub ended-text : (s : Session) (p c b : List ℕ) → is_ended s.phase ≡ true → text_of s p c b ≡ last_line s.tally
ended-text s p c b e =
    text-step s p c b ∙ rw (drain-idle s p c (idle s.phase e)) (go (whole b) _)
  where
    idle : (x : Phase) → is_ended x ≡ true → is_reading x && s.state.owed ≡ false
    idle Before q = absurd (true≢false (sym q))
    idle Reading q = absurd (true≢false (sym q))
    idle Ended q = refl

    go : (t : Bool) (x : List ℕ) → cond (t && not (is_ended s.phase)) x (last_line s.tally) ≡ last_line s.tally
    go true x = rw e
    go false x = refl

-- an unknown command ends the session
unknown_letter : (b : List ℕ) (x : Letter) → letter_of (get_or b 0 0) ≡ x → size_of b ≡ 0 → x ≡ Unknown
unknown_letter b Start e m = let z = size-by b Start e in absurd (omega arith)
unknown_letter b Frame e m = let z = size-by b Frame e in absurd (omega arith)
unknown_letter b LostFrame e m = let z = size-by b LostFrame e in absurd (omega arith)
unknown_letter b Slot e m =
    let z = size-by b Slot e in
    let y = (slot-size-within b).0 in
    absurd (omega arith)
unknown_letter b LostSlot e m = let z = size-by b LostSlot e in absurd (omega arith)
unknown_letter b Unknown e m = refl

unknown_done : (s : Session) (p c b : List ℕ) → size_of b ≡ 0
    → done_of s p c b ≡ record { text = []; session = in_phase s Ended; packet = p }
unfolding done_of
unknown_done s p c b m = rw (unknown_letter b _ refl m, unfit s.phase)
  where
    unfit : (x : Phase) → fits x Unknown ≡ false
    unfit Before = refl
    unfit Reading = refl
    unfit Ended = refl

pub unknown_whole : (b : List ℕ) → size_of b ≡ 0 → whole b ≡ false
unfolding whole
unknown_whole b m = rw (eq-eqb (size_of b) 0 m)

-- a command that is whole, or unknown, is carried out
module _ (s : Session) (p c b rest : List ℕ) (h : 1 ≤ length b) (i : busy s ≡ false) (e : is_ended s.phase ≡ false)
    (k : size_of b ≤ length b) where
  known-text : 1 ≤ size_of b → length b ≤ size_of b
      → let q = done_of s p c b in text_of s p c (b ++ rest) ≡ q.text ++ text_of q.session q.packet c rest
  known-text m l =
      let z = size-kept b rest h k in
      let y : size_of b ≡ length b = omega arith in
      let x = length-append b rest in
      let v = size-whole (b ++ rest) (omega arith) (omega arith) in
      let t : take (size_of (b ++ rest)) (b ++ rest) ≡ b = take_at b rest _ (sym (z ∙ y)) in
      let u : drop (size_of (b ++ rest)) (b ++ rest) ≡ rest = drop_at b rest _ (sym (z ∙ y)) in
      text-step s p c (b ++ rest) ∙ rw (drain-idle s p c i, v, e, t, u)

  unknown_text : size_of b ≡ 0
      → let q = done_of s p c b in text_of s p c (b ++ rest) ≡ q.text ++ text_of q.session q.packet c rest
  unknown_text m =
      let z = size-kept b rest h k in
      let q = unknown_done s p c b m in
      text-step s p c (b ++ rest) ∙ rw (drain-idle s p c i, unknown_whole (b ++ rest) (z ∙ m), q)
      (sym (ended-text (in_phase s Ended) p c rest refl))

  done-text : (1 ≤ size_of b → length b ≤ size_of b)
      → let q = done_of s p c b in text_of s p c (b ++ rest) ≡ q.text ++ text_of q.session q.packet c rest
  done-text f = go (eqb (size_of b) 0) refl
    where
      go : (t : Bool) → eqb (size_of b) 0 ≡ t
          → let q = done_of s p c b in text_of s p c (b ++ rest) ≡ q.text ++ text_of q.session q.packet c rest
      go true m = unknown_text (eqb-true _ _ m)
      go false m =
          let z : 1 ≤ size_of b = omega (arith, eqb-false (size_of b) 0 m) in
          known-text z (f z)

-- a turn
module _ (block : List ℕ) (w : World) (r : Right block w) (g : goes block w ≡ true) where
  reading : w.read < length block
  reading = goes-read _ _ _ _ _ g

  free : (roomy (length w.out) w.written ≡ true) × (busy w.session ≡ false) × (is_ended w.session.phase ≡ false)
  unfolding goes_by
  free =
      let s = w.session in
      let x = ((and-eq-true_iff (ltb w.read (length block)) _).0 g).1 in
      let y = (and-eq-true_iff (roomy (length w.out) w.written) (not (busy s) && not (is_ended s.phase))).0 x in
      let z = (and-eq-true_iff (not (busy s)) (not (is_ended s.phase))).0 y.1 in
      (y.0, not-true _ z.0, not-true _ z.1)

  abbrev v : World
  v = turn_of block w

  module _ (n end : ℕ) (d x : List ℕ) (tk : Takes block w n end d x) (same : length d ≡ length w.command)
      (past : w.read + n ≤ length block) where
    -- after it
    abbrev after : World
    after =
        let y = ran_of w.session x w.packet w.collecting w.out w.written in
        record {
          session = y.0.session;
          held = kept_of d end;
          command = d;
          read = w.read + n;
          packet = y.1;
          collecting = y.2;
          out = y.3;
          written = y.0.at;
        }

    -- bytes are gathered, and the command is not whole
    turn-part : length x < size_of x → Right block after × Feeds block w after
    turn-part h =
        let p = tk.part h in
        let q : length x ≡ end = ap length (sym p.0) ∙ length-take-le end d p.1 in
        let long = r.long in
        let written = r.written in
        let held = p.1 in
        let k = kept-all d end p.1 (rw p.0 (omega arith)) in
        rw (ran-part w.session x w.packet w.collecting w.out w.written h, k) (
          record { part = λ z. rw p.0 (omega arith); held = omega arith; long = omega arith; read = past; written = written },
          record {
            text = [];
            written = sym (wrote_none w.out w.written);
            within = omega arith;
            rest = λ more. ap (text_of w.session w.packet w.collecting) (tk.ahead-split more ∙ rw p.0);
          },
        )

    -- the command is carried out
    turn-whole : size_of x ≤ length x → Right block after × Feeds block w after
    unfolding acted_of
    turn-whole h =
        let long = r.long in
        let k = tk.none h in
        let q = done_of w.session w.packet w.collecting x in
        let room = leb-true (w.written + longest_line) (length w.out) free.0 in
        let short = done_longest w.session w.packet w.collecting x in
        let o = wrote w.out w.written q.text in
        let e : o.0 ≡ w.written + length q.text = wrote-end w.out w.written q.text in
        let l : length o.1 ≡ length w.out = length-wrote w.out w.written q.text (omega arith) in
        let y = pour_claim q.session q.packet w.collecting o.1 o.0 (omega arith) in
        let z = poured_of q.session q.packet w.collecting o.1 o.0 in
        let within = y.within in
        let i : z.0.at ≡ o.0 + length y.text =
        ap (λ (t : ℕ × List ℕ). t.0) y.written ∙ wrote-end o.1 o.0 y.text in
        let j : length z.2 ≡ length o.1 =
        ap (λ (t : ℕ × List ℕ). length t.1) y.written ∙ length-wrote o.1 o.0 y.text within in
        rw (ran-whole w.session x w.packet w.collecting w.out w.written h _ _ _ refl _ _ _ refl, k) (
          record { part = λ f. absurd (f refl); held = omega arith; long = omega arith; read = past; written = omega arith },
          record {
            text = q.text ++ y.text;
            written = y.written ∙ wrote-append w.out w.written q.text y.text (omega arith);
            within = rw length-append (omega arith);
            rest = λ more.
                ap (text_of w.session w.packet w.collecting) (tk.ahead-split more)
                ∙ done-text w.session w.packet w.collecting x _ tk.first free.1 free.2 h tk.within
                ∙ ap (λ (t : List ℕ). q.text ++ t)
                (text-behind q.session q.packet w.collecting _ y.text z.0.session z.1 y.owed)
                ∙ sym (append_assoc q.text y.text _);
          },
        )

    turn_takes : Right block after × Feeds block w after
    turn_takes = go (ltb (length x) (size_of x)) refl
      where
        go : (t : Bool) → ltb (length x) (size_of x) ≡ t → Right block after × Feeds block w after
        go true e = turn-part (ltb-true _ _ e)
        go false e = turn-whole (ltb-false _ _ e)

    turn-made : (record { took = n; gathered = end }, d) ≡ bytes_taken w.command w.held block w.read
        → x ≡ source_of d end block w.read (w.read + n) → Right block v × Feeds block w v
    turn-made e q =
        rw (turn_by_lem block w (record { took = n; gathered = end }) d e x q _ _ _ _ refl _ refl) turn_takes

  gathered-feeds : bytes_taken w.command w.held block w.read ≡ gathered_of w.command w.held block w.read
      → Right block v × Feeds block w v
  unfolding gathered_of
  gathered-feeds e =
      let s = some block w r reading in
      let end = w.held + n block w r reading in
      let q = source_gathered (d block w r reading) block w.read (w.read + n block w r reading) end (λ z. omega arith) in
      turn-made _ end _ _ (gathers block w r reading) s.3 s.2 (sym e) (sym q)

  turn-feeds : Right block v × Feeds block w v
  turn-feeds = go (eqb w.held 0) (eqb (whole_size (drop w.read block)) 0) refl refl
    where
      go : (x y : Bool) → eqb w.held 0 ≡ x → eqb (whole_size (drop w.read block)) 0 ≡ y → Right block v × Feeds block w v
      go false y e f = gathered-feeds (taken-held w.command w.held block w.read (eqb-false _ _ e))
      go true true e f = gathered-feeds (taken-part w.command w.held block w.read (eqb-true _ _ f))
      go true false e f =
          let h = eqb-true w.held 0 e in
          let z = eqb-false (whole_size (drop w.read block)) 0 f in
          let n = whole_size (drop w.read block) in
          let q = source_block w.command block w.read (w.read + n) in
          let l : w.read + n ≤ length block =
          omega (arith, (whole-front (drop w.read block) z).within, length-drop w.read block, reading) in
          turn-made n 0 w.command (take n (drop w.read block)) (from_block block w h z) refl l
          (sym (taken-whole w.command w.held block w.read h z)) (sym (rw add-sub_cancel_left at q))

-- nothing is read, and one turn after another
feeds-none : (block : List ℕ) (w : World) → Right block w → Feeds block w w
feeds-none block w r =
    let h = r.written in
    record {
      text = [];
      written = sym (wrote_none w.out w.written);
      within = omega arith;
      rest = λ more. refl;
    }

feeds-more : (block : List ℕ) (u w v : World) → Feeds block u w → Feeds block w v → Feeds block u v
feeds-more block u w v f g =
    let s = f.text in
    let t = g.text in
    let e : w.written ≡ u.written + length s =
    ap (λ (x : ℕ × List ℕ). x.0) f.written ∙ wrote-end u.out u.written s in
    let l : length w.out ≡ length u.out =
    ap (λ (x : ℕ × List ℕ). length x.1) f.written ∙ length-wrote u.out u.written s f.within in
    let h = g.within in
    record {
      text = s ++ t;
      written =
          g.written ∙ ap (λ (x : ℕ × List ℕ). wrote x.1 x.0 t) f.written
          ∙ wrote-append u.out u.written s t (omega arith);
      within = rw length-append (omega arith);
      rest = λ more.
          f.rest more ∙ ap (λ (x : List ℕ). s ++ x) (g.rest more) ∙ sym (append_assoc s t _);
    }

feed_by : (f : ℕ) (block : List ℕ) (w : World) → Right block w → Right block (fed_by f block w) × Feeds block w (fed_by f block w)
unfolding fed_by
feed_by zero block w r = (r, feeds-none block w r)
feed_by (suc f) block w r =
    by_test (λ (v : World). Right block v × Feeds block w v) (goes block w) (fed_by f block (turn_of block w)) w
    (λ g. let t = turn-feeds block w r g in
    let i = feed_by f block (turn_of block w) t.0 in
    (i.0, feeds-more block w (turn_of block w) (fed_by f block (turn_of block w)) t.1 i.1))
    (λ g. (r, feeds-none block w r))

pub feed_claim : FeedClaim
unfolding fed_from
feed_claim block w r = feed_by (length block - w.read) block w r
