-- Laws of specs/Cuts.antt.
use Rattle.std.specs.Prelude.{ℕ, zero, suc, ◌+◌, ◌-◌, ◌*◌, ◌≤◌, ◌<◌, ◌≡◌, Bool, true, false, cond, ◌&&◌, List, [], ◌∷◌, ◌++◌, length, take, drop, get_or, leb}
use Rattle.std.proofs.Math.Path.{refl}
use Rattle.std.proofs.Common.{sym, ◌∙◌, ap, append_assoc, arith, length-append, length-drop, take-append-drop, length-take-le, get_or-take, eqb-true, leb-true, le-leb}
use Rattle.std.proofs.Math.Bool.{and_assoc}
use Rattle.std.proofs.Math.ListN.{get_or-append}
use Rattle.std.proofs.lemmas.List.{take-append-le, drop-append-le}
use Rattle.std.proofs.Math.Seq.{drop-append_seam}
use Rattle.std.proofs.lemmas.Bool.{lt-leb}
use Rattle.wire.proofs.FieldLaws.{be-2}
use Rattle.tlv.specs.Packet.{good_first, total, complete, marked, Cut, uncut, in_front, cut_by, cut}
use Rattle.tlv.specs.Cuts.{AllSized}

-- the header of a packet
-- no other first byte is good
pub good_only : (x : ℕ) → good_first x ≡ true → x ≡ 0x7f
unfolding good_first
good_only x e = eqb-true x 0x7f e

pub total-bytes : (b : List ℕ) → total b ≡ 4 + (get_or b 2 0 * 256 + get_or b 3 0)
unfolding total
total-bytes b = rw be-2

-- it is in the first four bytes
pub total-append : (a b : List ℕ) → 4 ≤ length a → total (a ++ b) ≡ total a
total-append a b h =
    rw (total-bytes (a ++ b), total-bytes a, get_or-append a b 0 2 (omega arith), get_or-append a b 0 3 (omega arith))

pub total-take : (n : ℕ) (b : List ℕ) → 4 ≤ n → total (take n b) ≡ total b
total-take n b h = rw (total-bytes (take n b), total-bytes b, get_or-take n b 2 0 (omega arith), get_or-take n b 3 0 (omega arith))

pub marked_append : (a b : List ℕ) → 0 < length a → marked (a ++ b) ≡ marked a
unfolding marked
marked_append [] b h = absurd (omega arith)
marked_append (x ∷ a) b h = refl

-- when a packet is complete
and_both : (a b : Bool) → a && b ≡ true → (a ≡ true) × (b ≡ true)
and_both true b e = (refl, e)
and_both false b e = (cc, cc)

pub complete-fits : (b : List ℕ) → complete b ≡ true → (4 ≤ total b) × (total b ≤ length b)
unfolding complete
complete-fits b e = (omega (arith, total-bytes b), leb-true _ _ (and_both (leb 4 (length b)) (leb (total b) (length b)) e).1)

pub complete_if : (b : List ℕ) → 4 ≤ length b → total b ≤ length b → complete b ≡ true
unfolding complete
complete_if b h t = rw (le-leb _ _ h, le-leb _ _ t)

pub short-header : (b : List ℕ) → length b < 4 → complete b ≡ false
unfolding complete
short-header b h = rw (lt-leb _ _ h)

pub short-packet : (b : List ℕ) → 4 ≤ length b → length b < total b → complete b ≡ false
unfolding complete
short-packet b h t = rw (le-leb _ _ h, lt-leb _ _ t)

pub complete-append : (a b : List ℕ) → complete a ≡ true → complete (a ++ b) ≡ true
complete-append a b e =
    let f = complete-fits a e in
    let l = length-append a b in
    complete_if (a ++ b) (omega arith) (omega (arith, total-append a b (omega arith)))

-- the recursion of the cut: at its end, and for each packet in front
pub cut_induct : (P : List ℕ → Type 0) → ((b : List ℕ) → complete b ≡ false → P b)
    → ((b : List ℕ) → complete b ≡ true → P (drop (total b) b) → P b) → (b : List ℕ) → P b
cut_induct P end more b = go (length b) b (omega arith)
  where
    go : (n : ℕ) (b : List ℕ) → length b ≤ n → P b
    go zero b h = end b (short-header b (omega arith))
    go (suc n) b h = step (complete b) refl (go n)
      where
        step : (c : Bool) → complete b ≡ c → ((d : List ℕ) → length d ≤ n → P d) → P b
        step false e ih = end b e
        step true e ih = let f = complete-fits b e in more b e (ih (drop (total b) b) (rw length-drop (omega arith)))

enough : (n m : ℕ) (b : List ℕ) → length b ≤ n → length b ≤ m → cut_by n b ≡ cut_by m b
unfolding cut_by
enough zero zero b h k = refl
enough zero (suc m) b h k = rw (short-header b (omega arith))
enough (suc n) zero b h k = rw (short-header b (omega arith))
enough (suc n) (suc m) b h k = step (complete b) refl (enough n m)
  where
    d : List ℕ
    d = drop (total b) b

    step : (c : Bool) → complete b ≡ c → ((d : List ℕ) → length d ≤ n → length d ≤ m → cut_by n d ≡ cut_by m d)
        → cond c (in_front b (cut_by n d)) (uncut b) ≡ cond c (in_front b (cut_by m d)) (uncut b)
    step false e ih = refl
    step true e ih =
        let f = complete-fits b e in
        ap (in_front b) (ih d (rw length-drop (omega arith)) (rw length-drop (omega arith)))

-- more steps than bytes change nothing
pub cut-enough : (n : ℕ) (b : List ℕ) → length b ≤ n → cut_by n b ≡ cut b
unfolding cut
cut-enough n b h = enough n (length b) b h (omega arith)

cut-suc : (b : List ℕ) → cut b ≡ cond (complete b) (in_front b (cut_by (length b) (drop (total b) b))) (uncut b)
cut-suc b = sym (cut-enough (suc (length b)) b (omega arith)) ∙ unfold cut_by in refl

pub cut-end : (b : List ℕ) → complete b ≡ false → cut b ≡ uncut b
cut-end b e = cut-suc b ∙ rw e

pub cut-more : (b : List ℕ) → complete b ≡ true → cut b ≡ in_front b (cut (drop (total b) b))
cut-more b e = cut-suc b ∙ rw (e, cut-enough (length b) (drop (total b) b) (rw length-drop (omega arith)))

pub cut-nil : cut [] ≡ uncut []
cut-nil = cut-end [] (short-header [] (omega arith))

-- packets one after another
abbrev pub row : List (List ℕ) → List ℕ
row [] = []
row (p ∷ ps) = p ++ row ps

-- the packets one after another, then the tail, are the bytes
pub cut-whole : (b : List ℕ) → row (cut b).packets ++ (cut b).tail ≡ b
cut-whole = cut_induct (λ (b : List ℕ). row (cut b).packets ++ (cut b).tail ≡ b)
    (λ (b : List ℕ) (e : complete b ≡ false). rw (cut-end b e))
    (λ (b : List ℕ) (e : complete b ≡ true) (ih : _).
    rw (cut-more b e)
    (append_assoc (take (total b) b) (row (cut (drop (total b) b)).packets) (cut (drop (total b) b)).tail
    ∙ ap (λ (r : List ℕ). take (total b) b ++ r) ih
    ∙ take-append-drop (total b) b))

-- the tail is the end of the bytes
pub cut-tail-length : (b : List ℕ) → length (cut b).tail ≤ length b
cut-tail-length b = omega (arith, simp length-append at (ap length (cut-whole b)))

pub cut-tail : (b : List ℕ) → drop (length b - length (cut b).tail) b ≡ (cut b).tail
cut-tail b =
    let ps : List ℕ = row (cut b).packets in
    let l : length ps + length (cut b).tail ≡ length b = sym (length-append ps (cut b).tail) ∙ ap length (cut-whole b) in
    let e : length b - length (cut b).tail ≡ length ps = omega arith in
    rw e (ap (drop (length ps)) (sym (cut-whole b)) ∙ drop-append_seam ps (cut b).tail)

-- where each packet's first byte is good, the tail's is
pub cut-tail-marked : (b : List ℕ) → (cut b).good ≡ true → marked (cut b).tail ≡ true
cut-tail-marked = cut_induct (λ (b : List ℕ). (cut b).good ≡ true → marked (cut b).tail ≡ true)
    (λ (b : List ℕ) (e : complete b ≡ false) (g : _). rw (cut-end b e) (rw (cut-end b e) at g))
    (λ (b : List ℕ) (e : complete b ≡ true) (ih : _) (g : _).
    rw (cut-more b e) (ih (and_both (marked b) (cut (drop (total b) b)).good (rw (cut-more b e) at g)).1))

-- no packet is complete in it
pub cut-tail_open : (b : List ℕ) → complete (cut b).tail ≡ false
cut-tail_open = cut_induct (λ (b : List ℕ). complete (cut b).tail ≡ false)
    (λ (b : List ℕ) (e : complete b ≡ false). rw (cut-end b e) e)
    (λ (b : List ℕ) (e : complete b ≡ true) (ih : _). rw (cut-more b e) ih)

-- each packet of a cut is one
pub cut-sized : (b : List ℕ) → AllSized (cut b).packets
cut-sized = cut_induct (λ (b : List ℕ). AllSized (cut b).packets)
    (λ (b : List ℕ) (e : complete b ≡ false). rw (cut-end b e) tt)
    (λ (b : List ℕ) (e : complete b ≡ true) (ih : _).
    let f = complete-fits b e in
    let l : length (take (total b) b) ≡ total b = length-take-le (total b) b f.1 in
    rw (cut-more b e) (record { long = omega arith; exact = l ∙ sym (total-take (total b) b f.0) }, ih))

-- one cut behind another that has no tail
abbrev pub behind : Cut → Cut → Cut
behind a b = record { packets = a.packets ++ b.packets; tail = b.tail; good = a.good && b.good }

pub cut-append : (a b : List ℕ) → (cut a).tail ≡ [] → cut (a ++ b) ≡ behind (cut a) (cut b)
cut-append a b = cut_induct (λ (a : List ℕ). (cut a).tail ≡ [] → cut (a ++ b) ≡ behind (cut a) (cut b)) end more a
  where
    end : (a : List ℕ) → complete a ≡ false → (cut a).tail ≡ [] → cut (a ++ b) ≡ behind (cut a) (cut b)
    end a e t =
        let n : a ≡ [] = rw (cut-end a e) at t in
        rw (n, cut-nil) (unfold marked in refl)

    more : (a : List ℕ) → complete a ≡ true
        → ((cut (drop (total a) a)).tail ≡ [] → cut (drop (total a) a ++ b) ≡ behind (cut (drop (total a) a)) (cut b))
        → (cut a).tail ≡ [] → cut (a ++ b) ≡ behind (cut a) (cut b)
    more a e ih t =
        let f = complete-fits a e in
        rw (
          cut-more (a ++ b) (complete-append a b e),
          total-append a b (omega arith),
          take-append-le (total a) a b f.1,
          drop-append-le (total a) a b f.1,
          marked_append a b (omega arith),
          ih (rw (cut-more a e) at t),
          cut-more a e,
          and_assoc (marked a),
        )
