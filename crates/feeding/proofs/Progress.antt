-- Why the calls get on: a turn of feed reads a byte at least, and each line that pour writes leaves less that waits.
use Prim.Native.Nat.{ℕ, zero, suc, ◌-◌, ◌<◌, ◌≤◌}
use mathlib.Core.Path.{◌≡◌, refl}
use mathlib.Core.Bool.{Bool, true, false, ◌&&◌}
use mathlib.Core.List.{List}
use mathlib.Core.Logic.{inl, inr, ⊎_elim}
use native.Mathlib.Omega.{arith}
use borrow.Author.Tests.{lt-ltb, le-leb}
use lib.ListN.{length}
use Rattle.queue.specs.Event.{Event}
use Rattle.wire.proofs.Choice.{by_test}
use Rattle.receiver.specs.Next.{next_of}
use Rattle.capture.specs.Session.{Session, busy, with_state, with_tally}
use Rattle.lines.specs.Text.{wrote}
use Rattle.lines.specs.Line.{longest_line, is_line}
use Rattle.capture.specs.Waits.{waits}
use Rattle.capture.proofs.WaitsLaws.{next-falls}
use Rattle.capture.specs.Capture.{event_line, tallied}
use Rattle.capture.specs.Steps.{Poured, pour_by, roomy, poured_by, poured_of}
use Rattle.capture.proofs.StepsLaws.{pour_step}
use Rattle.feeding.specs.Feed.{World, kept_of, goes_by, goes, turn_of, fed_by, fed_from, entered, Wants}
use Rattle.feeding.proofs.FeedLaws.{kept_wants, turn-reads, fed-turn, fed-long}
use Rattle.feeding.specs.Progress.{FeedGetsOn, Less, PourGetsOn}
use Rattle.capture.proofs.Pours.{closed-idle}

-- no turn gives bytes back
reads_more : (f : ℕ) (block : List ℕ) (w : World) → w.read ≤ (fed_by f block w).read
unfolding fed_by turn_of
reads_more zero block w = omega arith
reads_more (suc f) block w =
    by_test (λ (v : World). w.read ≤ v.read) (goes block w) (fed_by f block (turn_of block w)) w
    (λ g. let i = reads_more f block (turn_of block w) in omega arith) (λ g. omega arith)

pub feed_gets_on : FeedGetsOn
unfolding fed_from goes_by
feed_gets_on s held command block p c out some room long idle on =
    let k = kept_of command held in
    let w : World = entered s k command p c out in
    let z : Wants w = kept_wants command held in
    let g : goes block w ≡ true = rw (lt-ltb 0 (length block) some, le-leb longest_line (length out) room, idle, on) in
    let t = turn-reads block w z some in
    let m = reads_more (length block - (turn_of block w).read) block (turn_of block w) in
    rw (fed-long s held command block p c out long k refl (fed-turn block w z g)) (omega arith)

module _ (p : List ℕ) where
  -- after an event
  event-less : (e : Event) (s : Session) (c out : List ℕ) (at n : ℕ) (f : Session → List ℕ → List ℕ → ℕ → Poured)
      → (is_line e ≡ true → waits s.state p < n)
      → ((t : Session) (d o : List ℕ) (a : ℕ) → Less p (suc (waits t.state p)) (f t d o a)) → Less p n (pour_by e s c out at f)
  event-less e s c out at n f h k = go (is_line e) refl
    where
      go : (b : Bool) → is_line e ≡ b → Less p n (pour_by e s c out at f)
      go true i =
          let l = h i in
          let o = wrote out at (event_line s.tally e) in
          let m = k (with_tally s (tallied s.tally e)) c o.1 o.0 in
          rw i (⊎_elim (λ q. inl q) (λ q. inr (omega arith)) m)
      go false i = rw i (inl (closed-idle _ e i))

  -- what waits never grows
  by_less : (f : ℕ) (s : Session) (c out : List ℕ) (at : ℕ) → Less p (suc (waits s.state p)) (poured_by f s p c out at)
  unfolding poured_by
  by_less zero s c out at = inr (omega arith)
  by_less (suc f) s c out at =
      let r = next_of s.state p c in
      by_test (Less p (suc (waits s.state p))) (busy s && roomy (length out) at) _ _
      (λ m. event-less r.0.event (with_state s r.0.state) r.1 out at _ (λ t d o a. poured_by f t p d o a)
      (λ i. let l = next-falls p s.state c i in omega arith) (λ t d o a. by_less f t d o a))
      (λ m. inr (omega arith))

pub pour_gets_on : PourGetsOn
unfolding poured_of
pour_gets_on s p c out at b room =
    let r = next_of s.state p c in
    rw (pour_step s p c out at, b, le-leb _ _ room)
    (event-less p r.0.event (with_state s r.0.state) r.1 out at (waits s.state p) (λ t d o a. poured_of t p d o a)
    (next-falls p s.state c) (λ t d o a. by_less p (suc (waits t.state p)) t d o a))
