-- Why a capture that is fed at once is read to its end where there is room: next stays owed only for want of room.
use Prim.Native.Nat.{ℕ, zero, suc, ◌-◌, ◌<◌, ◌≤◌}
use mathlib.Core.Path.{◌≡◌, refl, sym, ◌∙◌, ap}
use mathlib.Core.Bool.{Bool, true, false, ◌&&◌, and-true, true≢false}
use mathlib.Core.List.{List, [], ◌++◌, append-nil}
use native.Mathlib.Omega.{arith}
use borrow.Author.Tests.{ltb-false}
use lib.ListN.{length, drop, drop_of_length-le}
use lib.Dec.{ltb}
use Rattle.wire.proofs.Choice.{by_test}
use Rattle.queue.specs.Event.{Event}
use Rattle.receiver.specs.Next.{next_of}
use Rattle.lines.specs.Text.{wrote}
use Rattle.lines.specs.Line.{is_line}
use Rattle.capture.specs.Session.{Session, busy, is_ended, with_state, with_tally, fresh_session}
use Rattle.capture.specs.Command.{longest_command, size_of}
use Rattle.capture.specs.Waits.{waits}
use Rattle.capture.proofs.WaitsLaws.{next-falls}
use Rattle.capture.specs.Capture.{event_line, tallied, last_line, text_of, capture_of}
use Rattle.capture.specs.Steps.{Poured, pour_by, roomy, acted_of, poured_by, poured_of}
use Rattle.feeding.specs.Feed.{World, Wants, Ran, ran_of, goes_by, goes, turn_of, fed_by, fed_from, entered, left_by}
use Rattle.feeding.proofs.FeedLaws.{turn_wants, turn-reads, goes-read, fed-long, keeps-none}
use Rattle.feeding.specs.Claims.{ahead}
use Rattle.feeding.specs.Plays.{Player, first, fed, after_feed, WholeClaim}
use Rattle.capture.proofs.Pours.{closed-idle}
use Rattle.feeding.proofs.Feeds.{feed_claim, ended-text}
use Rattle.feeding.proofs.Playing.{Good, to_come, good-kept, right, feed_good, idle-text, first_good}

-- next is owed for want of room
abbrev Full : Session → List ℕ → ℕ → Type 0
Full s out at = busy s ≡ true → roomy (length out) at ≡ false

abbrev Stopped : Poured → Type 0
Stopped w = Full w.0.session w.2 w.0.at

module _ (p : List ℕ) where
  event-stopped : (e : Event) (s : Session) (c out : List ℕ) (at : ℕ) (f : Session → List ℕ → List ℕ → ℕ → Poured)
      → (is_line e ≡ true → (t : Session) (d o : List ℕ) (a : ℕ) → t.state ≡ s.state → Stopped (f t d o a))
      → Stopped (pour_by e s c out at f)
  event-stopped e s c out at f k = go (is_line e) refl
    where
      go : (b : Bool) → is_line e ≡ b → Stopped (pour_by e s c out at f)
      go true i =
          let o = wrote out at (event_line s.tally e) in
          rw i (k i (with_tally s (tallied s.tally e)) c o.1 o.0 refl)
      go false i = rw i (λ b. absurd (true≢false (sym b ∙ closed-idle _ e i)))

  by-stopped : (f : ℕ) (s : Session) (c out : List ℕ) (at : ℕ) → waits s.state p < f → Stopped (poured_by f s p c out at)
  unfolding poured_by
  by-stopped zero s c out at h = absurd (omega arith)
  by-stopped (suc f) s c out at h =
      let r = next_of s.state p c in
      by_test Stopped (busy s && roomy (length out) at) _ _
      (λ m. event-stopped r.0.event (with_state s r.0.state) r.1 out at (λ t d o a. poured_by f t p d o a)
      (λ i t d o a e. let l = next-falls p s.state c i in by-stopped f t d o a (rw e (omega arith))))
      (λ m b. rw b at m)

  pour_stopped : (s : Session) (c out : List ℕ) (at : ℕ) → Stopped (poured_of s p c out at)
  unfolding poured_of
  pour_stopped s c out at = by-stopped (suc (waits s.state p)) s c out at (omega arith)

-- a command, and what next gives after it
ran-full : (s : Session) (b p c out : List ℕ) (at : ℕ) → Full s out at → let r = ran_of s b p c out at in
    Full r.0.session r.3 r.0.at
unfolding ran_of
ran-full s b p c out at h =
    let a = acted_of s p c b out at in
    let w = poured_of a.0.session a.1 c a.2 a.0.at in
    by_test (λ (r : Ran). Full r.0.session r.3 r.0.at) (ltb (length b) (size_of b))
    (record { session = s; at = at }, p, c, out) (w.0, a.1, w.1, w.2) (λ m. h)
    (λ m. pour_stopped a.1 a.0.session c a.2 a.0.at)

abbrev Paused : World → Type 0
Paused w = Full w.session w.out w.written

module _ (block : List ℕ) where
  turn_paused : (w : World) → Paused w → Paused (turn_of block w)
  unfolding turn_of
  turn_paused w h = ran-full w.session _ w.packet w.collecting w.out w.written h

  fed_paused : (f : ℕ) (w : World) → Paused w → Paused (fed_by f block w)
  unfolding fed_by
  fed_paused zero w h = h
  fed_paused (suc f) w h =
      by_test Paused (goes block w) _ _ (λ m. fed_paused f (turn_of block w) (turn_paused w h)) (λ m. h)

  -- the turns come to an end
  fed-still : (f : ℕ) (w : World) → Wants w → length block - w.read ≤ f → goes block (fed_by f block w) ≡ false
  unfolding fed_by
  fed-still zero w z h = go (goes block w) refl
    where
      go : (t : Bool) → goes block w ≡ t → goes block w ≡ false
      go true e = let l = goes-read w.session w.read (length block) _ _ e in absurd (omega arith)
      go false e = e
  fed-still (suc f) w z h =
      by_test (λ (v : World). goes block v ≡ false) (goes block w) _ _
      (λ m. let l = goes-read w.session w.read (length block) _ _ m in
      let t = turn-reads block w z l in
      fed-still f (turn_of block w) (turn_wants block w) (omega arith))
      (λ m. m)

module _ (command p c b out : List ℕ) (long : longest_command ≤ length command) where
  abbrev begins : World
  begins = entered fresh_session 0 command p c out

  abbrev ends : World
  ends = fed_from b begins

  fed-whole : fed (first command p c) b out ≡ left_by ends
  fed-whole = fed-long fresh_session 0 command b p c out long 0 (good-kept (first command p c) (first_good command p c long)) refl

  -- nothing is owed
  ends-idle : roomy (length ends.out) ends.written ≡ true → busy ends.session ≡ false
  unfolding fed_from fresh_session
  ends-idle room = go (busy ends.session) refl
    where
      go : (t : Bool) → busy ends.session ≡ t → t ≡ false
      go true e =
          let h : Paused ends = fed_paused b (length b - begins.read) begins (λ q. absurd (true≢false (sym q))) in
          absurd (true≢false (sym room ∙ h e))
      go false e = refl

  ends-all : roomy (length ends.out) ends.written ≡ true → is_ended ends.session.phase ≡ false → length b ≤ ends.read
  unfolding goes_by fed_from
  ends-all room on =
      let i = ends-idle room in
      let g = fed-still b (length b - begins.read) begins (keeps-none command).some (omega arith) in
      ltb-false _ _ (rw (room, i, on, and-true (ltb ends.read (length b))) at g)

  -- then the last line alone is to come
  ends_last : roomy (length ends.out) ends.written ≡ true
      → text_of ends.session ends.packet ends.collecting (ahead b ends []) ≡ last_line ends.session.tally
  ends_last room = go (is_ended ends.session.phase) refl
    where
      y : Player
      y = after_feed (left_by ends)

      go : (t : Bool) → is_ended ends.session.phase ≡ t
          → text_of ends.session ends.packet ends.collecting (ahead b ends []) ≡ last_line ends.session.tally
      go true q = ended-text ends.session ends.packet ends.collecting _ q
      go false q =
          let d : drop ends.read b ++ [] ≡ [] =
          append-nil (drop ends.read b) ∙ drop_of_length-le b {i = ends.read} (ends-all room q) in
          let g : Good y = rw fed-whole at (feed_good (first command p c) (first_good command p c long) b [] out) in
          ap (to_come y) d ∙ idle-text y g (ends-idle room)

pub whole_claim : WholeClaim
unfolding capture_of
whole_claim command p c b out long =
    let x = first command p c in
    let f = (feed_claim b (begins command p c b out long) (right x (first_good command p c long) b [] out)).1 in
    rw (fed-whole command p c b out long)
    (record {
      text = f.text;
      rest = _;
      whole = rw append-nil at (f.rest []);
      written = f.written;
      within = omega (arith, f.within);
      last = ends_last command p c b out long;
    })
