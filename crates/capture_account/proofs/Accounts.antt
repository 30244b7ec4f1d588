-- The events of a capture are the account of what arrives by its commands.
use Prim.Native.Nat.{ℕ, zero, suc, ◌-◌, ◌%◌, ◌^◌, ◌≤◌}
use mathlib.Core.Path.{◌≡◌, refl, sym, ap, ◌∙◌, subst}
use mathlib.Core.Bool.{Bool, true, false, cond}
use mathlib.Core.List.{List, [], ◌∷◌, ◌++◌, map}
use native.Mathlib.Omega.{arith}
use lib.Dec.{eqb}
use lib.ListN.{length, get_or, take, drop}
use lib.Seq.{get_or-take}
use borrow.Author.Tests.{eqb-true, eq-eqb}
use Rattle.tmcc.specs.Layout.{Layout}
use Rattle.tmcc.specs.Layout.{blank_layout}
use Rattle.tlv.specs.Run.{State as Slot-state, searching, run}
use Rattle.reassembly.specs.declared.config.Config.{Config}
use Rattle.reassembly.specs.Run.{Lane, fresh}
use Rattle.state.specs.State.{Called, Frame as ReceiverFrame, State}
use Rattle.state.specs.Start.{start_of, fresh_state}
use Rattle.lines.specs.Line.{refused_line}
use Rattle.capture.specs.declared.command.Letter.{Letter}
use Rattle.capture.specs.declared.command.Letter.TheVariants.{Start, Frame, LostFrame, Slot, LostSlot, Unknown}
use Rattle.capture.specs.declared.session.Phase.{Phase}
use Rattle.capture.specs.declared.session.Phase.TheVariants.{Before, Reading, Ended}
use Rattle.capture.specs.Session.{Session, is_ended, busy, in_phase, with_state, fresh_session}
use Rattle.capture.specs.declared.session.Tally.{Tally}
use Rattle.capture.specs.Command.{letter_of, size_of, whole}
use Rattle.capture.proofs.CommandLaws.{size-by}
use Rattle.capture.specs.Capture.{fits, call_of, after_call, done_of, drained_of, reads}
use Rattle.capture.proofs.Drains.{still, drain-idle}
use Rattle.capture.proofs.Texts.{whole-size, size-whole}
use Rattle.broadcast.specs.Account.{account, events, lanes_after}
use Rattle.broadcast.specs.Drains.{Shown, strip, Drains}
use Rattle.broadcast.specs.Calls.{Machine, Call, Did, did, numbered}
use Rattle.broadcast.specs.Machines.{At}
use Rattle.broadcast.proofs.Demand3.{start-accepted, start-at}
use Rattle.broadcast.proofs.SlotCalls.{shown-on}
use Rattle.capture_account.specs.Events.{
  Placed,
  Meaning,
  Waited,
  nothing_waited,
  waited_by,
  waited_of,
  command_refusal,
  events_first,
  no_more,
  meaning_by,
  meaning_of,
  shown_in,
}
use Rattle.capture_account.specs.Calls.{
  call_then,
  command_calls_by,
  command_calls,
  refusal_at,
  layout_after,
  slot_after,
  frames_after,
  arrival_by,
  arrivals_by,
  refusals_by,
  frames_by,
}
use Rattle.capture_account.specs.Places.{placed_at, slot_number, placed_by}
use Rattle.capture_account.specs.Claims.{config_in, Begins, Suffice, Accounts, CaptureAccounts}
use Rattle.capture_account.proofs.Drains.{session, Settled, settle, idle-settled}
use Rattle.capture_account.proofs.Steps.{command_call, did-call, tally_after, slot_counted, frame-counted, call-queue, refusal_is, Steps, call_step}
use Rattle.receiver.proofs.Lengths.{GiveLies}

shown-append : (a b : List Placed) → shown_in (a ++ b) ≡ shown_in a ++ shown_in b
shown-append [] b = refl
shown-append (e ∷ a) b = ap (λ (r : List Shown). e.shown ∷ r) (shown-append a b)

-- the notes and units of a list with its places
shown-placed : (f s : ℕ) (es : List Shown) → shown_in (placed_at f s es) ≡ es
shown-placed f s [] = refl
shown-placed f s (e ∷ es) = ap (λ (r : List Shown). e ∷ r) (shown-placed f s es)

-- a whole command has its letter first
pub front-letter : (b : List ℕ) → 1 ≤ size_of b → get_or (take (size_of b) b) 0 0 ≡ get_or b 0 0
front-letter b h = get_or-take (size_of b) b 0 0 h

-- a command, case by case
module _ (s : Session) (p c x : List ℕ) (w : Letter) (l : letter_of (get_or x 0 0) ≡ w) where
  pub done-unfit : fits s.phase w ≡ false
      → (done_of s p c x ≡ record { text = []; session = in_phase s Ended; packet = p }) × (command_refusal s p c x ≡ [])
  unfolding done_of command_refusal
  done-unfit f = (rw (l, f), rw (l, f))

  module _ (f : fits s.phase w ≡ true) (r : Called) (q : List ℕ) (e : call_of w s.state p c x ≡ (r, q)) where
    pub done_refused : eqb r.refusal 0 ≡ false
        → (done_of s p c x
        ≡ record { text = refused_line r.refusal; session = in_phase (with_state s r.state) Ended; packet = q })
        × (command_refusal s p c x ≡ r.refusal ∷ [])
    unfolding done_of command_refusal
    done_refused z = (rw (l, f, e, z), rw (l, f, e, z))

    pub done-accepted : eqb r.refusal 0 ≡ true
        → done_of s p c x ≡ record { text = []; session = after_call w (with_state s r.state); packet = q }
    unfolding done_of
    done-accepted z = rw (l, f, e, z)

-- after an accepted command the session reads on
pub after-reads : (w : Letter) (st : State) (t : Tally) → after_call w (session st t) ≡ session st (tally_after w st t)
unfolding after_call
after-reads Start st t = refl
after-reads Frame st t = refl
after-reads LostFrame st t = refl
after-reads Slot st t = refl
after-reads LostSlot st t = refl
after-reads Unknown st t = refl

pub behind-fits : (w : Letter) (b : List ℕ) (ks : List Call) → fits Reading w ≡ true → call_then w b ks ≡ command_call w b ∷ ks
behind-fits Start b ks h = let y : ◌≡◌ {A = ℕ} 0 1 = cc in absurd (omega arith)
behind-fits Frame b ks h = refl
behind-fits LostFrame b ks h = refl
behind-fits Slot b ks h = refl
behind-fits LostSlot b ks h = refl
behind-fits Unknown b ks h = let y : ◌≡◌ {A = ℕ} 0 1 = cc in absurd (omega arith)

pub behind-unfit : (w : Letter) (b : List ℕ) (ks : List Call) → fits Reading w ≡ false → call_then w b ks ≡ []
behind-unfit Start b ks h = refl
behind-unfit Frame b ks h = let y : ◌≡◌ {A = ℕ} 0 1 = cc in absurd (omega arith)
behind-unfit LostFrame b ks h = let y : ◌≡◌ {A = ℕ} 0 1 = cc in absurd (omega arith)
behind-unfit Slot b ks h = let y : ◌≡◌ {A = ℕ} 0 1 = cc in absurd (omega arith)
behind-unfit LostSlot b ks h = let y : ◌≡◌ {A = ℕ} 0 1 = cc in absurd (omega arith)
behind-unfit Unknown b ks h = refl

-- what is read behind the calls of next: `s` and `c` are as they were left
unfoldable pub onward : ℕ → Session → List ℕ → List ℕ → List ℕ → Meaning
onward f s p c b =
    let x = take (size_of b) b in
    let k = done_of s p c x in
    cond (reads s b)
    (cond (is_ended k.session.phase) (no_more k.session (command_refusal s p c x))
    (meaning_by f k.session k.packet c (drop (size_of b) b)))
    (no_more s [])

pub calls-none : (f : ℕ) (b : List ℕ) → whole b ≡ false → command_calls_by (suc f) b ≡ []
unfolding command_calls_by
calls-none f b h = rw h

pub calls-some : (f : ℕ) (b : List ℕ) → whole b ≡ true
    → command_calls_by (suc f) b ≡ call_then (letter_of (get_or b 0 0)) (take (size_of b) b) (command_calls_by f (drop (size_of b) b))
unfolding command_calls_by
calls-some f b h = rw h

pub onward_stops : (f : ℕ) (st : State) (t : Tally) (p c b : List ℕ) → whole b ≡ false
    → onward f (session st t) p c b ≡ no_more (session st t) []
unfolding onward
onward_stops f st t p c b h = rw h

-- nothing is owed
pub idle_waited : (st : State) (t : Tally) (p c : List ℕ) → st.owed ≡ false → waited_of (session st t) p c ≡ nothing_waited
unfolding waited_of waited_by
idle_waited st t p c o = rw o

pub mean_step : (f : ℕ) (s : Session) (p c b : List ℕ) → (waited_of s p c).refusals ≡ []
    → meaning_by (suc f) s p c b
    ≡ events_first (waited_of s p c).events (onward f (drained_of s p c).session p (drained_of s p c).collecting b)
unfolding meaning_by onward
mean_step f s p c b h = rw h

-- what calls come to
module _ (cfg : Config) where
  abbrev Tells : Meaning → List Shown → List Placed → (ℕ → Lane (List (ℕ × ℕ))) → Slot-state (ℕ × ℕ) → Layout → ℕ → ℕ → List Call → Type 0
  Tells m es ps g tl l i n ks =
      (shown_in m.events ≡ es ++ map strip (events cfg g (run tl (arrivals_by cfg.stream l i n ks))))
      × (m.refusal ≡ refusals_by cfg.stream l i ks)
      × (m.tally.frames ≡ frames_by cfg.stream l i n ks % 2 ^ 64)
      × (m.events ≡ ps ++ placed_by cfg g tl l i n ks)

  -- from a machine that waits for a command
  abbrev Again : ℕ → Type 0
  Again f =
      (s : Session) (p c b : List ℕ) (es : List Shown) (st : State) (c' : List ℕ) (tl : Slot-state (ℕ × ℕ)) (g : ℕ → Lane (List (ℕ × ℕ)))
      (l : Layout) (i n : ℕ) → Settled s p c es st c' → At cfg (record { state = st; packet = p; collecting = c' }) tl g l i → i ≤ 120
      → s.tally.frames ≡ n % 2 ^ 64
      → Tells (meaning_by f s p c b) es (placed_at s.tally.frames s.tally.slot es) g tl l i n (command_calls_by f b)

  tells_none : (m : Meaning) (g : ℕ → Lane (List (ℕ × ℕ))) (tl : Slot-state (ℕ × ℕ)) (l : Layout) (i n : ℕ) → m.events ≡ []
      → m.refusal ≡ [] → m.tally.frames ≡ n % 2 ^ 64 → Tells m [] [] g tl l i n []
  unfolding arrivals_by refusals_by frames_by placed_by run events
  tells_none m g tl l i n e r f = (ap shown_in e, r, f, e)

  tells_refused : (m : Meaning) (g : ℕ → Lane (List (ℕ × ℕ))) (tl : Slot-state (ℕ × ℕ)) (l : Layout) (i n : ℕ) (k : Call) (ks : List Call)
      → eqb (refusal_at cfg.stream l i k) 0 ≡ false → m.events ≡ [] → m.refusal ≡ refusal_at cfg.stream l i k ∷ []
      → m.tally.frames ≡ n % 2 ^ 64 → Tells m [] [] g tl l i n (k ∷ ks)
  unfolding arrivals_by refusals_by frames_by placed_by run events
  tells_refused m g tl l i n k ks z e r f = rw z (ap shown_in e, r, f, e)

  tells_on : (m : Meaning) (g : ℕ → Lane (List (ℕ × ℕ))) (tl : Slot-state (ℕ × ℕ)) (l : Layout) (i n : ℕ) (k : Call) (ks : List Call)
      (ma : Machine) (x : Steps cfg ma tl g k (arrival_by l i n k) (layout_after cfg.stream l k) (slot_after i k))
      → eqb (refusal_at cfg.stream l i k) 0 ≡ true
      → (fr sl : ℕ) → fr ≡ frames_after n k % 2 ^ 64 → sl ≡ slot_number i k
      → Tells m (map strip (events cfg g x.does.events)) (placed_at fr sl (map strip (events cfg g x.does.events)))
      (lanes_after cfg g x.does.events) x.does.state
      (layout_after cfg.stream l k) (slot_after i k) (frames_after n k) ks
      → Tells m [] [] g tl l i n (k ∷ ks)
  unfolding arrivals_by refusals_by frames_by placed_by
  tells_on m g tl l i n k ks ma x z fr sl u v h =
      let xs = arrivals_by cfg.stream (layout_after cfg.stream l k) (slot_after i k) (frames_after n k) ks in
      rw z (
        h.0 ∙ sym (shown-on cfg tl g x.does (arrival_by l i n k ++ xs) xs (x.runs xs)),
        h.1,
        h.2,
        rw (x.ran, x.ended, ← u, ← v) h.3,
      )

  -- one command
  module _ (f : ℕ) (again : Again f) (st : State) (t : Tally) (p c b : List ℕ) (tl : Slot-state (ℕ × ℕ)) (g : ℕ → Lane (List (ℕ × ℕ)))
      (l : Layout) (i n : ℕ) (a : At cfg (record { state = st; packet = p; collecting = c }) tl g l i) (most : i ≤ 120)
      (counts : t.frames ≡ n % 2 ^ 64) where
    x : List ℕ
    x = take (size_of b) b

    rest : List ℕ
    rest = drop (size_of b) b

    ma : Machine
    ma = record { state = st; packet = p; collecting = c }

    module _ (wh : whole b ≡ true) (w : Letter) (lw : letter_of (get_or b 0 0) ≡ w) where
      letter : letter_of (get_or x 0 0) ≡ w
      unfolding x
      letter = ap letter_of (front-letter b (whole-size b wh).0) ∙ lw

      Goal : Type 0
      Goal = Tells (onward f (session st t) p c b) [] [] g tl l i n (call_then w x (command_calls_by f rest))

      unfit_told : fits Reading w ≡ false → Goal
      unfolding Goal onward x
      unfit_told h =
          let d = done-unfit (session st t) p c x w letter h in
          rw (behind-unfit w x (command_calls_by f rest) h)
          (tells_none (onward f (session st t) p c b) g tl l i n (rw (wh, d.0)) (rw (wh, d.0, d.1)) (rw (wh, d.0) counts))

      module _ (h : fits Reading w ≡ true) (r : Called) (q : List ℕ) (e : call_of w st p c x ≡ (r, q)) where
        number : r.refusal ≡ refusal_at cfg.stream l i (command_call w x)
        unfolding ma
        number = sym (ap (λ (o : Called × List ℕ). o.0.refusal) e) ∙ refusal_is cfg ma tl g l i a w x h

        refused_told : eqb r.refusal 0 ≡ false → Goal
        unfolding Goal onward x
        refused_told z =
            let d = done_refused (session st t) p c x w letter h r q e z in
            rw (behind-fits w x (command_calls_by f rest) h)
            (tells_refused (onward f (session st t) p c b) g tl l i n (command_call w x) (command_calls_by f rest) (rw (← number) z)
            (rw (wh, d.0))
            (rw (wh, d.0, d.1) (ap (λ (k : ℕ). k ∷ []) number)) (rw (wh, d.0) counts))

        module _ (z : eqb r.refusal 0 ≡ true) where
          then : Session
          then = session r.state (tally_after w r.state t)

          onward_then : onward f (session st t) p c b ≡ meaning_by f then q c rest
          unfolding onward x rest then
          onward_then =
              let d = done-accepted (session st t) p c x w letter h r q e z
              ∙ ap (λ (y : Session). record { text = []; session = y; packet = q }) (after-reads w r.state t) in
              rw (wh, d)

          stepped : Steps cfg ma tl g (command_call w x) (arrival_by l i n (command_call w x)) (layout_after cfg.stream l (command_call w x))
              (slot_after i (command_call w x))
          unfolding ma
          stepped = call_step cfg ma tl g l n w x i h a most (sym number ∙ eqb-true _ 0 z)

          did_then : did (command_call w x) ma
              ≡ record { answer = numbered r.refusal; machine = record { state = r.state; packet = q; collecting = c } }
          unfolding ma
          did_then =
              did-call w ma x h
              ∙ ap
              (λ (o : Called × List ℕ).
              record {
                answer = numbered o.0.refusal;
                machine = record { state = o.0.state; packet = o.1; collecting = c };
              })
              e

          accepted_told : Goal
          unfolding Goal then
          accepted_told =
              let v = stepped in
              let j = v.item in
              let es = map strip (events cfg g v.does.events) in
              let dr =
              subst
              (λ (y : Did). Drains y.machine.packet y.machine.state y.machine.collecting es j.state j.collecting)
              did_then j.drains in
              let at =
              subst
              (λ (y : Did).
              At cfg (record { state = j.state; packet = y.machine.packet; collecting = j.collecting }) v.does.state
              (lanes_after cfg g v.does.events) (layout_after cfg.stream l (command_call w x)) (slot_after i (command_call w x)))
              did_then j.at in
              let queue : r.state.queue ≡ st.queue =
              sym (ap (λ (o : Called × List ℕ). o.0.state.queue) e) ∙ call-queue w st p c x h in
              let lies : GiveLies r.state.queue.give q c = rw (queue, a.tracks.queue.2) tt in
              let ok : (call_of w st p c x).0.refusal ≡ 0 = ap (λ (o : Called × List ℕ). o.0.refusal) e ∙ eqb-true _ 0 z in
              let fr = frame-counted w r.state x n t h counts in
              let sl : (tally_after w r.state t).slot ≡ slot_number i (command_call w x) =
              ap (λ (o : Called × List ℕ). (tally_after w o.0.state t).slot) (sym e) ∙ slot_counted w st p c x h ok t
              ∙ ap (λ (y : ReceiverFrame). slot_number y.at (command_call w x)) a.frame in
              let s = settle q dr (tally_after w r.state t) j.at.tracks.paid lies in
              rw (behind-fits w x (command_calls_by f rest) h)
              (tells_on (onward f (session st t) p c b) g tl l i n (command_call w x) (command_calls_by f rest) ma v (rw (← number) z)
              (tally_after w r.state t).frames (tally_after w r.state t).slot fr sl
              (rw onward_then
              (again then q c rest es j.state j.collecting v.does.state (lanes_after cfg g v.does.events)
              (layout_after cfg.stream l (command_call w x)) (slot_after i (command_call w x)) (frames_after n (command_call w x)) s at
              v.most fr)))

    command_told : (wb : Bool) → whole b ≡ wb → Tells (onward f (session st t) p c b) [] [] g tl l i n (command_calls_by (suc f) b)
    unfolding Goal x rest
    command_told false e =
        rw (calls-none f b e, onward_stops f st t p c b e)
        (tells_none (no_more (session st t) []) g tl l i n refl refl counts)
    command_told true e = rw (calls-some f b e) (go (fits Reading w) refl)
      where
        w : Letter
        w = letter_of (get_or b 0 0)

        r : Called × List ℕ
        r = call_of w st p c x

        go : (y : Bool) → fits Reading w ≡ y → Goal e w refl
        go false k = unfit_told e w refl k
        go true k = by (eqb r.0.refusal 0) refl
          where
            by : (y : Bool) → eqb r.0.refusal 0 ≡ y → Goal e w refl
            by false z = refused_told e w refl k r.0 r.1 refl z
            by true z = accepted_told e w refl k r.0 r.1 refl z

  tells_front : (ge : List Placed) (m : Meaning) (es : List Shown) (ps : List Placed) (g : ℕ → Lane (List (ℕ × ℕ)))
      (tl : Slot-state (ℕ × ℕ)) (l : Layout) (i n : ℕ) (ks : List Call) → shown_in ge ≡ es → ge ≡ ps → Tells m [] [] g tl l i n ks
      → Tells (events_first ge m) es ps g tl l i n ks
  tells_front ge m es ps g tl l i n ks h w o = (
    shown-append ge m.events ∙ ap (λ (r : List Shown). r ++ shown_in m.events) h ∙ ap (λ (r : List Shown). es ++ r) o.0,
    o.1,
    o.2,
    ap (λ (r : List Placed). r ++ m.events) w ∙ ap (λ (r : List Placed). ps ++ r) o.3,
  )

  session-is : (s : Session) (st : State) → s.phase ≡ Reading → s.state ≡ st → s ≡ session st s.tally
  session-is s st h e =
      ap (λ (y : Phase). record { phase = y; state = s.state; tally = s.tally }) h ∙ ap (λ (y : State). session y s.tally) e

  settled-shows : (s : Session) (p c : List ℕ) (es : List Shown) (st : State) (c' : List ℕ) → Settled s p c es st c'
      → shown_in (waited_of s p c).events ≡ es
  settled-shows s p c es st c' d = ap shown_in d.events ∙ shown-placed s.tally.frames s.tally.slot es

  told_by : (f : ℕ) → Again f
  unfolding arrivals_by refusals_by frames_by placed_by run events
  told_by zero s p c b es st c' tl g l i n d a h q = (unfold meaning_by in unfold command_calls_by in (
    shown-append (waited_of s p c).events [] ∙ ap (λ (r : List Shown). r ++ []) (settled-shows s p c es st c' d),
    rw d.calm,
    d.frames ∙ q,
    ap (λ (r : List Placed). r ++ []) d.events,
  ))
  told_by (suc f) s p c b es st c' tl g l i n d a h q =
      let t = (drained_of s p c).session.tally in
      rw (mean_step f s p c b d.calm, session-is (drained_of s p c).session st d.phase d.state, d.collecting)
      (tells_front (waited_of s p c).events (onward f (session st t) p c' b) es (placed_at s.tally.frames s.tally.slot es) g tl l i n
      (command_calls_by (suc f) b) (settled-shows s p c es st c' d) d.events
      (command_told f (told_by f) st t p c' b tl g l i n a h (d.frames ∙ q) (whole b) refl))

-- before a command is read
fresh-idle : busy fresh_session ≡ false
unfolding fresh_session
fresh-idle = refl

pub fresh-before : fresh_session.phase ≡ Before
unfolding fresh_session
fresh-before = refl

pub fresh_waited : (p c : List ℕ) → waited_of fresh_session p c ≡ nothing_waited
unfolding waited_of waited_by
fresh_waited p c = rw fresh-idle

pub fresh_drained : (p c : List ℕ) → drained_of fresh_session p c ≡ still fresh_session c
fresh_drained p c = drain-idle fresh_session p c fresh-idle

pub fresh_means : (f : ℕ) (p c b : List ℕ) → meaning_by (suc f) fresh_session p c b ≡ onward f fresh_session p c b
fresh_means f p c b =
    mean_step f fresh_session p c b (ap (λ (g : Waited). g.refusals) (fresh_waited p c)) ∙ rw (fresh_waited p c, fresh_drained p c)

-- the first command
module _ (p c b : List ℕ) (s : Begins b) where
  size : size_of b ≡ 42
  size = size-by b Start s.has_c.first

  whole-first : whole b ≡ true
  whole-first = size-whole b (omega (arith, size)) (omega (arith, size, s.has_c.long))

  unfoldable pub started-session : Session
  started-session = session (start_of (config_in b)).state fresh_session.tally

  start-done : done_of fresh_session p c (take (size_of b) b) ≡ record { text = []; session = started-session; packet = p }
  unfolding done_of call_of after_call fresh_session started-session
  start-done =
      let l : letter_of (get_or (take (size_of b) b) 0 0) ≡ Start =
      ap letter_of (front-letter b (omega (arith, size))) ∙ s.has_c.first in
      rw (l, size, eq-eqb _ _ s.accepted)

  onward-first : (f : ℕ) → onward f fresh_session p c b ≡ meaning_by f started-session p c (drop (size_of b) b)
  unfolding onward started-session
  onward-first f = rw (start-done, whole-first, fresh-before)

  pub start_means : (f : ℕ) → meaning_by (suc f) fresh_session p c b ≡ meaning_by f started-session p c (drop (size_of b) b)
  start_means f = fresh_means f p c b ∙ onward-first f

  start-owes : (start_of (config_in b)).state.owed ≡ false
  unfolding fresh_state
  start-owes = ap (λ (st : State). st.owed) (start-accepted (config_in b) s.accepted).1

  accounts : Suffice (config_in b) p c → Accounts p c b
  unfolding meaning_of command_calls account started-session
  accounts h =
      let n : length b ≡ suc (length b - 1) = omega (arith, s.has_c.long) in
      let r =
      told_by (config_in b) (length b - 1) started-session p c (drop (size_of b) b) [] (start_of (config_in b)).state c searching (λ k. fresh)
      blank_layout 120 0 (idle-settled p started-session c refl start-owes)
      (start-at (config_in b) p c s.accepted h.packet h.collecting) (omega arith) (unfold fresh_session in omega arith) in
      let e : meaning_by (length b) fresh_session p c b ≡ meaning_by (length b - 1) started-session p c (drop (size_of b) b) =
      ap (λ (k : ℕ). meaning_by k fresh_session p c b) n ∙ start_means (length b - 1) in
      record {
        accounted = ap (λ (m : Meaning). shown_in m.events) e ∙ r.0;
        placed = ap (λ (m : Meaning). m.events) e ∙ r.3;
        refusal = ap (λ (m : Meaning). m.refusal) e ∙ r.1;
        frames = ap (λ (m : Meaning). m.tally.frames) e ∙ r.2;
      }

pub capture_accounts : CaptureAccounts
capture_accounts p c b s h = accounts p c b s h
