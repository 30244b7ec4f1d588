-- Why next is called at most 42,869 times: an event for each held byte, three for each byte of the slot, and three more.
use Prim.Native.Nat.{ℕ, ◌+◌, ◌*◌, ◌≤◌}
use mathlib.Core.Path.{◌≡◌, ap}
use mathlib.Core.Bool.{Bool, true, false}
use mathlib.Core.List.{List, [], ◌∷◌, ◌++◌, map}
use native.Mathlib.Omega.{arith}
use lib.ListN.{length, take, drop, length-append, length-take, length-drop}
use Rattle.tlv.specs.declared.held.Continuation.{Continuation}
use Rattle.tlv.specs.declared.held.Continuation.TheVariants.{Dropped, Ends, GoesOn}
use Rattle.tlv.specs.Packet.{cut, too_long}
use Rattle.tlv.specs.Cuts.{AllSized}
use Rattle.tlv.proofs.CutsLaws.{row, cut-whole, cut-sized}
use Rattle.tlv.specs.Slot.{sound}
use Rattle.tlv.specs.Held.{continuation_of}
use Rattle.tlv.specs.Run.{
  Slot,
  without_top,
  Event as Slot-event,
  note,
  packet,
  State as Slot-state,
  searching,
  held,
  lost,
  given,
  step,
  packet_of,
  kept,
  read_from,
  finished,
  resumed,
  arrived,
}
use Rattle.reassembly.specs.declared.config.Config.{Config}
use Rattle.reassembly.specs.Run.{Lane}
use Rattle.broadcast.specs.Account.{after_event, events}
use Rattle.broadcast.specs.SlotClaims.{Short}
use Rattle.broadcast.specs.Bound.{SlotBound}
use Rattle.broadcast.proofs.EventCount.{few-events}

module _ {A : Type 0} where
  -- how many events a slot's note or packet gives at most
  abbrev weight : Slot-event A → ℕ
  weight (note n) = 1
  weight (packet p) = length p.bytes + 2

  abbrev weights : List (Slot-event A) → ℕ
  weights [] = 0
  weights (e ∷ es) = weight e + weights es

  weights-append : (xs ys : List (Slot-event A)) → weights (xs ++ ys) ≡ weights xs + weights ys
  weights-append [] ys = omega arith
  weights-append (x ∷ xs) ys = omega (arith, weights-append xs ys)

  event-few : (cfg : Config) (f : ℕ → Lane (List A)) (e : Slot-event A) → length (after_event cfg e f).events ≤ weight e
  event-few cfg f (note n) = omega arith
  event-few cfg f (packet p) = few-events (List A) cfg p.bytes f p.labels

  events-few : (cfg : Config) (f : ℕ → Lane (List A)) (es : List (Slot-event A)) → length (events cfg f es) ≤ weights es
  unfolding events
  events-few cfg f [] = omega arith
  events-few cfg f (e ∷ es) =
      let r = after_event cfg e f in
      let i = event-few cfg f e in
      let j = events-few cfg r.lanes es in
      rw length-append (omega arith)

  -- a packet of a cut has four bytes at least, so its events are at most two for each byte
  packets-few : (ls : List A) (ps : List (List ℕ)) → AllSized ps → weights (map (packet_of ls) ps) ≤ 2 * length (row ps)
  packets-few ls [] z = omega arith
  packets-few ls (p ∷ ps) z =
      let i = packets-few ls ps z.1 in
      let l = z.0.long in
      omega (arith, length-append p (row ps))

  kept-few : (t : Bool) (a : A) (b : List ℕ) → weights (kept t a b).events ≤ 1
  unfolding kept
  kept-few true a b = omega arith
  kept-few false a b = omega arith

  read-few : (n : Bool) (a : A) (s : Slot) → weights (read_from n a s).events ≤ 2 * length s.bytes + 1
  unfolding read_from
  read-few true a s = omega arith
  read-few false a s =
      let b = drop s.top s.bytes in
      let c = cut b in
      let p = packets-few (a ∷ []) c.packets (cut-sized b) in
      let k = kept-few (too_long c.tail) a c.tail in
      let w = simp length-append at (ap length (cut-whole b)) in
      let d = length-drop s.top s.bytes in
      rw weights-append (omega arith)

  -- a held packet that the slot ends
  finished-few : (ls : List A) (h : List ℕ) (a : A) (e : ℕ) (b : List ℕ)
      → weights (finished ls h a (take e b)) ≤ length h + length b + 2
  unfolding finished
  finished-few ls [] a e b = omega arith
  finished-few ls (x ∷ h) a e b = omega (arith, length-append (x ∷ h) (take e b), length-take e b)

  resumed-few : (k : Continuation) (n : Bool) (ls : List A) (h : List ℕ) (a : A) (s : Slot)
      → weights (resumed k n ls h a s).events ≤ length h + 3 * length s.bytes + 3
  unfolding resumed
  resumed-few (Dropped x) n ls h a s = omega (arith, read-few n a s)
  resumed-few (Ends e) true ls h a s = omega (arith, finished-few ls h a e s.bytes)
  resumed-few (Ends e) false ls h a s =
      rw weights-append (omega (arith, finished-few ls h a e s.bytes, read-few false a s))
  resumed-few GoesOn n ls h a s = omega arith

  arrived-few : (t : Bool) (tl : Slot-state A) (a : A) (s : Slot) → Short tl
      → weights (arrived t tl a s).events ≤ 16387 + 3 * length s.bytes
  unfolding arrived
  arrived-few false tl a s h = omega arith
  arrived-few true searching a s h = omega (arith, read-few (without_top s) a s)
  arrived-few true (held ls b) a s h =
      omega (arith, resumed-few (continuation_of b s.bytes s.top s.last) (without_top s) ls b a s)

  given-few : (tl : Slot-state A) (a : A) (s : Slot) → Short tl
      → weights (step tl (given a s)).events ≤ 16387 + 3 * length s.bytes
  unfolding step
  given-few searching a s h = arrived-few (sound s.bytes s.top s.last) searching a s h
  given-few (held ls b) a s h = arrived-few (sound s.bytes s.top s.last) (held ls b) a s h

  lost-few : (tl : Slot-state A) → weights (step tl lost).events ≤ 1
  unfolding step
  lost-few searching = omega arith
  lost-few (held ls b) = omega arith

pub slot-bound : SlotBound
slot-bound A cfg f tl h = (
  λ a s l. omega (arith, events-few cfg f (step tl (given a s)).events, given-few tl a s h),
  omega (arith, events-few cfg f (step tl lost).events, lost-few tl),
)

-- another stream's slot, or a dummy, gives nothing
pub no_events : {A : Type 0} (cfg : Config) (f : ℕ → Lane (List A)) → length (events cfg f []) ≤ 42868
no_events cfg f = omega (arith, events-few cfg f [])
