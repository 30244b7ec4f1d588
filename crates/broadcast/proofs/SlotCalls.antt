-- The calls of a frame's slots, each with next until nothing waits: none is refused, and they show what the account says.
use Prim.Native.Nat.{ℕ, suc, ◌+◌, ◌≤◌, ◌<◌}
use mathlib.Core.Path.{◌≡◌, refl, sym, ap, ◌∙◌, subst}
use mathlib.Core.Bool.{Bool, true, false, cond}
use mathlib.Core.List.{List, [], ◌∷◌, ◌++◌, map, map-append, append_assoc}
use native.Mathlib.Omega.{arith}
use lib.ListN.{length, get_or, length-map}
use Rattle.tmcc.specs.Layout.{Layout}
use Rattle.tlv.specs.Run.{Stepped, State as Slot-state, Arrival, given, lost, step, run, state_after, Event as Slot-event}
use Rattle.reassembly.specs.declared.config.Config.{Config}
use Rattle.reassembly.specs.Run.{Lane}
use Rattle.frames.specs.Slot.{wrong_length}
use Rattle.frames.proofs.SlotLaws.{right-length}
use Rattle.broadcast.specs.Account.{events, lanes_after, after_event}
use Rattle.broadcast.specs.Drains.{Shown, strip}
use Rattle.broadcast.specs.Calls.{Machine, Call, frame, lost-frame, slot, lost-slot, next, accepted, did, Todo, call, drain, Made, Follows, all_shown, refusals, note_shown, refusal_in, Answer}
use Rattle.broadcast.specs.Frames.{slot_call, slots_todo, slot_at, if_own, arriving, slots_arrive}
use Rattle.broadcast.proofs.Script.{Left, Makes, call-follows, drain-follows, call-made, drain-made}
use Rattle.broadcast.specs.Machines.{At}
use Rattle.broadcast.proofs.Bound.{slot-bound, no_events}
use Rattle.broadcast.proofs.Items.{Item, own-item, lost-item, other_item, other-lost-item}

-- one list of slot events behind another
module _ {A : Type 0} (cfg : Config) where
  pub events-append : (f : ℕ → Lane (List A)) (a b : List (Slot-event A))
      → events cfg f (a ++ b) ≡ events cfg f a ++ events cfg (lanes_after cfg f a) b
  unfolding events lanes_after
  events-append f [] b = refl
  events-append f (x ∷ a) b =
      let r = after_event cfg x f in
      ap (λ l. r.events ++ l) (events-append r.lanes a b)
      ∙ sym (append_assoc r.events (events cfg r.lanes a) (events cfg (lanes_after cfg r.lanes a) b))

  pub lanes-append : (f : ℕ → Lane (List A)) (a b : List (Slot-event A))
      → lanes_after cfg f (a ++ b) ≡ lanes_after cfg (lanes_after cfg f a) b
  unfolding lanes_after
  lanes-append f [] b = refl
  lanes-append f (x ∷ a) b = lanes-append (after_event cfg x f).lanes a b

-- a call that is accepted, with next until nothing waits
module _ {A : Type 0} (cfg : Config) (m : Machine) (k : Call) (tl : Slot-state A) (f : ℕ → Lane (List A)) (es : List Shown) (l : Layout)
    (s : ℕ) (i : Item cfg m k tl f es l s) where
  abbrev machine_then : Machine
  machine_then = record { state = i.state; packet = (did k m).machine.packet; collecting = i.collecting }

  accepted-left : (a : Answer) → a ≡ accepted → (note_shown a ≡ []) × (refusal_in a ≡ [])
  accepted-left a e = (rw e, rw e)

  pub item-follows : (ts : List Todo) (xs : List Made) → Follows (call k ∷ drain ∷ ts) m xs
      → Left ts machine_then es [] (all_shown (call k ∷ drain ∷ ts) m xs) (refusals (call k ∷ drain ∷ ts) m xs)
  item-follows ts xs h =
      let c = call-follows k (drain ∷ ts) m xs h in
      let n = accepted-left (did k m).answer i.answer in
      let d = drain-follows c.calls ts (did k m).machine.packet i.drains c.follows in
      record {
        calls = d.calls;
        follows = d.follows;
        shows-on = c.shows-on ∙ ap (λ r. r ++ all_shown (drain ∷ ts) (did k m).machine c.calls) n.0 ∙ d.shows-on;
        refuses-on = c.refuses-on ∙ ap (λ r. r ++ refusals (drain ∷ ts) (did k m).machine c.calls) n.1 ∙ d.refuses-on;
      }

  pub item-made : (ts : List Todo) → Makes ts machine_then → Makes (call k ∷ drain ∷ ts) m
  item-made ts h = call-made (drain ∷ ts) m k (drain-made ts (did k m).machine.packet i.drains h)

-- the calls after which next is owed
abbrev pub Owes : Call → Type 0
Owes (frame b) = ⊥
Owes lost-frame = Unit {0}
Owes (slot d) = Unit {0}
Owes lost-slot = Unit {0}
Owes next = ⊥

slot-owes : (gone : Bool) (d : List ℕ) → Owes (slot_call gone d)
slot-owes true d = tt
slot-owes false d = tt

-- the slots from number s on have their data lengths
abbrev pub SlotsFit : Layout → ℕ → List (List ℕ) → Type 0
SlotsFit l s [] = Unit {0}
SlotsFit l s (d ∷ ds) = (wrong_length (get_or l.lengths s 0) (length d) ≡ false) × SlotsFit l (suc s) ds

-- what a reading leaves: the machine, and the state of the account after the arrivals xs
pub record Went {A : Type 0} (cfg : Config) (tl : Slot-state A) (f : ℕ → Lane (List A)) (xs : List (Arrival A)) (ts : List Todo)
    (all : List Shown) (ref : List ℕ) (l : Layout) (n : ℕ) : Type 0 where
  pub machine : Machine
  pub at : At cfg machine (state_after tl xs) (lanes_after cfg f (run tl xs)) l n
  pub left : Left ts machine (map strip (events cfg f (run tl xs))) [] all ref

module _ (cfg : Config) where
  -- a slot's call, and what arrives of it
  pub record Step (m : Machine) (tl : Slot-state (ℕ × ℕ)) (f : ℕ → Lane (List (ℕ × ℕ))) (l : Layout) (s : ℕ) (k : Call)
      (arr : List (Arrival (ℕ × ℕ))) : Type 0 where
    pub does : Stepped (ℕ × ℕ)
    pub item : Item cfg m k does.state (lanes_after cfg f does.events) (map strip (events cfg f does.events)) l (suc s)
    pub runs : (xs : List (Arrival (ℕ × ℕ))) → run tl (arr ++ xs) ≡ does.events ++ run does.state xs
    pub ends : (xs : List (Arrival (ℕ × ℕ))) → state_after tl (arr ++ xs) ≡ state_after does.state xs
    pub few : length (events cfg f does.events) ≤ 42868

  module _ (m : Machine) (tl : Slot-state (ℕ × ℕ)) (f : ℕ → Lane (List (ℕ × ℕ))) (l : Layout) (i s : ℕ) (d : List ℕ)
      (a : At cfg m tl f l s) (h : s < 120) where
    step_by : (gone own : Bool) → (gone ≡ false → wrong_length (get_or l.lengths s 0) (length d) ≡ false) → get_or l.own s false ≡ own
        → Step m tl f l s (slot_call gone d) (cond own (arriving gone (i, s) (slot_at l s d) ∷ []) [])
    unfolding run state_after
    step_by true true w o =
        record {
          does = step tl lost;
          item = lost-item cfg m tl f l s a h o;
          runs = λ xs. refl;
          ends = λ xs. refl;
          few = omega (arith, (slot-bound (ℕ × ℕ) cfg f tl a.short).1);
        }
    step_by true false w o =
        record {
          does = record { state = tl; events = [] };
          item = other-lost-item cfg m tl f l s a h o;
          runs = λ xs. refl;
          ends = λ xs. refl;
          few = no_events cfg f;
        }
    step_by false true w o =
        record {
          does = step tl (given (i, s) (slot_at l s d));
          item =
              own-item cfg m tl f l (i, s) s d a h o (w refl);
          runs = λ xs. refl;
          ends = λ xs. refl;
          few = (slot-bound (ℕ × ℕ) cfg f tl a.short).0 (i, s) (slot_at l s d) (right-length _ _ (w refl)).0;
        }
    step_by false false w o =
        record {
          does = record { state = tl; events = [] };
          item = other_item cfg m tl f l s d a h o (w refl);
          runs = λ xs. refl;
          ends = λ xs. refl;
          few = no_events cfg f;
        }

    pub slot_step : (gone : Bool) → (gone ≡ false → wrong_length (get_or l.lengths s 0) (length d) ≡ false)
        → Step m tl f l s (slot_call gone d) (if_own l s (arriving gone (i, s) (slot_at l s d)))
    slot_step gone w = step_by gone (get_or l.own s false) w refl

  -- what was shown for slot events y, and then for the arrivals xs
  pub shown-on : (tl : Slot-state (ℕ × ℕ)) (f : ℕ → Lane (List (ℕ × ℕ))) (y : Stepped (ℕ × ℕ)) (as' xs : List (Arrival (ℕ × ℕ)))
      → run tl as' ≡ y.events ++ run y.state xs
      → map strip (events cfg f (run tl as'))
      ≡ map strip (events cfg f y.events) ++ map strip (events cfg (lanes_after cfg f y.events) (run y.state xs))
  shown-on tl f y as' xs e =
      ap (λ r. map strip (events cfg f r)) e ∙ ap (map strip) (events-append cfg f y.events (run y.state xs))
      ∙ map-append strip (events cfg f y.events) (events cfg (lanes_after cfg f y.events) (run y.state xs))

  -- an item, and then the rest of a reading
  pub went_on : (m : Machine) (k : Call) (tl : Slot-state (ℕ × ℕ)) (f : ℕ → Lane (List (ℕ × ℕ))) (l : Layout) (s : ℕ) (y : Stepped (ℕ × ℕ))
      (as' as'' : List (Arrival (ℕ × ℕ))) (us ts : List Todo) (xs : List Made) (n : ℕ)
      (i : Item cfg m k y.state (lanes_after cfg f y.events) (map strip (events cfg f y.events)) l s)
      → run tl as'' ≡ y.events ++ run y.state as' → state_after tl as'' ≡ state_after y.state as'
      → Follows (call k ∷ drain ∷ us) m xs
      → ((ys : List Made) → Follows us (record { state = i.state; packet = (did k m).machine.packet; collecting = i.collecting }) ys
      → refusals (call k ∷ drain ∷ us) m xs
      ≡ refusals us (record { state = i.state; packet = (did k m).machine.packet; collecting = i.collecting }) ys
      → Went cfg y.state (lanes_after cfg f y.events) as' ts
      (all_shown us (record { state = i.state; packet = (did k m).machine.packet; collecting = i.collecting }) ys)
      (refusals us (record { state = i.state; packet = (did k m).machine.packet; collecting = i.collecting }) ys) l n)
      → Went cfg tl f as'' ts (all_shown (call k ∷ drain ∷ us) m xs) (refusals (call k ∷ drain ∷ us) m xs) l n
  went_on m k tl f l s y as' as'' us ts xs n i e g h rest =
      let es = map strip (events cfg f y.events) in
      let q = item-follows cfg m k y.state (lanes_after cfg f y.events) es l s i us xs h in
      let r = rest q.calls q.follows q.refuses-on in
      record {
        machine = r.machine;
        at = rw (g, e, lanes-append cfg f y.events (run y.state as')) r.at;
        left = record {
          calls = r.left.calls;
          follows = r.left.follows;
          shows-on =
              q.shows-on ∙ ap (λ z. es ++ z) r.left.shows-on
              ∙ sym (append_assoc es (map strip (events cfg (lanes_after cfg f y.events) (run y.state as'))) _)
              ∙ ap (λ z. z ++ all_shown ts r.machine r.left.calls) (sym (shown-on tl f y as'' as' e));
          refuses-on = q.refuses-on ∙ r.left.refuses-on;
        };
      }

  pub slots_read : (gone : ℕ → Bool) (i : ℕ) (ds : List (List ℕ)) (s : ℕ) (l : Layout) (m : Machine) (tl : Slot-state (ℕ × ℕ))
      (f : ℕ → Lane (List (ℕ × ℕ))) (ts : List Todo) (xs : List Made) → At cfg m tl f l s → s + length ds ≡ 120 → SlotsFit l s ds
      → Follows (slots_todo gone s ds ++ ts) m xs
      → Went cfg tl f (slots_arrive l gone i s ds) ts (all_shown (slots_todo gone s ds ++ ts) m xs)
      (refusals (slots_todo gone s ds ++ ts) m xs) l 120
  unfolding slots_todo slots_arrive run state_after events lanes_after
  slots_read gone i [] s l m tl f ts xs a n w h =
      record {
        machine = m;
        at = subst (λ (k : ℕ). At cfg m tl f l k) (omega (arith, n)) a;
        left = record { calls = xs; follows = h; shows-on = refl; refuses-on = refl };
      }
  slots_read gone i (d ∷ ds) s l m tl f ts xs a n w h =
      let x = slot_step m tl f l i s d a (omega (arith, n)) (gone s) (λ z. w.0) in
      let y = x.does in
      let tail = slots_arrive l gone i (suc s) ds in
      went_on m (slot_call (gone s) d) tl f l (suc s) y tail _ (slots_todo gone (suc s) ds ++ ts) ts xs 120 x.item (x.runs tail)
      (x.ends tail) h
      (λ ys q g. slots_read gone i ds (suc s) l _ y.state (lanes_after cfg f y.events) ts ys x.item.at (omega (arith, n)) w.1 q)

  -- what is handed on from the end of what is prescribed to its beginning: by a frame's call, and by a slot or a lost frame
  -- with the calls of next, of which there are not many
  pub record Hands (P : List Todo → Machine → Type 0) : Type 0 where
    pub done : (m : Machine) → P [] m
    pub by-frame : (b : List ℕ) (ts : List Todo) (m m' : Machine) → did (frame b) m ≡ record { answer = accepted; machine = m' }
        → P ts m' → P (call (frame b) ∷ ts) m
    pub by-item : (k : Call) → Owes k → (m : Machine) (tl : Slot-state (ℕ × ℕ)) (f : ℕ → Lane (List (ℕ × ℕ))) (es : List Shown)
        (l : Layout) (s : ℕ) (i : Item cfg m k tl f es l s) → length es ≤ 42868 → (ts : List Todo)
        → P ts (record { state = i.state; packet = (did k m).machine.packet; collecting = i.collecting })
        → P (call k ∷ drain ∷ ts) m

  pub slots_hand : (P : List Todo → Machine → Type 0) → Hands P → (gone : ℕ → Bool) (i : ℕ) (ds : List (List ℕ)) (s : ℕ) (l : Layout)
      (m : Machine) (tl : Slot-state (ℕ × ℕ)) (f : ℕ → Lane (List (ℕ × ℕ))) (ts : List Todo) → At cfg m tl f l s
      → s + length ds ≡ 120 → SlotsFit l s ds
      → ((n : Machine) (u : Slot-state (ℕ × ℕ)) (g : ℕ → Lane (List (ℕ × ℕ))) → At cfg n u g l 120 → P ts n)
      → P (slots_todo gone s ds ++ ts) m
  unfolding slots_todo
  slots_hand P hs gone i [] s l m tl f ts a n w h = h m tl f (subst (λ (k : ℕ). At cfg m tl f l k) (omega (arith, n)) a)
  slots_hand P hs gone i (d ∷ ds) s l m tl f ts a n w h =
      let x = slot_step m tl f l i s d a (omega (arith, n)) (gone s) (λ z. w.0) in
      let few : length (map strip (events cfg f x.does.events)) ≤ 42868 = rw length-map x.few in
      hs.by-item (slot_call (gone s) d) (slot-owes (gone s) d) m x.does.state _ _ l (suc s) x.item few (slots_todo gone (suc s) ds ++ ts)
      (slots_hand P hs gone i ds (suc s) l _ x.does.state _ ts x.item.at (omega (arith, n)) w.1 h)
