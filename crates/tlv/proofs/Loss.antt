-- Why lost slots take away exactly the packets that have one of their labels: the reading of all slots and that of the kept
-- ones are in step, or the second one searches while bytes that the first one holds came in a slot that is not kept.
use Prim.Native.Nat.{ℕ}
use mathlib.Core.Path.{◌≡◌, refl, sym, ◌∙◌}
use mathlib.Core.Bool.{Bool, true, false, cond, ◌&&◌, and-true, and-false}
use mathlib.Core.List.{List, [], ◌∷◌, ◌++◌, map}
use native.Mathlib.Omega.{arith}
use lib.ListN.{take, drop}
use Rattle.tlv.specs.declared.held.Continuation.{Continuation}
use Rattle.tlv.specs.declared.held.Continuation.TheVariants.{Dropped, Ends, GoesOn}
use Rattle.tlv.specs.Notes.{number_of}
use Rattle.tlv.specs.Packet.{cut}
use Rattle.tlv.specs.Slot.{sound}
use Rattle.tlv.specs.Run.{Slot, Labelled, Event, note, State, searching, held, Stepped, lost, given}
use Rattle.tlv.specs.Run.{packet_of, after, kept, read_from, finished, resumed, arrived, step, run, packets}
use Rattle.tlv.specs.Run.{intact, arrival, damaged}
use Rattle.wire.specs.Lists.{sift, all}
use Rattle.wire.proofs.ListsLaws.{sift-append, all_append}
use Rattle.tlv.specs.Claims.{RunLoss}
use Rattle.tlv.proofs.Answers.{Says, says}
use Rattle.tlv.proofs.Runs.{lost-stops, step_given, packets-append}

module _ {A : Type 0} (keep : A → Bool) where
  unfoldable whole : Labelled A → Bool
  whole p = all keep p.labels

  -- the packets among events, each of whose labels is kept
  abbrev left : List (Event A) → List (Labelled A)
  left es = sift whole (packets es)

  left-append : (es fs : List (Event A)) → left (es ++ fs) ≡ left es ++ left fs
  left-append es fs = rw (packets-append es fs) (sift-append whole (packets es) (packets fs))

  -- a label more
  all-and : (ls : List A) (a : A) → all keep (ls ++ (a ∷ [])) ≡ all keep ls && keep a
  all-and ls a = rw (all_append keep ls (a ∷ []), and-true (keep a))

  -- by b: the held bytes came in kept slots, or, if there are any, not all of them did
  abbrev Carries : Bool → State A → Type 0
  Carries b searching = Unit {0}
  Carries true (held ls h) = all keep ls ≡ true
  Carries false (held ls []) = Unit {0}
  Carries false (held ls (x ∷ h)) = all keep ls ≡ false

  carries : (b : Bool) (ls : List A) (h : List ℕ) → all keep ls ≡ b → Carries b (held ls h)
  carries true ls h e = e
  carries false ls [] e = tt
  carries false ls (x ∷ h) e = e

  -- by b: the packets of a step are all left or all taken away, and what it holds is so too
  data Gives (b : Bool) (r : Stepped A) : Type 0 where
    gives : left r.events ≡ cond b (packets r.events) [] → Carries b r.state → Gives b r

  left-of : {b : Bool} {r : Stepped A} → Gives b r → left r.events ≡ cond b (packets r.events) []
  left-of (gives e c) = e

  held_of : {b : Bool} {r : Stepped A} → Gives b r → Carries b r.state
  held_of (gives e c) = c

  -- the packets with certain labels
  same-labels : (b : Bool) (ls : List A) (ps : List (List ℕ)) → all keep ls ≡ b
      → left (map (packet_of ls) ps) ≡ cond b (packets (map (packet_of ls) ps)) []
  unfolding whole
  same-labels true ls [] k = refl
  same-labels false ls [] k = refl
  same-labels true ls (p ∷ ps) k = rw (k, same-labels true ls ps k)
  same-labels false ls (p ∷ ps) k = rw (k, same-labels false ls ps k)

  finished-left : (b : Bool) (ls : List A) (h : List ℕ) (a : A) (c : List ℕ) → all keep (ls ++ (a ∷ [])) ≡ b
      → left (finished ls h a c) ≡ cond b (packets (finished ls h a c)) []
  unfolding finished
  finished-left true ls [] a c k = refl
  finished-left false ls [] a c k = refl
  finished-left true ls (x ∷ h) a c k = same-labels true (ls ++ (a ∷ [])) ((x ∷ h ++ c) ∷ []) k
  finished-left false ls (x ∷ h) a c k = same-labels false (ls ++ (a ∷ [])) ((x ∷ h ++ c) ∷ []) k

  after-gives : (b : Bool) (es : List (Event A)) (r : Stepped A) → left es ≡ cond b (packets es) [] → Gives b r
      → Gives b (after es r)
  after-gives true es r e (gives f c) = gives (left-append es r.events ∙ rw (e, f, packets-append es r.events)) c
  after-gives false es r e (gives f c) = gives (left-append es r.events ∙ rw (e, f)) c

  note-gives : (b : Bool) (n : ℕ) (r : Stepped A) → Gives b r → Gives b (after (note n ∷ []) r)
  note-gives b n r (gives e c) = gives e c

  no_packet : (b : Bool) → ◌≡◌ {A = List (Labelled A)} [] (cond b [] [])
  no_packet true = refl
  no_packet false = refl

  carries-none : (b : Bool) → Carries b (held [] [])
  carries-none true = refl
  carries-none false = tt

  -- a slot whose label is kept or not: what is read from it
  module _ (b : Bool) (a : A) (k : keep a ≡ b) where
    own : all keep (a ∷ []) ≡ b
    own = rw (and-true (keep a)) k

    kept_gives : (t : Bool) (h : List ℕ) → Gives b (kept t a h)
    unfolding kept
    kept_gives true h = gives (no_packet b) tt
    kept_gives false h = gives (no_packet b) (carries b (a ∷ []) h own)

    read-gives : (n : Bool) (s : Slot) → Gives b (read_from n a s)
    unfolding read_from
    read-gives true s = gives (no_packet b) tt
    read-gives false s =
        let ps : List (List ℕ) = (cut (drop s.top s.bytes)).packets in
        after-gives b (map (packet_of (a ∷ [])) ps) _ (same-labels b (a ∷ []) ps own) (kept_gives _ _)

    -- and what it does to held bytes
    module _ (ls : List A) (h : List ℕ) (m : all keep (ls ++ (a ∷ [])) ≡ b) where
      resumed-gives : (c : Continuation) (n : Bool) (s : Slot) → Gives b (resumed c n ls h a s)
      unfolding resumed
      resumed-gives (Dropped x) n s = note-gives b (number_of x) _ (read-gives n s)
      resumed-gives (Ends e) true s = gives (finished-left b ls h a _ m) (carries-none b)
      resumed-gives (Ends e) false s =
          let c : List ℕ = take e s.bytes in
          after-gives b (finished ls h a c) _ (finished-left b ls h a c m) (read-gives false s)
      resumed-gives GoesOn n s = gives (no_packet b) (carries b (ls ++ (a ∷ [])) (h ++ s.bytes) m)

    -- to held bytes that came in kept slots, or a slot that is not kept
    joined : (ls : List A) → cond b (all keep ls ≡ true) (Unit {0}) → all keep (ls ++ (a ∷ [])) ≡ b
    joined ls c = rw (all-and ls a) (go b k c)
      where
        go : (b : Bool) → keep a ≡ b → cond b (all keep ls ≡ true) (Unit {0}) → all keep ls && keep a ≡ b
        go true k c = rw (c, k)
        go false k c = rw (k, and-false)

    arrived-gives : (i : Bool) (st : State A) (s : Slot) → cond b (Carries true st) (Unit {0}) → Gives b (arrived i st a s)
    unfolding arrived
    arrived-gives false st s c = gives (no_packet b) tt
    arrived-gives true searching s c = read-gives _ s
    arrived-gives true (held ls h) s c = resumed-gives ls h (joined ls c) _ _ s

  -- the state of the reading of all slots, and that of the reading of those that are kept
  data Meets (u d : State A) : Type 0 where
    in_step : u ≡ d → Carries true u → Meets u d
    adrift : d ≡ searching → Carries false u → Meets u d

  -- one slot: the states meet again, and the kept packets are given
  abbrev Steps : Stepped A → Stepped A → Type 0
  Steps r w = Meets r.state w.state × (packets w.events ≡ left r.events)

  again : {r : Stepped A} → Gives true r → Steps r r
  again g = (in_step refl (held_of g), sym (left-of g))

  still-lost : (ls : List A) (a : A) → all keep ls ≡ false → all keep (ls ++ (a ∷ [])) ≡ false
  still-lost ls a c = rw (all-and ls a, c)

  finished-lost : (ls : List A) (h : List ℕ) (a : A) (b : List ℕ) → Carries false (held ls h) → left (finished ls h a b) ≡ []
  finished-lost ls [] a b c = unfold finished in refl
  finished-lost ls (x ∷ h) a b c = finished-left false ls (x ∷ h) a b (still-lost ls a c)

  -- a kept slot comes to held bytes that did not come in kept slots only: beside it, the same slot while searching
  resumed-adrift : (c : Continuation) (n : Bool) (ls : List A) (h : List ℕ) (a : A) (s : Slot) → keep a ≡ true
      → Carries false (held ls h) → Says c n h s.bytes s.top → Steps (resumed c n ls h a s) (read_from n a s)
  unfolding resumed read_from
  resumed-adrift (Dropped x) n ls h a s k c m = again (read-gives true a k n s)
  resumed-adrift (Ends e) true ls h a s k c m = (adrift refl tt, sym (finished-lost ls h a (take e s.bytes) c))
  resumed-adrift (Ends e) false ls h a s k c m =
      let b : List ℕ = take e s.bytes in
      let g = read-gives true a k false s in
      let l : left (finished ls h a b ++ (read_from false a s).events) ≡ packets (read_from false a s).events =
      left-append (finished ls h a b) (read_from false a s).events ∙ rw (finished-lost ls h a b c) (left-of g) in
      (in_step refl (held_of g), sym l)
  resumed-adrift GoesOn true ls [] a s k c m = absurd (omega arith)
  resumed-adrift GoesOn true ls (x ∷ h) a s k c m = (adrift refl (still-lost ls a c), refl)
  resumed-adrift GoesOn false ls h a s k c m = absurd m

  arrived-adrift : (i : Bool) (u : State A) (a : A) (s : Slot) → keep a ≡ true → Carries false u
      → Steps (arrived i u a s) (arrived i searching a s)
  unfolding arrived
  arrived-adrift false u a s k c = (in_step refl tt, refl)
  arrived-adrift true searching a s k c = again (read-gives true a k _ s)
  arrived-adrift true (held ls h) a s k c = resumed-adrift _ _ ls h a s k c (says h s.bytes s.top s.last)

  step_kept : (u d : State A) (a : A) (s : Slot) → keep a ≡ true → Meets u d → Steps (step u (given a s)) (step d (given a s))
  step_kept u d a s k (in_step e c) = rw (← e, step_given u a s) (again (arrived-gives true a k _ u s c))
  step_kept u d a s k (adrift e c) = rw (e, step_given u a s, step_given searching a s) (arrived-adrift _ u a s k c)

  step-lost : (u d : State A) (a : A) (s : Slot) → keep a ≡ false → Steps (step u (given a s)) (step d lost)
  step-lost u d a s k =
      let g = arrived-gives false a k (sound s.bytes s.top s.last) u s tt in
      rw (step_given u a s) (adrift (lost-stops d).1 (held_of g), (lost-stops d).0 ∙ sym (left-of g))

  step_any : (b : Bool) (u d : State A) (x : A × Slot) → keep x.0 ≡ b → Meets u d
      → Steps (step u (given x.0 x.1)) (step d (arrival b x))
  step_any true u d x k m = step_kept u d x.0 x.1 k m
  step_any false u d x k m = step-lost u d x.0 x.1 k

  runs : (xs : List (A × Slot)) (u d : State A) → Meets u d → packets (run d (damaged keep xs)) ≡ left (run u (intact xs))
  unfolding run
  runs [] u d m = refl
  runs (x ∷ xs) u d m =
      let r = step u (given x.0 x.1) in
      let w = step d (arrival (keep x.0) x) in
      let t = step_any (keep x.0) u d x refl m in
      packets-append w.events (run w.state (damaged keep xs))
      ∙ rw (t.1, runs xs r.state w.state t.0) (sym (left-append r.events (run r.state (intact xs))))

pub run_loss : RunLoss
unfolding whole
run_loss A keep xs = runs keep xs searching searching (in_step refl tt)
