-- The packets that count, among packets with labels: what the account makes of a run's events, and of packets with other
-- labels or with some left out.
use Prim.Native.Nat.{ℕ}
use mathlib.Core.Path.{◌≡◌, refl, sym, ◌∙◌}
use mathlib.Core.Bool.{Bool, true, false}
use mathlib.Core.List.{List, [], ◌∷◌, ◌++◌, map, map-append}
use Rattle.tlv.specs.Run.{
  Labelled as Labelled-packet,
  Event as Slot-event,
  note as slot-note,
  packet,
  packets,
  Clean as Slot-clean,
}
use Rattle.reassembly.specs.declared.config.Config.{Config}
use Rattle.reassembly.specs.Run.{Input, Event, note, unit, Lane, step, with_lane, run, units, Clean}
use Rattle.reassembly.specs.Claims.{received}
use Rattle.reassembly.proofs.Events.{clean-left, clean-right, units-append}
use Rattle.wire.specs.Lists.{put, sift}
use Rattle.wire.proofs.ListsLaws.{sift-append}
use Rattle.broadcast.specs.Account.{Read, silent, noted, input, read_of, after_read, events}
use Rattle.broadcast.specs.Carried.{as_input, inputs}
use Rattle.broadcast.proofs.Labels.{relabel}

-- a packet that a run gave, as its labels and its bytes
abbrev pub pair_of : {A : Type 0} → Labelled-packet A → List A × List ℕ
pair_of p = (p.labels, p.bytes)

module _ {A B : Type 0} (g : A → B) (c : Config) where
  as_relabelled : (r : Read) (a : A) → as_input r (g a) ≡ map (relabel g) (as_input r a)
  as_relabelled silent a = refl
  as_relabelled (noted n id) a = refl
  as_relabelled (input x) a = refl

  pub inputs-relabelled : (ps : List (A × List ℕ)) → inputs c (map (relabel g) ps) ≡ map (relabel g) (inputs c ps)
  unfolding inputs
  inputs-relabelled [] = refl
  inputs-relabelled (p ∷ ps) =
      let r = read_of c p.1 in
      rw (as_relabelled r p.0, inputs-relabelled ps, map-append (relabel g) (as_input r p.0) (inputs c ps))

module _ {B : Type 0} (keep : B → Bool) (c : Config) where
  as_left-out : (r : Read) (a : B) → keep a ≡ false → received keep (as_input r a) ≡ []
  as_left-out silent a k = refl
  as_left-out (noted n id) a k = refl
  as_left-out (input x) a k = rw k

  as_kept : (r : Read) (a : B) → keep a ≡ true → received keep (as_input r a) ≡ as_input r a
  as_kept silent a k = refl
  as_kept (noted n id) a k = refl
  as_kept (input x) a k = rw k

  inputs-put : (b : Bool) (p : B × List ℕ) (ps qs : List (B × List ℕ)) → keep p.0 ≡ b
      → inputs c qs ≡ received keep (inputs c ps) → inputs c (put b p qs) ≡ received keep (inputs c (p ∷ ps))
  unfolding inputs
  inputs-put true p ps qs k e =
      let r = read_of c p.1 in
      rw (sift-append (λ x. keep x.0) (as_input r p.0) (inputs c ps), as_kept r p.0 k, e)
  inputs-put false p ps qs k e =
      let r = read_of c p.1 in
      rw (sift-append (λ x. keep x.0) (as_input r p.0) (inputs c ps), as_left-out r p.0 k, e)

  -- packets left out by their labels
  pub inputs-received : (ps : List (B × List ℕ)) → inputs c (sift (λ p. keep p.0) ps) ≡ received keep (inputs c ps)
  inputs-received [] = unfold inputs in refl
  inputs-received (p ∷ ps) = inputs-put (keep p.0) p ps _ refl (inputs-received ps)

module _ {A : Type 0} where
  clean-append : (es fs : List (Event A)) → Clean es → Clean fs → Clean (es ++ fs)
  clean-append [] fs p q = q
  clean-append (note n i ∷ es) fs p q = p
  clean-append (unit u ∷ es) fs p q = clean-append es fs p q

abbrev Lanes : Type 0 → Type 0
Lanes A = ℕ → Lane (List A)

module _ {A : Type 0} (c : Config) where
  -- the packets that count, among a run's events
  abbrev pub counted : List (Slot-event A) → List (List A × Input)
  counted es = inputs c (map pair_of (packets es))

  -- a packet, and the events behind it
  module _ (es : List (Slot-event A)) (xs : List (List A × Input)) where
    read-units : (r : Read) (f : Lanes A) (a : List A) → ((h : Lanes A) → units (events c h es) ≡ units (run c.rules h xs))
        → units ((after_read c r f a).events ++ events c (after_read c r f a).lanes es)
        ≡ units (run c.rules f (as_input r a ++ xs))
    read-units silent f a ih = ih f
    read-units (noted n id) f a ih = ih f
    read-units (input x) f a ih =
        let s = step c.rules (f x.place) a x in
        let h = with_lane c.rules f x.place s.lane in
        unfold run in
        units-append s.events (events c h es) ∙ rw (ih h) (sym (units-append s.events (run c.rules h xs)))

    read-clean : (r : Read) (f : Lanes A) (a : List A)
        → ((h : Lanes A) → Clean (events c h es) → Slot-clean es × Clean (run c.rules h xs))
        → Clean ((after_read c r f a).events ++ events c (after_read c r f a).lanes es)
        → Slot-clean es × Clean (run c.rules f (as_input r a ++ xs))
    read-clean silent f a ih q = ih f q
    read-clean (noted n id) f a ih q = absurd q
    read-clean (input x) f a ih q =
        let s = step c.rules (f x.place) a x in
        let h = with_lane c.rules f x.place s.lane in
        let t = ih h (clean-right s.events (events c h es) q) in
        unfold run in
        (t.0, clean-append s.events (run c.rules h xs) (clean-left s.events (events c h es) q) t.1)

  -- the account's units are those of the packets that count
  pub events-units : (es : List (Slot-event A)) (f : Lanes A) → units (events c f es) ≡ units (run c.rules f (counted es))
  unfolding events inputs
  events-units [] f = unfold run in refl
  events-units (slot-note n ∷ es) f = events-units es f
  events-units (packet p ∷ es) f =
      read-units es (counted es) (read_of c p.bytes) f p.labels (events-units es)

  -- and where it notes nothing, neither do the slots nor these packets
  pub events-clean : (es : List (Slot-event A)) (f : Lanes A) → Clean (events c f es)
      → Slot-clean es × Clean (run c.rules f (counted es))
  unfolding events inputs
  events-clean [] f q = unfold run in (tt, tt)
  events-clean (slot-note n ∷ es) f q = absurd q
  events-clean (packet p ∷ es) f q =
      read-clean es (counted es) (read_of c p.bytes) f p.labels (events-clean es) q
