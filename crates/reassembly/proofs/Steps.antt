-- What one step does to a lane: by the indicator and the phase where nothing is noted, and after a gap as from waiting.
use Rattle.std.proofs.Common.{◌≡◌, ℕ, ◌+◌, Bool, true, false, ◌&&◌, ltb, List, [], ◌∷◌, ◌++◌, map, sym, refl, ◌∙◌}
use Rattle.mmtp.specs.declared.payload.Indicator.{Indicator}
use Rattle.mmtp.specs.declared.payload.Indicator.TheVariants.{Whole, First, Middle, Last}
use Rattle.reassembly.specs.declared.config.Rules.{Rules}
use Rattle.reassembly.specs.declared.channel.Phase.{Phase}
use Rattle.reassembly.specs.declared.channel.Phase.TheVariants.{Unheard, Waiting, Idle, Open}
use Rattle.reassembly.specs.declared.channel.OpenUnit.{OpenUnit}
use Rattle.reassembly.specs.Joined.{Joined}
use Rattle.reassembly.specs.Unit.{agrees}
use Rattle.reassembly.specs.Channel.{gap}
use Rattle.reassembly.specs.Join.{interrupted, longer, noted, notes_of}
use Rattle.reassembly.specs.Join.{begun, counter_follows, grown, extended, followed, acted_by, acted, join_of}
use Rattle.reassembly.specs.Run.{Input, Event, Lane, Stepped, gathered, labelled, given, events_of, step, units, Clean}
use Rattle.reassembly.proofs.Events.{units-noted}

-- no unit is open
abbrev pub Shut : Phase → Type 0
Shut Unheard = Unit {0}
Shut Waiting = Unit {0}
Shut Idle = Unit {0}
Shut Open = ⊥

-- FI 10 and 11 are silent
abbrev pub Deaf : Phase → Type 0
Deaf Unheard = Unit {0}
Deaf Waiting = Unit {0}
Deaf Idle = ⊥
Deaf Open = ⊥

-- FI 10 or 11
abbrev pub Further : Indicator → Type 0
Further Whole = ⊥
Further First = ⊥
Further Middle = Unit {0}
Further Last = Unit {0}

pub shut_quiet : (ph : Phase) → Shut ph → interrupted ph ≡ 0
unfolding interrupted
shut_quiet Unheard s = refl
shut_quiet Waiting s = refl
shut_quiet Idle s = refl
shut_quiet Open s = absurd s

-- the open unit that a packet begins
abbrev pub newly : Input → OpenUnit
newly x = record { unit = x.piece.unit; counter = x.piece.counter; len = x.piece.len }

module _ {A : Type 0} where
  -- the lane after a packet
  abbrev pub lane_of : Phase → Input → OpenUnit → List A → List ℕ → Lane A
  lane_of ph x c ls bs =
      record { channel = record { phase = ph; last = x.piece.unit.psn; current = c }; labels = ls; bytes = bs }

  -- the open unit with a packet's piece behind it, and the unit that this completes
  abbrev pub further : Lane A → Input → OpenUnit
  further l x = longer l.channel x.piece

  abbrev pub joined_unit : Lane A → A → Input → Event A
  joined_unit l a x =
      labelled (l.labels ++ (a ∷ [])) (record { info = l.channel.current.unit; bytes = l.bytes ++ x.bytes })

  abbrev lane_by : Indicator → Lane A → A → Input → Joined → Lane A
  lane_by f l a x j =
      record { channel = j.channel; labels = gathered f l.labels (a ∷ []); bytes = gathered f l.bytes x.bytes }

  -- what a step without a note comes to
  pub data Went (rules : Rules) (l : Lane A) (a : A) (x : Input) : Indicator → Phase → Stepped A → Type 0 where
    gives : {ph : Phase} → Shut ph → Went rules l a x Whole ph (record {
      lane = lane_of Idle x l.channel.current l.labels l.bytes;
      events = map (labelled (a ∷ [])) x.wholes;
    })
    begins : {ph : Phase} → Shut ph → ltb rules.limit x.piece.len ≡ false
        → Went rules l a x First ph (record { lane = lane_of Open x (newly x) (a ∷ []) x.bytes; events = [] })
    skips : {f : Indicator} {ph : Phase} → Further f → Deaf ph → Went rules l a x f ph (record {
      lane = lane_of Waiting x l.channel.current (gathered f l.labels (a ∷ [])) (gathered f l.bytes x.bytes);
      events = [];
    })
    grows : Went rules l a x Middle Open (record {
      lane = lane_of Open x (further l x) (l.labels ++ (a ∷ [])) (l.bytes ++ x.bytes);
      events = [];
    })
    ends : Went rules l a x Last Open (record {
      lane = lane_of Idle x (further l x) (l.labels ++ (a ∷ [])) (l.bytes ++ x.bytes);
      events = joined_unit l a x ∷ [];
    })

  module _ (rules : Rules) where
    -- (c) of a packet with this indicator at a lane in this phase, whatever they say themselves
    unfoldable pub does : Indicator → Phase → Lane A → A → Input → Stepped A
    does f ph l a x =
        let j = acted_by f (record { phase = ph; last = x.piece.unit.psn; current = l.channel.current }) x.piece rules in
        record { lane = lane_by f l a x j; events = events_of a x j (lane_by f l a x j) }

    module _ (l : Lane A) (a : A) (x : Input) where
      clean-begins : (ph : Phase) → Shut ph → (b : Bool) → ltb rules.limit x.piece.len ≡ b → Clean (does First ph l a x).events
          → Went rules l a x First ph (does First ph l a x)
      unfolding does begun notes_of
      clean-begins ph s true e h = absurd (rw (e, shut_quiet ph s) at h)
      clean-begins ph s false e h = rw (e, shut_quiet ph s) (begins s e)

      -- whether FI 10 or 11 goes with the open unit, and passes R
      abbrev Follows : Bool → Type 0
      Follows b =
          agrees l.channel.current.unit x.piece.unit
          && counter_follows l.channel.current.counter x.piece.counter ≡ b

      abbrev Over : Bool → Type 0
      Over b = ltb rules.limit (l.channel.current.len + x.piece.len) ≡ b

      clean-grows : (c v : Bool) → Follows c → Over v → Clean (does Middle Open l a x).events
          → Went rules l a x Middle Open (does Middle Open l a x)
      unfolding does followed extended grown notes_of
      clean-grows false v e o h = absurd (rw e at h)
      clean-grows true true e o h = absurd (rw (e, o) at h)
      clean-grows true false e o h = rw (e, o) grows

      clean-ends : (c v : Bool) → Follows c → Over v → Clean (does Last Open l a x).events
          → Went rules l a x Last Open (does Last Open l a x)
      unfolding does followed extended grown notes_of
      clean-ends false v e o h = absurd (rw e at h)
      clean-ends true true e o h = absurd (rw (e, o) at h)
      clean-ends true false e o h = rw (e, o) ends

      not-begun : (b : Bool) → ltb rules.limit x.piece.len ≡ b → Clean (does First Open l a x).events → ⊥
      unfolding does begun interrupted notes_of
      not-begun true e h = rw e at h
      not-begun false e h = rw e at h

      clean-does : (f : Indicator) (ph : Phase) → Clean (does f ph l a x).events → Went rules l a x f ph (does f ph l a x)
      unfolding does followed interrupted notes_of
      clean-does Whole Unheard h = gives tt
      clean-does Whole Waiting h = gives tt
      clean-does Whole Idle h = gives tt
      clean-does Whole Open h = absurd h
      clean-does First Unheard h = clean-begins Unheard tt _ refl h
      clean-does First Waiting h = clean-begins Waiting tt _ refl h
      clean-does First Idle h = clean-begins Idle tt _ refl h
      clean-does First Open h = absurd (not-begun _ refl h)
      clean-does Middle Unheard h = skips tt tt
      clean-does Middle Waiting h = skips tt tt
      clean-does Middle Idle h = absurd h
      clean-does Middle Open h = clean-grows _ _ refl refl h
      clean-does Last Unheard h = skips tt tt
      clean-does Last Waiting h = skips tt tt
      clean-does Last Idle h = absurd h
      clean-does Last Open h = clean-ends _ _ refl refl h

      -- the step itself: without a gap, and with one
      pub step-on : gap l.channel x.piece.unit.psn ≡ false
          → step rules l a x ≡ does x.piece.indicator l.channel.phase l a x
      unfolding step join_of acted does
      step-on g = rw g

      -- r has the lane and the units of w, perhaps with other notes
      abbrev pub AsFrom : Stepped A → Stepped A → Type 0
      AsFrom w r = (r.lane ≡ w.lane) × (units r.events ≡ units w.events)

      units-once : (n : ℕ) (j : Joined) (m : Lane A) → units (events_of a x (noted n j) m) ≡ units (events_of a x j m)
      units-once n j m =
          let i = x.piece.unit.packet_id in
          let us = given j.action a x m in
          units-noted i (notes_of (noted n j)) us ∙ sym (units-noted i (notes_of j) us)

      pub step-gap : gap l.channel x.piece.unit.psn ≡ true
          → AsFrom (does x.piece.indicator Waiting l a x) (step rules l a x)
      unfolding step join_of acted does
      step-gap g = rw g (refl, units-once _ _ _)

      no_gap : (b : Bool) → gap l.channel x.piece.unit.psn ≡ b → Clean (step rules l a x).events → b ≡ false
      unfolding step join_of notes_of
      no_gap true g h = absurd (rw g at h)
      no_gap false g h = refl

      pub clean-on : Clean (step rules l a x).events → gap l.channel x.piece.unit.psn ≡ false
      clean-on h = no_gap _ refl h

      pub clean_step : Clean (step rules l a x).events
          → Went rules l a x x.piece.indicator l.channel.phase (step rules l a x)
      clean_step h = rw (step-on (clean-on h)) (clean-does _ _ (rw (step-on (clean-on h)) at h))

      -- a first packet does what it does while waiting
      pub deaf_does : (f : Indicator) (ph : Phase) → Deaf ph → does f ph l a x ≡ does f Waiting l a x
      unfolding does begun followed interrupted
      deaf_does Whole Unheard d = refl
      deaf_does First Unheard d = refl
      deaf_does Middle Unheard d = refl
      deaf_does Last Unheard d = refl
      deaf_does f Waiting d = refl
      deaf_does f Idle d = absurd d
      deaf_does f Open d = absurd d
