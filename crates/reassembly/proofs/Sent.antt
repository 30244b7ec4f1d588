-- Where nothing was noted, the units are those that the packets carry: a lane holds the open unit of its packets.
use Rattle.std.proofs.Common.{◌≡◌, ℕ, Bool, true, false, cond, eqb, List, [], ◌∷◌, ◌++◌, sym, refl, ap, ◌∙◌, ap₂, eqb-true}
use mathlib.Core.Option.{Option, none, some}
use Rattle.mmtp.specs.declared.payload.Indicator.{Indicator}
use Rattle.mmtp.specs.declared.payload.Indicator.TheVariants.{Whole, First, Middle, Last}
use Rattle.reassembly.specs.declared.config.Rules.{Rules}
use Rattle.reassembly.specs.declared.channel.Phase.{Phase}
use Rattle.reassembly.specs.declared.channel.Phase.TheVariants.{Unheard, Waiting, Idle, Open}
use Rattle.reassembly.specs.Run.{Input, Labelled, Lane, Stepped, fresh, step, with_lane, run, units, Clean}
use Rattle.reassembly.specs.Sent.{open_by, open_unit, ending_by, sent_after, sent}
use Rattle.reassembly.specs.Channel.{unheard}
use Rattle.reassembly.specs.Claims.{RunSent}
use Rattle.reassembly.proofs.Events.{clean-left, clean-right, units-append, units-alone}
use Rattle.reassembly.proofs.Steps.{Further, Deaf, Went, gives, begins, skips, grows, ends, clean_step}

module _ {A : Type 0} where
  -- the open unit of a lane in this phase
  abbrev held_in : Phase → Lane A → Option (Labelled A)
  held_in Unheard l = none
  held_in Waiting l = none
  held_in Idle l = none
  held_in Open l = some (record { labels = l.labels; content = record { info = l.channel.current.unit; bytes = l.bytes } })

  abbrev held : Lane A → Option (Labelled A)
  held l = held_in l.channel.phase l

  abbrev Ends : Indicator → Option (Labelled A) → A → Input → Stepped A → Type 0
  Ends f o a x s = (units s.events ≡ ending_by f o a x) × (held s.lane ≡ open_by f o a x)

  deaf_held : (ph : Phase) (l : Lane A) → Deaf ph → held_in ph l ≡ none
  deaf_held Unheard l d = refl
  deaf_held Waiting l d = refl
  deaf_held Idle l d = absurd d
  deaf_held Open l d = absurd d

  further-none : (f : Indicator) (a : A) (x : Input) → Further f → (ending_by f none a x ≡ []) × (open_by f none a x ≡ none)
  further-none Whole a x t = absurd t
  further-none First a x t = absurd t
  further-none Middle a x t = (refl, refl)
  further-none Last a x t = (refl, refl)

  went-ends : {rules : Rules} {l : Lane A} {a : A} {x : Input} {f : Indicator} {ph : Phase} {s : Stepped A} → Went rules l a x f ph s
      → Ends f (held_in ph l) a x s
  went-ends {a = a} {x = x} (gives t) = (units-alone a x.wholes, refl)
  went-ends (begins t e) = (refl, refl)
  went-ends {l = l} {a = a} {x = x} {f = f} {ph = ph} (skips t d) =
      rw (deaf_held ph l d) (sym (further-none f a x t).0, sym (further-none f a x t).1)
  went-ends grows = (refl, refl)
  went-ends ends = (refl, refl)

  module _ (rules : Rules) where
    -- every lane holds the open unit of its packets
    abbrev Holding : (ℕ → Lane A) → List (A × Input) → Type 0
    Holding f older = (k : ℕ) → open_unit k older ≡ held (f k)

    holding-on : (f : ℕ → Lane A) (older : List (A × Input)) (x : A × Input) (l : Lane A) → Holding f older
        → held l ≡ open_by x.1.piece.indicator (held (f x.1.place)) x.0 x.1
        → Holding (with_lane rules f x.1.place l) (x ∷ older)
    unfolding open_unit
    holding-on f older x l h e k = go (eqb k x.1.place) refl
      where
        go : (b : Bool) → eqb k x.1.place ≡ b
            → cond b (open_by x.1.piece.indicator (open_unit k older) x.0 x.1) (open_unit k older) ≡ held (cond b l (f k))
        go true q = rw (eqb-true k x.1.place q, h x.1.place) (sym e)
        go false q = h k

    sent-from : (xs : List (A × Input)) (f : ℕ → Lane A) (older : List (A × Input)) → Holding f older → Clean (run rules f xs)
        → units (run rules f xs) ≡ sent_after older xs
    unfolding run sent_after
    sent-from [] f older h c = refl
    sent-from (x ∷ xs) f older h c =
        let i = x.1.place in
        let s = step rules (f i) x.0 x.1 in
        let g = with_lane rules f i s.lane in
        let ending : Option (Labelled A) → List (Labelled A) = λ o. ending_by x.1.piece.indicator o x.0 x.1 in
        let w = went-ends (clean_step rules (f i) x.0 x.1 (clean-left s.events (run rules g xs) c)) in
        units-append s.events (run rules g xs)
        ∙ ap₂ (λ (us vs : List (Labelled A)). us ++ vs) (w.0 ∙ ap ending (sym (h i)))
        (sent-from xs g (x ∷ older) (holding-on f older x s.lane h w.1) (clean-right s.events (run rules g xs) c))

pub run-sent : RunSent
unfolding sent open_unit unheard
run-sent A rules xs c = sent-from rules xs (λ k. fresh) [] (λ k. refl) c
