-- Lists of events: their notes and their units, part by part.
use Rattle.std.proofs.Common.{◌≡◌, ℕ, List, [], ◌∷◌, ◌++◌, map, refl, ap}
use Rattle.reassembly.specs.Run.{Content, Labelled, Event, note, unit, labelled, units, Clean}
use Rattle.reassembly.specs.Sent.{alone}

module _ {A : Type 0} where
  pub clean-left : (es fs : List (Event A)) → Clean (es ++ fs) → Clean es
  clean-left [] fs h = tt
  clean-left (note n i ∷ es) fs h = h
  clean-left (unit u ∷ es) fs h = clean-left es fs h

  pub clean-right : (es fs : List (Event A)) → Clean (es ++ fs) → Clean fs
  clean-right [] fs h = h
  clean-right (note n i ∷ es) fs h = absurd h
  clean-right (unit u ∷ es) fs h = clean-right es fs h

  pub units-append : (es fs : List (Event A)) → units (es ++ fs) ≡ units es ++ units fs
  units-append [] fs = refl
  units-append (note n i ∷ es) fs = units-append es fs
  units-append (unit u ∷ es) fs = ap (λ (l : List (Labelled A)). u ∷ l) (units-append es fs)

  pub units-noted : (i : ℕ) (ns : List ℕ) (es : List (Event A)) → units (map (λ n. note n i) ns ++ es) ≡ units es
  units-noted i [] es = refl
  units-noted i (n ∷ ns) es = units-noted i ns es

  -- a packet's own units
  pub units-alone : (a : A) (us : List Content) → units (map (labelled (a ∷ [])) us) ≡ map (alone a) us
  units-alone a [] = refl
  units-alone a (u ∷ us) = ap (λ (l : List (Labelled A)). alone a u ∷ l) (units-alone a us)
