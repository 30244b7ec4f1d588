-- The units that packets carry do not depend on what the packets' labels are: relabelled packets carry the relabelled units.
use Prim.Native.Nat.{ℕ}
use mathlib.Core.Path.{◌≡◌, refl, sym, ap}
use mathlib.Core.Bool.{Bool, true, false, cond}
use mathlib.Core.List.{List, [], ◌∷◌, map, map-append, map-map}
use mathlib.Core.Option.{Option, none, some}
use lib.Dec.{eqb}
use Rattle.mmtp.specs.declared.payload.Indicator.{Indicator}
use Rattle.mmtp.specs.declared.payload.Indicator.TheVariants.{Whole, First, Middle, Last}
use Rattle.wire.specs.Lists.{put, all}
use Rattle.reassembly.specs.Run.{Content, Input, Labelled, count}
use Rattle.reassembly.specs.Sent.{open_by, open_unit, continued, alone, ending_by, sent_after, sent}
use Rattle.reassembly.specs.Claims.{unharmed}
use Rattle.broadcast.specs.Carried.{contents}

module _ {A B : Type 0} (g : A → B) where
  -- a packet, and a unit, with the labels that g makes of its own
  abbrev pub relabel : {C : Type 0} → A × C → B × C
  relabel x = (g x.0, x.1)

  abbrev pub relabelled : Labelled A → Labelled B
  relabelled u = record { labels = map g u.labels; content = u.content }

  abbrev relabelled_if : Option (Labelled A) → Option (Labelled B)
  relabelled_if none = none
  relabelled_if (some u) = some (relabelled u)

  continued-relabelled : (u : Labelled A) (a : A) (x : Input) → continued (relabelled u) (g a) x ≡ relabelled (continued u a x)
  continued-relabelled u a x = rw (map-append g u.labels (a ∷ []))

  open_by_lem : (i : Indicator) (o : Option (Labelled A)) (a : A) (x : Input)
      → open_by i (relabelled_if o) (g a) x ≡ relabelled_if (open_by i o a x)
  open_by_lem Whole o a x = refl
  open_by_lem First o a x = refl
  open_by_lem Middle none a x = refl
  open_by_lem Middle (some u) a x = ap some (continued-relabelled u a x)
  open_by_lem Last o a x = refl

  open_unit_lem : (k : ℕ) (older : List (A × Input)) → open_unit k (map relabel older) ≡ relabelled_if (open_unit k older)
  unfolding open_unit
  open_unit_lem k [] = refl
  open_unit_lem k (x ∷ older) = rw (open_unit_lem k older) (go (eqb k x.1.place))
    where
      i : Indicator
      i = x.1.piece.indicator

      go : (b : Bool)
          → cond b (open_by i (relabelled_if (open_unit k older)) (g x.0) x.1) (relabelled_if (open_unit k older))
          ≡ relabelled_if (cond b (open_by i (open_unit k older) x.0 x.1) (open_unit k older))
      go true = open_by_lem i (open_unit k older) x.0 x.1
      go false = refl

  ending : (i : Indicator) (o : Option (Labelled A)) (a : A) (x : Input)
      → ending_by i (relabelled_if o) (g a) x ≡ map relabelled (ending_by i o a x)
  ending Whole o a x = sym (map-map relabelled (alone a) x.wholes)
  ending First o a x = refl
  ending Middle o a x = refl
  ending Last none a x = refl
  ending Last (some u) a x = rw (continued-relabelled u a x)

  sent-after : (older xs : List (A × Input))
      → sent_after (map relabel older) (map relabel xs) ≡ map relabelled (sent_after older xs)
  unfolding sent_after
  sent-after older [] = refl
  sent-after older (x ∷ xs) =
      let i = x.1.piece.indicator in
      let o = open_unit x.1.place older in
      rw (
        open_unit_lem x.1.place older,
        ending i o x.0 x.1,
        sent-after (x ∷ older) xs,
        map-append relabelled (ending_by i o x.0 x.1) (sent_after (x ∷ older) xs),
      )

  pub sent-relabelled : (xs : List (A × Input)) → sent (map relabel xs) ≡ map relabelled (sent xs)
  unfolding sent
  sent-relabelled xs = sent-after [] xs

  -- nor does the number of packets
  pub count-relabelled : (k : ℕ) (xs : List (A × Input)) → count k (map relabel xs) ≡ count k xs
  count-relabelled k [] = refl
  count-relabelled k (x ∷ xs) = rw (count-relabelled k xs)

  pub contents-relabelled : (us : List (Labelled A)) → contents (map relabelled us) ≡ contents us
  contents-relabelled us = map-map (λ (u : Labelled B). u.content) relabelled us

module _ {A : Type 0} (keep : A → Bool) where
  abbrev same : Bool → Bool
  same b = b

  all_map : (ls : List A) → all same (map keep ls) ≡ all keep ls
  all_map [] = refl
  all_map (a ∷ ls) = rw (all_map ls)

  contents-put : (b : Bool) (u : Labelled A) (us : List (Labelled A)) (vs : List (Labelled Bool)) → contents vs ≡ contents us
      → contents (put b (relabelled keep u) vs) ≡ contents (put b u us)
  contents-put true u us vs e = ap (λ (l : List Content). u.content ∷ l) e
  contents-put false u us vs e = e

  -- the units that no lost packet carries, from whether each label is kept
  pub unharmed-relabelled : (us : List (Labelled A))
      → contents (unharmed same (map (relabelled keep) us)) ≡ contents (unharmed keep us)
  unharmed-relabelled [] = refl
  unharmed-relabelled (u ∷ us) =
      rw (all_map u.labels) (contents-put (all keep u.labels) u (unharmed keep us) _ (unharmed-relabelled us))
