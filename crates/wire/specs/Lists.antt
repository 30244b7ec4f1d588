-- Lists sifted by a test, and whether a test holds of all elements.
use Rattle.std.specs.Prelude.{Bool, true, false, ◌&&◌, List, [], ◌∷◌}

module _ {A : Type 0} where
  -- an element in front, if it is to be there
  abbrev pub put : Bool → A → List A → List A
  put true x l = x ∷ l
  put false x l = l

  -- the elements for which the test holds
  abbrev pub sift : (A → Bool) → List A → List A
  sift p [] = []
  sift p (x ∷ xs) = put (p x) x (sift p xs)

  -- it holds for each of them
  abbrev pub all : (A → Bool) → List A → Bool
  all p [] = true
  all p (x ∷ xs) = p x && all p xs
