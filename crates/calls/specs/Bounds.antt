-- Words that are each at most what may stand in their place.
use Rattle.std.specs.Prelude.{ℕ, Bool, true, false, ◌&&◌, List, [], ◌∷◌, leb}

-- the most that each word may be, one behind the other; there may be more words
unfoldable pub are_within : List ℕ → List ℕ → Bool
are_within t [] = true
are_within [] (m ∷ ms) = false
are_within (w ∷ t) (m ∷ ms) = leb w m && are_within t ms
