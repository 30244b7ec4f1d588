-- Examples of the watch list, computed over the definitions: a list that start is given, and words that no start makes.
use Rattle.std.specs.Prelude.{ℕ, ◌≡◌, List, [], ◌∷◌, replicate, Some, None}
use Rattle.watch.specs.declared.given.Watch.{Watch}
use Rattle.watch.specs.Given.{lookup_of}
use Rattle.watch.specs.Rising.{Entry, rising, search_of}
use Rattle.watch.specs.Words.{entry_word, rising_in, rising_words}

abbrev the : ℕ → ℕ → Entry
the id place = record { id = id; place = place }

-- five ids in no order; 5 stands behind them and is not watched
abbrev given : Watch
given = record { ids = 9 ∷ 3 ∷ 65535 ∷ 0 ∷ 7 ∷ 5 ∷ replicate 10 0; n = 5 }

abbrev pub Keeps : Type 0
Keeps =
    ((rising given).list ≡ the 0 3 ∷ the 3 1 ∷ the 7 4 ∷ the 9 0 ∷ the 65535 2 ∷ [])
    × (rising_words (rising given) ≡ 3 ∷ 49 ∷ 116 ∷ 144 ∷ 1048562 ∷ replicate 11 1048576)

-- the smallest and the largest are found too, each at the place given; ids beside them are not
abbrev pub Finds : Type 0
Finds =
    (search_of (rising given) 0 ≡ Some 3) × (search_of (rising given) 3 ≡ Some 1) × (search_of (rising given) 7 ≡ Some 4)
    × (search_of (rising given) 9 ≡ Some 0) × (search_of (rising given) 65535 ≡ Some 2) × (search_of (rising given) 1 ≡ None)
    × (search_of (rising given) 5 ≡ None) × (search_of (rising given) 8 ≡ None) × (search_of (rising given) 65534 ≡ None)
    × (lookup_of given 65535 ≡ Some 2) × (lookup_of given 5 ≡ None)

abbrev word : ℕ → ℕ → ℕ
word id place = entry_word (the id place)

-- words of falling ids: the search stops at the first larger one
abbrev falling : List ℕ
falling = word 9 0 ∷ word 3 1 ∷ replicate 14 0

-- words of an id at a place that n ids do not have, of an id that no packet has, and of one id twice
abbrev wild : List ℕ
wild = word 3 2 ∷ word 5 0 ∷ word 5 1 ∷ word 65536 0 ∷ replicate 12 0

abbrev pub Wild : Type 0
Wild =
    (search_of (rising_in falling 0 2) 9 ≡ Some 0) × (search_of (rising_in falling 0 2) 3 ≡ None)
    × (search_of (rising_in falling 0 2) 10 ≡ None) × (search_of (rising_in wild 0 2) 3 ≡ None)
    × (search_of (rising_in wild 0 3) 3 ≡ Some 2) × (search_of (rising_in wild 0 3) 5 ≡ Some 0)
    × (search_of (rising_in wild 0 4) 65535 ≡ None) × (search_of (rising_in wild 0 99) 3 ≡ Some 2)
    × (search_of (rising_in wild 0 99) 0 ≡ None) × (search_of (rising_in wild 0 0) 3 ≡ None)
