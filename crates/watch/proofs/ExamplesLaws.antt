-- Laws of specs/Examples.antt.
use Rattle.std.specs.Prelude.{refl}
use Rattle.wire.specs.Tab.{tab}
use Rattle.watch.specs.Given.{first_from, lookup_of}
use Rattle.watch.specs.Rising.{inserted, rising_of, searched, search_of}
use Rattle.watch.specs.Words.{entry_of, entry_word, entries_in, rising_in, rising_words}
use Rattle.watch.specs.Examples.{Keeps, Finds, Wild}

pub keeps : Keeps
unfolding inserted rising_of entry_word rising_words tab
keeps = (refl, refl)

pub finds : Finds
unfolding inserted rising_of searched search_of first_from lookup_of
finds = (refl, refl, refl, refl, refl, refl, refl, refl, refl, refl, refl)

pub wild_words : Wild
unfolding searched search_of entry_of entry_word entries_in rising_in tab
wild_words = (refl, refl, refl, refl, refl, refl, refl, refl, refl, refl)
