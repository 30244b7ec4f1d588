-- Laws of specs/Examples.antt.
use Rattle.std.specs.Prelude.{refl}
use Rattle.watch.specs.Given.{first_from, lookup_of}
use Rattle.watch.specs.Rising.{inserted, rising_of, searched, search_of}
use Rattle.state.specs.Start.{before, twice_below, twice, fresh_state, start_refusal}
use Rattle.state.specs.Examples.{Starts, Keeps}

pub starts : Starts
unfolding start_refusal twice twice_below before lookup_of first_from
starts = (refl, refl, refl, refl, refl, refl, refl)

pub keeps : Keeps
unfolding start_refusal twice twice_below before lookup_of first_from fresh_state inserted rising_of searched search_of
keeps = (refl, refl, refl, refl, refl, refl)
