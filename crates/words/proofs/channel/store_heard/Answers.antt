-- Why store_heard meets its contract: two stores, one behind the other.
use mathlib.Core.Path.{◌≡◌, refl}
use mathlib.Core.List.{[], ◌∷◌}
use native.Mathlib.Nat.{add-zero}
use native.Mathlib.Omega.{arith}
use denote.Enum.Declared.{tag_of}
use Rattle.reassembly.specs.contracts.channel.Phase.{the_type}
use Rattle.reassembly.specs.declared.channel.Phase.{Phase}
use Rattle.reassembly.specs.declared.channel.Phase.TheVariants.{Unheard, Waiting, Idle, Open}
use Rattle.wire.specs.Words.{put_from}
use Rattle.wire.proofs.WordsLaws.{stores}
use Rattle.words.specs.Channel.{phase_word}
use Rattle.words.proofs.channel.store_heard.Goals as goal

-- the number of a phase, as the code takes it
number : (p : Phase) → tag_of the_type p ≡ phase_word p
unfolding phase_word
number Unheard = refl
number Waiting = refl
number Idle = refl
number Open = refl

pub returns : goal.returns
unfolding put_from
returns c =
    let a = c.args in
    record {
      put =
          rw (number a.phase)
          (rw (add-zero a.i) at (stores a.t.now a.i 2 (phase_word a.phase ∷ a.last.0 ∷ []) refl (omega arith)));
      sized = omega arith;
    }
