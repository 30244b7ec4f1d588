-- What is claimed of joining: the packets of a unit, read as they were meant and nothing else between them, give the unit.
use Rattle.std.specs.Prelude.{◌≡◌, ℕ, ◌+◌, ◌-◌, ◌^◌, ◌<◌, ◌≤◌, List, [], ◌∷◌, map, length, ◌≢◌}
use Rattle.mmtp.specs.declared.header.Psn.{Psn}
use Rattle.reassembly.specs.declared.config.Rules.{Rules}
use Rattle.reassembly.specs.declared.unit.Unit.{Unit}
use Rattle.reassembly.specs.declared.channel.Phase.TheVariants.{Unheard, Idle}
use Rattle.reassembly.specs.declared.channel.Channel.{Channel}
use Rattle.reassembly.specs.Channel.{next_psn}
use Rattle.reassembly.specs.Run.{Input, Lane, labelled, run, lanes_after}
use Rattle.packer.specs.Pieces.{pieces, with_psn, piece_at}

-- what packet `i` of `n` brings to joining, its packet_id at this place of the list that start was given
abbrev pub input_at : Unit → ℕ → ℕ → ℕ → List ℕ → Input
input_at u place n i s =
    record { place = place; piece = piece_at u n i (length s); bytes = s; wholes = record { info = with_psn u i; bytes = s } ∷ [] }

-- the pieces from `i` on
unfoldable pub inputs_from : Unit → ℕ → ℕ → ℕ → List (List ℕ) → List Input
inputs_from u place n i [] = []
inputs_from u place n i (s ∷ rest) = input_at u place n i s ∷ inputs_from u place n (i + 1) rest

unfoldable pub inputs : Unit → ℕ → ℕ → List ℕ → List Input
inputs u place m s = inputs_from u place (length (pieces m s)) 0 (pieces m s)

-- a packet_id that can begin a unit with this psn
pub data Ready (ch : Channel) (psn : Psn) : Type 0 where
  unheard : ch.phase ≡ Unheard → Ready ch psn
  idle : ch.phase ≡ Idle → next_psn ch.last ≡ psn → Ready ch psn

-- one unit, with the labels of its packets, and no note; then idle, with the last packet's psn; the other packet_ids as they were
pub record Rejoined {A : Type 0} (rules : Rules) (place : ℕ) (u : Unit) (n : ℕ) (ls : List A) (s : List ℕ) (f : ℕ → Lane A)
    (xs : List (A × Input)) : Type 0 where
  pub events : run rules f xs ≡ labelled ls (record { info = u; bytes = s }) ∷ []
  pub phase : (lanes_after rules f xs place).channel.phase ≡ Idle
  pub last : (lanes_after rules f xs place).channel.last ≡ (with_psn u (n - 1)).psn
  pub others : (k : ℕ) → (k ≢ place) → lanes_after rules f xs k ≡ f k

-- for labels of any type; "joined units at most R"
abbrev pub UnitRejoined : Type 1
UnitRejoined =
    (A : Type 0) (rules : Rules) (place m : ℕ) (u : Unit) (s : List ℕ) (f : ℕ → Lane A) (xs : List (A × Input))
    → u.psn.0 < 2 ^ 32 → (1 < length (pieces m s) → length s ≤ rules.limit) → Ready (f place).channel u.psn
    → map (λ x. x.1) xs ≡ inputs u place m s
    → Rejoined rules place u (length (pieces m s)) (map (λ x. x.0) xs) s f xs
