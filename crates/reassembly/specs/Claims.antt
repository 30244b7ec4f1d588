-- What is claimed of reassembly over lists of packets, for labels of any type.
use Rattle.std.specs.Prelude.{◌≡◌, ℕ, ◌≤◌, Bool, true, List, ◌++◌, length, nat_eq}
use Rattle.wire.specs.Lists.{sift, all}
use Rattle.reassembly.specs.declared.config.Rules.{Rules}
use Rattle.reassembly.specs.Run.{Input, Labelled, Lane, fresh, run, run_lane, lanes_after, units, Clean, count}
use Rattle.reassembly.specs.Sent.{sent}

module _ {A : Type 0} (keep : A → Bool) where
  -- the packets that are not lost
  abbrev pub received : List (A × Input) → List (A × Input)
  received xs = sift (λ x. keep x.0) xs

  -- the units that no lost packet carries
  abbrev pub unharmed : List (Labelled A) → List (Labelled A)
  unharmed us = sift (λ u. all keep u.labels) us

-- No packet_id has more than 4,294,967,295 packets: a gap of 4,294,967,296 would not show.
abbrev pub Few : {A : Type 0} → List (A × Input) → Type 0
Few xs = (k : ℕ) → count k xs ≤ 4294967295

-- One packet_id: where all packets give no note, lost ones take away exactly the units that one of them carries.
abbrev pub LaneLoss : Type 1
LaneLoss =
    (A : Type 0) (keep : A → Bool) (rules : Rules) (xs : List (A × Input)) → Clean (run_lane rules fresh xs) → length xs ≤ 4294967295
    → units (run_lane rules fresh (received keep xs)) ≡ unharmed keep (units (run_lane rules fresh xs))

-- All packet_ids: the same; the other units keep their order and content.
abbrev pub RunLoss : Type 1
RunLoss =
    (A : Type 0) (keep : A → Bool) (rules : Rules) (xs : List (A × Input)) → Clean (run rules (λ k. fresh) xs) → Few xs
    → units (run rules (λ k. fresh) (received keep xs)) ≡ unharmed keep (units (run rules (λ k. fresh) xs))

-- Where all packets give no note, the units are those that the packets carry.
abbrev pub RunSent : Type 1
RunSent =
    (A : Type 0) (rules : Rules) (xs : List (A × Input)) → Clean (run rules (λ k. fresh) xs)
    → units (run rules (λ k. fresh) xs) ≡ sent xs

-- Both: the packets received give the units that all packets carry, less those that a lost one carries.
abbrev pub SentLoss : Type 1
SentLoss =
    (A : Type 0) (keep : A → Bool) (rules : Rules) (xs : List (A × Input)) → Clean (run rules (λ k. fresh) xs) → Few xs
    → units (run rules (λ k. fresh) (received keep xs)) ≡ unharmed keep (sent xs)

-- A list in two parts: the second goes on from the lanes after the first.
abbrev pub RunAppend : Type 1
RunAppend =
    (A : Type 0) (rules : Rules) (f : ℕ → Lane A) (xs ys : List (A × Input))
    → (run rules f (xs ++ ys) ≡ run rules f xs ++ run rules (lanes_after rules f xs) ys)
    × (lanes_after rules f (xs ++ ys) ≡ lanes_after rules (lanes_after rules f xs) ys)

-- Packets of one packet_id alone: the run is that of its lane.
abbrev pub RunAlone : Type 1
RunAlone =
    (A : Type 0) (rules : Rules) (f : ℕ → Lane A) (k : ℕ) (xs : List (A × Input)) → all (λ x. nat_eq k x.1.place) xs ≡ true
    → run rules f xs ≡ run_lane rules (f k) xs
