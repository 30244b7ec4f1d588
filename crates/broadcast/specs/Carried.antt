-- The units that own live slots carry, each with the packets that carry it: from the row of packets, what each packet says of
-- itself, and its packet_id. Neither the slot machine nor a joining state occurs here.
use Rattle.std.specs.Prelude.{ℕ, ◌≤◌, Bool, List, [], ◌∷◌, ◌++◌, map}
use Rattle.tlv.specs.Run.{Slot}
use Rattle.tlv.specs.Row.{bytes_of, labels_of, row_packets}
use Rattle.reassembly.specs.declared.config.Config.{Config}
use Rattle.reassembly.specs.Run.{Content, Input, Labelled, count}
use Rattle.reassembly.specs.Sent.{sent}
use Rattle.wire.specs.Lists.{sift, all}
use Rattle.broadcast.specs.Account.{Read, silent, noted, input, read_of}

module _ {B : Type 0} where
  -- a packet that is silent, or noted 50, 51 or 52, carries nothing
  abbrev pub as_input : Read → B → List (B × Input)
  as_input silent a = []
  as_input (noted n id) a = []
  as_input (input x) a = (a, x) ∷ []

  -- the packets that count, of packets with their labels, in order
  unfoldable pub inputs : Config → List (B × List ℕ) → List (B × Input)
  inputs c [] = []
  inputs c (x ∷ xs) = as_input (read_of c x.1) x.0 ++ inputs c xs

module _ {A : Type 0} where
  -- a packet of the row: the label of each of its bytes, the header's too, and the bytes
  abbrev pub in_row : List (A × ℕ) → List A × List ℕ
  in_row q = (labels_of q, bytes_of q)

  -- the packets of the row that count
  unfoldable pub row_inputs : Config → List (A × Slot) → List (List A × Input)
  row_inputs c xs = inputs c (map in_row (row_packets xs))

  -- each unit, with the labels of each packet that carries it
  unfoldable pub carried_units : Config → List (A × Slot) → List (Labelled (List A))
  carried_units c xs = sent (row_inputs c xs)

  -- the units with no byte of a packet that carries them in a slot that is not kept
  abbrev pub intact_units : (A → Bool) → List (Labelled (List A)) → List (Labelled (List A))
  intact_units keep us = sift (λ u. all (λ ls. all keep ls) u.labels) us

  -- "no watched packet_id has more than 4,294,967,295 packets"; where nothing is noted, the packets that count are all that are
  -- complete and not silent
  abbrev pub Few : Config → List (A × Slot) → Type 0
  Few c xs = (k : ℕ) → count k (row_inputs c xs) ≤ 4294967295

-- what units carry, and their bytes, without labels
abbrev pub contents : {B : Type 0} → List (Labelled B) → List Content
contents us = map (λ u. u.content) us
