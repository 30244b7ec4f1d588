-- The units that a list of packets carries, each with its packets, from the fragmentation indicator and the packet_id alone.
use Rattle.std.specs.Prelude.{ℕ, cond, List, [], ◌∷◌, ◌++◌, map, ◌==◌}
use Rattle.std.proofs.Math.Option.{Option, none, some}
use Rattle.mmtp.specs.declared.payload.Indicator.{Indicator}
use Rattle.mmtp.specs.declared.payload.Indicator.TheVariants.{Whole, First, Middle, Last}
use Rattle.reassembly.specs.Run.{Content, Input, Labelled}

module _ {A : Type 0} where
  -- a unit that the packet begins, and a unit with the packet's piece behind it
  abbrev pub beginning : A → Input → Labelled A
  beginning a x = record { labels = a ∷ []; content = record { info = x.piece.unit; bytes = x.bytes } }

  abbrev pub continued : Labelled A → A → Input → Labelled A
  continued u a x =
      record { labels = u.labels ++ (a ∷ []); content = record { info = u.content.info; bytes = u.content.bytes ++ x.bytes } }

  abbrev pub continued_if : Option (Labelled A) → A → Input → Option (Labelled A)
  continued_if none a x = none
  continued_if (some u) a x = some (continued u a x)

  -- by the indicator of the newest packet of the packet_id
  abbrev pub open_by : Indicator → Option (Labelled A) → A → Input → Option (Labelled A)
  open_by Whole older a x = none
  open_by First older a x = some (beginning a x)
  open_by Middle older a x = continued_if older a x
  open_by Last older a x = none

  -- the unit of place k that is open after these packets, the newest first: its FI 01, and every FI 10 since
  unfoldable pub open_unit : ℕ → List (A × Input) → Option (Labelled A)
  open_unit k [] = none
  open_unit k (x ∷ older) =
      cond (k == x.1.place) (open_by x.1.piece.indicator (open_unit k older) x.0 x.1) (open_unit k older)

  abbrev pub ended : Option (Labelled A) → A → Input → List (Labelled A)
  ended none a x = []
  ended (some u) a x = continued u a x ∷ []

  abbrev pub alone : A → Content → Labelled A
  alone a u = record { labels = a ∷ []; content = u }

  -- the units that end with a packet: FI 00 carries its own; FI 11 ends the unit that its packet_id's FI 01 began
  abbrev pub ending_by : Indicator → Option (Labelled A) → A → Input → List (Labelled A)
  ending_by Whole o a x = map (alone a) x.wholes
  ending_by First o a x = []
  ending_by Middle o a x = []
  ending_by Last o a x = ended o a x

  -- in the order of the packets; `older` are those before, the newest first
  unfoldable pub sent_after : List (A × Input) → List (A × Input) → List (Labelled A)
  sent_after older [] = []
  sent_after older (x ∷ xs) =
      ending_by x.1.piece.indicator (open_unit x.1.place older) x.0 x.1 ++ sent_after (x ∷ older) xs

  unfoldable pub sent : List (A × Input) → List (Labelled A)
  sent xs = sent_after [] xs
