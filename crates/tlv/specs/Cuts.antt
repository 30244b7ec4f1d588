-- Laws of bytes cut into packets.
use Rattle.std.specs.Prelude.{ℕ, ◌≤◌, ◌≡◌, List, [], ◌∷◌, length}
use Rattle.tlv.specs.Packet.{total}

-- a packet that has its header and is as long as that says
pub record Sized (p : List ℕ) : Type 0 where
  pub long : 4 ≤ length p
  pub exact : length p ≡ total p

abbrev pub AllSized : List (List ℕ) → Type 0
AllSized [] = Unit {0}
AllSized (p ∷ ps) = Sized p × AllSized ps
