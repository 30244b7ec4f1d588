-- The slot cutter: refusals 75 to 78 in this order, or slot s of a run with its pointers.
use Rattle.std.specs.Prelude.{ℕ, ◌+◌, ◌*◌, ◌≤◌, ◌≡◌, Bool, true, false, cond, ◌&&◌, not, List, length, take, drop, eqb, ltb}
use Rattle.tmcc.specs.Count.{all_below}
use Rattle.tmcc.specs.Mode.{data_bytes}
use Rattle.tlv.specs.Packet.{cut}
use Rattle.tlv.specs.Run.{Slot}
use Rattle.cutter.specs.Cut.{CutSlot}
use Rattle.cutter.specs.Cut.{Cut, Refused}
use Rattle.cutter.specs.Pointers.{top_of, last_of}

-- whole TLV packets, each with a good first byte
unfoldable pub whole : List ℕ → Bool
whole run = (cut run).good && eqb (length (cut run).tail) 0

-- L is not in the table: no code rate, 1 to 11, has L data bytes
abbrev pub other_rate : ℕ → ℕ → Bool
other_rate l k = not (eqb (data_bytes (k + 1)) l)

unfoldable pub unlisted : ℕ → Bool
unlisted l = all_below (other_rate l) 11

-- the first refusal of a call whose output has n bytes; 0 for none
unfoldable pub cut_refusal : List ℕ → ℕ → ℕ → ℕ → ℕ
cut_refusal run l s n =
    cond (whole run)
    (cond (unlisted l) 76
    (cond (ltb (length run) ((s + 1) * l)) 77
    (cond (eqb n l) 0 78)))
    75

-- slot s, "bytes s × L up to (s + 1) × L", with its pointers
unfoldable pub slot_at : List ℕ → ℕ → ℕ → Slot
slot_at run l s = record { top = top_of run (s * l) l; last = last_of run (s * l) l; bytes = take l (drop (s * l) run) }

abbrev pub pointed : Slot → CutSlot
pointed x = Cut (record { 0 = x.top; 1 = x.last })

-- what the call answers, and what the output then is: the slot's bytes, or as it was;
-- "Refused calls return the number only"
unfoldable pub slot_cut : List ℕ → ℕ → ℕ → List ℕ → CutSlot × List ℕ
slot_cut run l s output =
    let r = cut_refusal run l s (length output) in
    cond (eqb r 0) (pointed (slot_at run l s), (slot_at run l s).bytes) (Refused r, output)

-- document 01's number for each case; 0 for a slot that was cut
abbrev pub number_of : CutSlot → ℕ
number_of (Cut p) = 0
number_of (Refused n) = n

-- what an accepted call keeps to
pub record Accepted (run : List ℕ) (l s n : ℕ) : Type 0 where
  pub packets : whole run ≡ true
  pub listed : unlisted l ≡ false
  pub within : (s + 1) * l ≤ length run
  pub fits : n ≡ l
