-- What is claimed of the cutter: a refused call leaves the output; a slot that is cut is sound; and the slots of a run, one after
-- another, give its packets and no note.
use Rattle.std.specs.Prelude.{ℕ, zero, suc, ◌+◌, ◌*◌, ◌≤◌, ◌<◌, ◌≡◌, true, false, List, [], ◌∷◌, map, length}
use Rattle.tmcc.specs.declared.layout.Pointers.{Pointers}
use Rattle.tlv.specs.Packet.{cut, max_packet}
use Rattle.tlv.specs.Slot.{sound}
use Rattle.tlv.specs.Run.{Slot, Labelled, searching, packets, Clean, intact}
use Rattle.tlv.specs.Run.{run as events}
use Rattle.cutter.specs.Cut.{Cut, Refused}
use Rattle.cutter.specs.Slot.{whole, unlisted, slot_at, pointed, slot_cut}

-- demand 1: a refused call returns a number of document 01's, 75 to 78, and the output is as it was
abbrev pub CutRefused : Type 0
CutRefused = (run : List ℕ) (l s : ℕ) (output : List ℕ) (n : ℕ) (after : List ℕ) → slot_cut run l s output ≡ (Refused n, after)
    → (75 ≤ n) × (n ≤ 78) × (after ≡ output)

-- what a call that is not refused gives is a sound slot
abbrev pub CutSound : Type 0
CutSound = (run : List ℕ) (l s : ℕ) (output : List ℕ) (p : Pointers) (after : List ℕ) → slot_cut run l s output ≡ (Cut p, after)
    → sound after p.0 p.1 ≡ true

-- a run that fills n slots: "run a multiple of L", L in the table
pub record Fills (run : List ℕ) (l n : ℕ) : Type 0 where
  pub packets : whole run ≡ true
  pub listed : unlisted l ≡ false
  pub multiple : length run ≡ n * l

-- each of its slots is cut
abbrev pub CutEach : Type 0
CutEach = (run : List ℕ) (l n s : ℕ) (output : List ℕ) → Fills run l n → s < n → length output ≡ l
    → slot_cut run l s output ≡ (pointed (slot_at run l s), (slot_at run l s).bytes)

-- n slots from slot s on
abbrev pub slots_from : List ℕ → ℕ → ℕ → ℕ → List Slot
slots_from run l s zero = []
slots_from run l s (suc n) = slot_at run l s ∷ slots_from run l (s + 1) n

-- packets at most 16,384 bytes with header
abbrev pub AllShort : List (List ℕ) → Type 0
AllShort [] = Unit {0}
AllShort (p ∷ ps) = (length p ≤ max_packet) × AllShort ps

-- all its slots, in order and with any labels, given to the slot machine that is searching: no note, and the packets of the run
abbrev pub CutRun : Type 1
CutRun = (A : Type 0) (run : List ℕ) (l n : ℕ) (xs : List (A × Slot)) → Fills run l n → AllShort (cut run).packets
    → map (λ (x : A × Slot). x.1) xs ≡ slots_from run l 0 n
    → Clean (events searching (intact xs))
    × (map (λ (p : Labelled A). p.bytes) (packets (events searching (intact xs))) ≡ (cut run).packets)
