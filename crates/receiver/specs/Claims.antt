-- Demand 1: "a refused call returns its number from document 01 and changes neither the state nor a byte of memory. Damage inside
-- slots gives a note, not a refusal." Of every state and every input, also of states that start never makes. That every call
-- ends is what the prover shows of each function.
use Rattle.std.specs.Prelude.{ℕ, ◌+◌, ◌≤◌, ◌<◌, ◌≡◌, true, List, [], length, take, drop}
use Rattle.reassembly.specs.declared.config.Config.{Config}
use Rattle.queue.specs.Event.{Refused}
use Rattle.queue.specs.declared.event.Place.{Place}
use Rattle.state.specs.State.{State}
use Rattle.state.specs.Refused.{IsRefused, Kept}
use Rattle.state.specs.Start.{start_from}
use Rattle.frames.specs.Frame.{frame_of, lost_frame_of}
use Rattle.frames.specs.Slot.{short_by, slot_of, lost_slot_of}
use Rattle.receiver.specs.Next.{next_of}
use Rattle.receiver.specs.Show.{memory_of, show_of}

pub record Demand1 : Type 0 where
  pub start : (st : State) (c : Config) → IsRefused (start_from st c) → Kept 1 4 st (start_from st c)
  pub frame : (st : State) (block : List ℕ) → IsRefused (frame_of st block) → Kept 10 14 st (frame_of st block)
  pub lost-frame : (st : State) → IsRefused (lost_frame_of st) → Kept 11 11 st (lost_frame_of st)
  -- slot may change packet memory, and next collecting memory; what else a call is lent it can only read
  pub slot : (st : State) (packet collecting bytes : List ℕ) → let r = slot_of st packet collecting bytes in
      IsRefused r.0 → Kept 20 23 st r.0 × (r.1 ≡ packet)
  pub lost-slot : (st : State) (packet collecting : ℕ) → let r = lost_slot_of st packet collecting in
      IsRefused r → Kept 20 22 st r
  pub next : (st : State) (packet collecting : List ℕ) (n : ℕ) → let r = next_of st packet collecting in
      r.0.event ≡ Refused n → (n ≡ 22) × (r.0.state ≡ st) × (r.1 ≡ collecting)
  -- show is never refused: every place has its part of a memory, one outside an empty one
  pub show : (packet collecting : List ℕ) (x : Place) → let m = memory_of x.memory packet collecting in
      (x.start + x.len ≤ length m → show_of packet collecting x ≡ take x.len (drop x.start m))
      × (length m < x.start + x.len → show_of packet collecting x ≡ [])
  -- whether a slot is refused, and with which number, is the same for all bytes: the lengths alone count
  pub slot-bytes : (st : State) (p₁ c₁ d₁ p₂ c₂ d₂ : List ℕ) → length p₁ ≡ length p₂ → length c₁ ≡ length c₂ → length d₁ ≡ length d₂
      → (slot_of st p₁ c₁ d₁).0.refusal ≡ (slot_of st p₂ c₂ d₂).0.refusal
  -- and next is refused for short memories alone
  pub next-bytes : (st : State) (packet collecting : List ℕ) (n : ℕ) → (next_of st packet collecting).0.event ≡ Refused n
      → short_by st.config (length packet) (length collecting) ≡ true
