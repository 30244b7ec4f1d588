-- Demand 1 holds, call by call.
use Prim.Native.Nat.{ℕ, suc}
use mathlib.Core.Path.{◌≡◌, refl}
use mathlib.Core.Bool.{true}
use mathlib.Core.List.{List}
use lib.ListN.{length}
use Rattle.wire.proofs.MemoryLaws.{part-inside, part-outside}
use Rattle.queue.specs.Event.{Event}
use Rattle.queue.specs.Event.{Nothing, Refused}
use Rattle.wire.proofs.Choice.{by_test}
use Rattle.delivery.specs.Cursor.{left}
use Rattle.state.specs.State.{State}
use Rattle.state.proofs.Refused.{start-kept}
use Rattle.frames.specs.Slot.{short_by}
use Rattle.frames.proofs.Refused.{frame-kept, lost-frame-kept, slot_kept, lost-slot-kept, slot-number}
use Rattle.receiver.specs.Next.{NextOut, read_all, next_of}
use Rattle.receiver.specs.Show.{memory_of, show_of}
use Rattle.receiver.specs.Claims.{Demand1}
use Rattle.receiver.proofs.Unrefused.{Unrefused, read-unrefused}

-- an event that is no refusal
never : (e : Event) → Unrefused e → (n : ℕ) → e ≡ Refused n → ⊥
never e u n q = rw q at u

-- next's answer, with collecting memory
abbrev KeepsNext : State → List ℕ → List ℕ → NextOut → Type 0
KeepsNext st p c r =
    (n : ℕ) → r.0.event ≡ Refused n
    → (n ≡ 22) × (r.0.state ≡ st) × (r.1 ≡ c) × (short_by st.config (length p) (length c) ≡ true)

next-kept : (st : State) (p c : List ℕ) → KeepsNext st p c (next_of st p c)
unfolding next_of read_all
next-kept st p c =
    by_test (KeepsNext st p c) (short_by st.config (length p) (length c)) _ _ (λ e n q. (cc, refl, refl, e))
    (λ e.
    by_test (KeepsNext st p c) st.owed _ _
    (λ o n q. absurd (never _ (read-unrefused (suc (left st.cursor)) st p c) n q)) (λ o n q. absurd (never Nothing tt n q)))

pub demand_1 : Demand1
unfolding show_of
demand_1 =
    record {
      start = start-kept;
      frame = frame-kept;
      lost-frame = lost-frame-kept;
      slot = slot_kept;
      lost-slot = lost-slot-kept;
      next = λ st p c n q. let k = next-kept st p c n q in (k.0, k.1, k.2);
      show = λ p c x.
          let m = memory_of x.memory p c in
          (part-inside m x.start x.len, part-outside m x.start x.len);
      slot-bytes = λ st p₁ c₁ d₁ p₂ c₂ d₂ hp hc hd. rw (slot-number st p₁ c₁ d₁, slot-number st p₂ c₂ d₂, hp, hc, hd);
      next-bytes = λ st p c n q. (next-kept st p c n q).3;
    }
