-- Two captures of the same frames: the damaged one gives the units of the undamaged one, less those that demand 3 names.
use Prim.Native.Nat.{ℕ, zero, suc, ◌-◌}
use mathlib.Core.Path.{◌≡◌, refl, sym, ap, ◌∙◌, subst}
use mathlib.Core.Bool.{Bool, true, false, cond}
use mathlib.Core.List.{List, [], ◌∷◌, ◌++◌, map}
use native.Mathlib.Omega.{arith}
use lib.Dec.{eqb}
use lib.ListN.{length, drop}
use lib.Seq.{drop_at}
use Rattle.tmcc.specs.Layout.{blank_layout}
use Rattle.tlv.specs.Run.{Arrival}
use Rattle.tlv.specs.Row.{row, packets_by, row_packets}
use Rattle.reassembly.specs.declared.config.Config.{Config}
use Rattle.reassembly.specs.Sent.{sent_after, sent}
use Rattle.words.specs.Config.{kept_config}
use Rattle.state.specs.State.{State}
use Rattle.state.specs.Start.{start_of, fresh_state}
use Rattle.frames.specs.Slot.{short_by}
use Rattle.capture.specs.declared.command.Letter.TheVariants.{Start}
use Rattle.capture.specs.declared.session.Tally.{Tally}
use Rattle.capture.specs.Command.{size_of, whole}
use Rattle.capture.proofs.CommandLaws.{size-by, size_none}
use Rattle.capture.specs.Session.{fresh_session}
use Rattle.capture.proofs.Drains.{drain-idle}
use Rattle.broadcast.specs.Account.{account}
use Rattle.broadcast.specs.Carried.{inputs, row_inputs, carried_units}
use Rattle.broadcast.specs.Drains.{strip}
use Rattle.broadcast.specs.Calls.{Call, frame, slot}
use Rattle.broadcast.specs.Frames.{Frame, Damage, none, slots_todo, reading, own_slots}
use Rattle.broadcast.specs.Demand3.{NoNote, units_of, slots_of}
use Rattle.broadcast.proofs.Demand3.{start-accepted, start-at, shows-account, made, demand_3}
use Rattle.capture_account.specs.Events.{Placed, Meaning, Waited, meaning_by, meaning_of, shown_in}
use Rattle.capture_account.specs.Calls.{short_at, short_refusals_by}
use Rattle.capture_account.specs.Written.{calls_bytes, calls_in, frames_calls, CanWriteFrames, capture_bytes}
use Rattle.capture_account.specs.Claims.{config_in, Begins, Suffice, UndamagedCapture, ExactLoss, CaptureLoss}
use Rattle.capture_account.proofs.Drains.{session}
use Rattle.capture_account.proofs.Accounts.{onward_stops, idle_waited, mean_step, start_means, started-session}
use Rattle.capture_account.proofs.FramesRead.{frames-fit, frames_carry, config-same, calls_same, begins-same, accounts-same}
use Rattle.capture_account.proofs.Short.{short-shows, enough}

begun : {start : List ℕ} {fs : List Frame} {p c : List ℕ} → UndamagedCapture start fs p c → Begins start
begun u = record { has_c = record { first = u.first; long = omega (arith, u.size) }; accepted = u.accepted }

-- with memories that suffice
module _ (start : List ℕ) (fs : List Frame) (d : Damage) (p₁ c₁ p₂ c₂ : List ℕ) (u : UndamagedCapture start fs p₁ c₁)
    (hp : length p₁ ≡ length p₂) (hc : length c₁ ≡ length c₂) (q₁ : Suffice (config_in start) p₁ c₁) where
  exact : ExactLoss start fs d p₁ c₁ p₂ c₂
  exact =
      let cfg = config_in start in
      let e = u.accepted in
      let a₁ = accounts-same start u.size (begun u) none fs u.written p₁ c₁ q₁ in
      let w = frames-fit cfg.stream 0 fs blank_layout u.whole (sym a₁.1 ∙ u.none-refused) in
      let q₂ : Suffice cfg p₂ c₂ = record { packet = rw hp at q₁.packet; collecting = rw hc at q₁.collecting } in
      let a₂ = accounts-same start u.size (begun u) d fs u.written p₂ c₂ q₂ in
      let k₁ = frames_carry cfg.stream none 0 fs blank_layout w in
      let k₂ = frames_carry cfg.stream d 0 fs blank_layout w in
      let at₁ = start-at cfg p₁ c₁ e q₁.packet q₁.collecting in
      let at₂ = start-at cfg p₂ c₂ e q₂.packet q₂.collecting in
      let m₁ = made cfg e fs w none p₁ c₁ at₁ in
      let m₂ = made cfg e fs w d p₂ c₂ at₂ in
      let s₁ = shows-account cfg e fs w none p₁ c₁ at₁ m₁.0 m₁.1 in
      let s₂ = shows-account cfg e fs w d p₂ c₂ at₂ m₂.0 m₂.1 in
      let eq₁ = a₁.0 ∙ ap (λ (r : List (Arrival (ℕ × ℕ))). map strip (account cfg r)) k₁.0 ∙ sym s₁.0 in
      let eq₂ = a₂.0 ∙ ap (λ (r : List (Arrival (ℕ × ℕ))). map strip (account cfg r)) k₂.0 ∙ sym s₂.0 in
      let r = demand_3 cfg e fs u.whole d p₁ c₁ p₂ c₂ hp hc m₁.0 m₁.1 s₁.1 (subst NoNote eq₁ u.no_note) u.few in
      record {
        undamaged = ap units_of eq₁ ∙ r.undamaged;
        damaged = ap units_of eq₂ ∙ (r.damaged m₂.0 m₂.1).units-left;
        none-refused = a₂.1 ∙ k₂.1;
      }

-- that memories suffice follows, where there is a frame, from its first slot
short-some : (stream : ℕ) (b d : List ℕ) (ks : List Call) → short_refusals_by stream 120 (frame b ∷ slot d ∷ ks) ≡ [] → ⊥
unfolding short_refusals_by short_at
short-some stream b d ks e = go (eqb (short_at stream 120 (frame b)) 0) e
  where
    go : (x : Bool) → cond x (22 ∷ []) (short_at stream 120 (frame b) ∷ []) ≡ [] → ⊥
    go true h = let y : ◌≡◌ {A = ℕ} 0 1 = cc in omega arith
    go false h = let y : ◌≡◌ {A = ℕ} 0 1 = cc in omega arith

first-calls : (f : Frame) (fs : List Frame) (d : List ℕ) (ds : List (List ℕ)) → f.slots ≡ d ∷ ds
    → frames_calls none 0 (f ∷ fs) ≡ frame f.block ∷ slot d ∷ calls_in (slots_todo (none.slots 0) 1 ds ++ reading none 1 fs)
unfolding calls_in reading slots_todo
first-calls f fs d ds e = rw e

module _ (start : List ℕ) (f : Frame) (fs : List Frame) (p c : List ℕ) (size : length start ≡ 42) (s : Begins start)
    (n : length f.slots ≡ 120) (z : CanWriteFrames (f ∷ fs))
    (e : (meaning_of p c (capture_bytes start none (f ∷ fs))).refusal ≡ []) where
  suffices : Suffice (config_in start) p c
  suffices = go (short_by (kept_config (config_in start)) (length p) (length c)) refl
    where
      g : config_in (capture_bytes start none (f ∷ fs)) ≡ config_in start
      g = config-same start size s none (f ∷ fs) z

      none-short : short_by (kept_config (config_in start)) (length p) (length c) ≡ true → (ds : List (List ℕ)) → f.slots ≡ ds → ⊥
      none-short h [] q = omega (arith, n, ap length q)
      none-short h (d ∷ ds) q =
          let a = short-shows p c (capture_bytes start none (f ∷ fs)) (begins-same start size s none (f ∷ fs) z) (rw g h) in
          let r = rw (g, calls_same start size s none (f ∷ fs) z, first-calls f fs d ds q) at (sym a.refusal ∙ e) in
          short-some (config_in start).stream f.block d _ r

      go : (b : Bool) → short_by (kept_config (config_in start)) (length p) (length c) ≡ b → Suffice (config_in start) p c
      go true h = absurd (none-short h f.slots refl)
      go false h = enough (config_in start) p c h

-- without a frame: C alone gives nothing
abbrev Nothing-read : Meaning → Type 0
Nothing-read m = (m.events ≡ []) × (m.refusal ≡ [])

nothing_read : (f : ℕ) (st : State) (t : Tally) (p c : List ℕ) → st.owed ≡ false → Nothing-read (meaning_by f (session st t) p c [])
nothing_read zero st t p c o = unfold meaning_by in rw (idle_waited st t p c o) (refl, refl)
nothing_read (suc f) st t p c o =
    let w = idle_waited st t p c o in
    rw (
      mean_step f (session st t) p c [] (ap (λ (x : Waited). x.refusals) w),
      w,
      drain-idle (session st t) p c o,
      onward_stops f st t p c [] (unfold whole in rw (size_none [] refl)),
    ) (refl, refl)

start-alone : (start : List ℕ) (d : Damage) (p c : List ℕ) → length start ≡ 42 → Begins start
    → Nothing-read (meaning_of p c (capture_bytes start d []))
unfolding meaning_of started-session fresh_state calls_in reading
start-alone start d p c size s =
    let b = capture_bytes start d [] in
    let w = begins-same start size s d [] tt in
    let n : length b ≡ suc (length b - 1) = omega (arith, w.has_c.long) in
    let r : drop (size_of b) b ≡ [] =
    rw (size-by b Start w.has_c.first) (unfold capture_bytes in unfold calls_bytes in drop_at start [] 42 size) in
    let e = ap (λ (k : ℕ). meaning_by k fresh_session p c b) n ∙ start_means p c b w (length b - 1)
    ∙ ap (λ (x : List ℕ). meaning_by (length b - 1) (session (start_of (config_in b)).state fresh_session.tally) p c x) r in
    let o = ap (λ (st : State). st.owed) (start-accepted (config_in b) w.accepted).1 in
    subst Nothing-read (sym e) (nothing_read (length b - 1) (start_of (config_in b)).state fresh_session.tally p c o)

none-carried : (cfg : Config) → carried_units cfg (slots_of cfg []) ≡ []
unfolding own_slots carried_units row_inputs inputs row packets_by row_packets sent_after sent
none-carried cfg = refl

pub capture_loss : CaptureLoss
capture_loss start [] d p₁ c₁ p₂ c₂ u hp hc =
    let a₁ = start-alone start none p₁ c₁ u.size (begun u) in
    let a₂ = start-alone start d p₂ c₂ u.size (begun u) in
    record {
      undamaged = rw (none-carried (config_in start)) (ap (λ (es : List Placed). units_of (shown_in es)) a₁.0);
      damaged = rw (none-carried (config_in start)) (ap (λ (es : List Placed). units_of (shown_in es)) a₂.0);
      none-refused = a₂.1;
    }
capture_loss start (f ∷ fs) d p₁ c₁ p₂ c₂ u hp hc =
    exact start (f ∷ fs) d p₁ c₁ p₂ c₂ u hp hc
    (suffices start f fs p₁ c₁ u.size (begun u) u.whole.0 u.written u.none-refused)
