-- Demand 3 holds.
use Prim.Native.Nat.{ℕ, ◌*◌, ◌<◌, ◌≤◌}
use mathlib.Core.Path.{◌≡◌, refl, sym, ap, ◌∙◌, subst}
use mathlib.Core.Bool.{Bool, true, false, cond}
use mathlib.Core.List.{List, [], ◌∷◌, ◌++◌, map}
use native.Mathlib.Omega.{arith}
use lib.Dec.{eqb}
use lib.ListN.{length, get_or, replicate, get_or-replicate}
use borrow.Author.Tests.{eqb-true, eqb-false}
use Rattle.tmcc.specs.Layout.{blank_layout}
use Rattle.tlv.specs.Run.{searching, intact, damaged}
use Rattle.tlv.specs.Row.{row, packets_by, row_packets}
use Rattle.tlv.specs.Claims.{Filled}
use Rattle.reassembly.specs.declared.config.Rules.{Rules}
use Rattle.reassembly.specs.Sent.{sent, sent_after}
use Rattle.reassembly.specs.declared.config.Config.{Config}
use Rattle.reassembly.specs.declared.channel.Channel.{Channel}
use Rattle.reassembly.specs.Channel.{unheard}
use Rattle.reassembly.specs.Run.{Event as Account-event, note as account-note, unit as account-unit, fresh, Clean, units}
use Rattle.words.specs.Config.{kept_config}
use Rattle.state.specs.State.{State, accepted as acceptedAs, refused as refusedWith, with_frame}
use Rattle.tmcc.specs.Block.{decode_of}
use Rattle.intake.specs.Slot.{packet_memory}
use Rattle.frames.specs.Frame.{frame_busy, frame_of}
use Rattle.frames.specs.Slot.{slot_refusal, wrong_length, slot_of, slot_taken, due_length, due_own, due_pointers}
use Rattle.frames.proofs.SlotLaws.{ready}
use Rattle.state.specs.Start.{start_refusal, start_of, fresh_state, blank_config, start_from}
use Rattle.state.proofs.StartLaws.{starts}
use Rattle.broadcast.specs.Account.{account}
use Rattle.broadcast.specs.Carried.{inputs, row_inputs, carried_units, intact_units, contents, Few}
use Rattle.broadcast.specs.Drains.{strip, LaneIs}
use Rattle.broadcast.specs.Calls.{Machine, Made, Todo, call, drain, frame, slot, did, Follows, refusals, refusal_in}
use Rattle.broadcast.specs.Frames.{Frame, Damage, none, reading, slots_todo, own_slots, arrivals}
use Rattle.broadcast.specs.Demand3.{
  started,
  Reads,
  shown_of,
  refused_of,
  NoNote,
  units_of,
  slots_of,
  kept,
  Damaged,
  Concluded,
  Demand3,
}
use Rattle.broadcast.proofs.AccountLoss.{account-units, account_loss}
use Rattle.broadcast.specs.Machines.{At}
use Rattle.broadcast.proofs.Reading.{
  FramesFit,
  frames-read,
  frames_hand,
  makes_hand,
  frames-fit,
  nothing_left,
  nil-left,
  nil-right,
  unrefused,
  slot-refusal,
}
use Rattle.broadcast.proofs.Script.{Makes, call-follows}
use Rattle.broadcast.proofs.Arrivals.{frames-intact, frames-filled, damage_account}

-- what is shown of the account
module _ {A : Type 0} where
  clean_of : (es : List (Account-event A)) → NoNote (map strip es) → Clean es
  clean_of [] h = tt
  clean_of (account-note n id ∷ es) h = h
  clean_of (account-unit u ∷ es) h = clean_of es h

  units_of_lem : (es : List (Account-event A)) → units_of (map strip es) ≡ contents (units es)
  units_of_lem [] = refl
  units_of_lem (account-note n id ∷ es) = units_of_lem es
  units_of_lem (account-unit u ∷ es) = ap (λ r. u.content ∷ r) (units_of_lem es)

-- an accepted start
pub start-accepted : (cfg : Config) → (start_of cfg).refusal ≡ 0 → (start_refusal cfg ≡ 0) × ((start_of cfg).state ≡ fresh_state cfg)
unfolding start_from
start-accepted cfg e = go (eqb (start_refusal cfg) 0) refl e
  where
    go : (b : Bool) → eqb (start_refusal cfg) 0 ≡ b
        → (cond b (acceptedAs (fresh_state cfg)) (refusedWith (start_refusal cfg) (fresh_state blank_config))).refusal ≡ 0
        → (start_refusal cfg ≡ 0)
        × ((cond b (acceptedAs (fresh_state cfg)) (refusedWith (start_refusal cfg) (fresh_state blank_config))).state ≡ fresh_state cfg)
    go true q h = (eqb-true _ 0 q, refl)
    go false q h = absurd (eqb-false _ 0 q h)

fresh-lane : (rules : Rules) (c : List ℕ) (k : ℕ) → k < 16 → LaneIs {A = List (ℕ × ℕ)} (get_or (replicate 16 unheard) k unheard) k rules c fresh
unfolding unheard
fresh-lane rules c k h =
    subst (λ (ch : Channel). LaneIs {A = List (ℕ × ℕ)} ch k rules c fresh) (sym (get_or-replicate 16 k unheard unheard h)) (refl, tt)

-- a fresh receiver stands for the account's beginning
pub start-at : (cfg : Config) (p c : List ℕ) → (start_of cfg).refusal ≡ 0 → packet_memory ≤ length p → cfg.watch.n * cfg.rules.limit ≤ length c
    → At {A = ℕ × ℕ} cfg (started cfg p c) searching (λ k. fresh) blank_layout 120
unfolding fresh_state unheard
start-at cfg p c e hp hc =
    let s = start-accepted cfg e in
    let n = starts cfg s.0 in
    rw s.1
    (record {
      tracks = record {
        config = refl;
        packet-long = hp;
        collecting-long = hc;
        starts = n;
        channels = refl;
        paid = refl;
        cursor = refl;
        queue = (refl, refl, refl);
        held = refl;
        lanes = λ k h. fresh-lane cfg.rules c k (omega (arith, n.few));
      };
      short = tt;
      frame = refl;
    })

-- memories that suffice, from the first slot that is accepted
pub frame-config : (st : State) (b : List ℕ) → (frame_of st b).state.config ≡ st.config
unfolding frame_of
frame-config st b = go (eqb (length b) 1178) (frame_busy st) (eqb (decode_of b st.config.stream).refusal 0)
  where
    go : (x y z : Bool)
        → (cond x
        (cond y (refusedWith 11 st)
        (cond z (acceptedAs (with_frame st (record { layout = (decode_of b st.config.stream).layout; at = 0 })))
        (refusedWith (decode_of b st.config.stream).refusal st))) (refusedWith 10 st)).state.config ≡ st.config
    go true true z = refl
    go true false true = refl
    go true false false = refl
    go false y z = refl

pub slot_due : (st : State) (p c d : List ℕ) → (slot_of st p c d).0.refusal ≡ 0 → slot_refusal st (length p) (length c) ≡ 0
unfolding slot_of
slot_due st p c d e = go (eqb (slot_refusal st (length p) (length c)) 0) refl e
  where
    go : (b : Bool) → eqb (slot_refusal st (length p) (length c)) 0 ≡ b
        → (cond b (cond (wrong_length (due_length st) (length d)) (refusedWith 23 st, p) (slot_taken (due_own st) st p d (due_pointers st)))
        (refusedWith (slot_refusal st (length p) (length c)) st, p)).0.refusal ≡ 0 → slot_refusal st (length p) (length c) ≡ 0
    go true q h = eqb-true _ 0 q
    go false q h = h

-- a slot that is due after the first frame's call
pub slot_tells : (cfg : Config) (p c b : List ℕ) → (start_of cfg).refusal ≡ 0
    → (let m = (did (frame b) (started cfg p c)).machine in slot_refusal m.state (length m.packet) (length m.collecting) ≡ 0)
    → (packet_memory ≤ length p) × (cfg.watch.n * cfg.rules.limit ≤ length c)
unfolding did fresh_state
slot_tells cfg p c b e h =
    let st = (start_of cfg).state in
    let l = ready (frame_of st b).state (length p) (length c) h in
    let g : (frame_of st b).state.config ≡ kept_config cfg = frame-config st b ∙ ap (λ (s : State). s.config) (start-accepted cfg e).1 in
    (l.packets, rw g at l.collects)

-- the first slot of an undamaged reading was accepted
enough : (cfg : Config) (f : Frame) (fs : List Frame) (p c : List ℕ) (xs : List Made) → (start_of cfg).refusal ≡ 0 → length f.slots ≡ 120
    → Reads cfg (f ∷ fs) none p c xs → refused_of cfg (f ∷ fs) none p c xs ≡ []
    → (packet_memory ≤ length p) × (cfg.watch.n * cfg.rules.limit ≤ length c)
unfolding reading slots_todo
enough cfg f fs p c xs e n h q = go f.slots n h q
  where
    m : Machine
    m = started cfg p c

    us : List Todo
    us = reading none 1 fs

    go : (ds : List (List ℕ)) → length ds ≡ 120
        → Follows (call (frame f.block) ∷ (slots_todo (λ s. false) 0 ds ++ us)) m xs
        → refusals (call (frame f.block) ∷ (slots_todo (λ s. false) 0 ds ++ us)) m xs ≡ []
        → (packet_memory ≤ length p) × (cfg.watch.n * cfg.rules.limit ≤ length c)
    go [] n h q = absurd (omega arith)
    go (d ∷ ds) n h q =
        let ts = drain ∷ (slots_todo (λ s. false) 1 ds ++ us) in
        let k = call-follows (frame f.block) (call (slot d) ∷ ts) m xs h in
        let m' = (did (frame f.block) m).machine in
        let j = call-follows (slot d) ts m' k.calls k.follows in
        let r =
        nil-right cfg (refusal_in (did (frame f.block) m).answer) (refusals (call (slot d) ∷ ts) m' k.calls)
        (sym k.refuses-on ∙ q) in
        let a =
        nil-left cfg (refusal_in (did (slot d) m').answer) (refusals ts (did (slot d) m').machine j.calls)
        (sym j.refuses-on ∙ r) in
        let z = unrefused cfg (slot_of m'.state m'.packet m'.collecting d).0.refusal (slot-refusal cfg d m' a) in
        slot_tells cfg p c f.block e (slot_due m'.state m'.packet m'.collecting d z)

-- a receiver just started reads frames that fit, whatever is lost of them
module _ (cfg : Config) (e : (start_of cfg).refusal ≡ 0) (fs : List Frame) (w : FramesFit cfg.stream fs) (d : Damage) (p c : List ℕ)
    (at : At {A = ℕ × ℕ} cfg (started cfg p c) searching (λ k. fresh) blank_layout 120) where
  pub shows-account : (xs : List Made) → Reads cfg fs d p c xs
      → (shown_of cfg fs d p c xs ≡ map strip (account cfg (arrivals cfg.stream d 0 fs))) × (refused_of cfg fs d p c xs ≡ [])
  unfolding account
  shows-account xs h =
      let r = frames-read cfg d 0 fs blank_layout (started cfg p c) searching (λ k. fresh) xs at w h in
      (r.shown-all, r.refused_none)

  pub made : (ys : List Made) × Reads cfg fs d p c ys
  made =
      let r = frames_hand cfg d Makes (makes_hand cfg) 0 fs blank_layout (started cfg p c) searching (λ k. fresh) at w in
      (r.calls, r.follows)

-- the theorem for frames that fit
module _ (cfg : Config) (e : (start_of cfg).refusal ≡ 0) (fs : List Frame) (w : FramesFit cfg.stream fs) (d : Damage)
    (p₁ c₁ p₂ c₂ : List ℕ) (at₁ : At {A = ℕ × ℕ} cfg (started cfg p₁ c₁) searching (λ k. fresh) blank_layout 120)
    (at₂ : At {A = ℕ × ℕ} cfg (started cfg p₂ c₂) searching (λ k. fresh) blank_layout 120) (xs : List Made) (h : Reads cfg fs none p₁ c₁ xs)
    (q : NoNote (shown_of cfg fs none p₁ c₁ xs)) (few : Few cfg (slots_of cfg fs)) where
  undamaged-shows : shown_of cfg fs none p₁ c₁ xs ≡ map strip (account cfg (intact (slots_of cfg fs)))
  undamaged-shows =
      (shows-account cfg e fs w none p₁ c₁ at₁ xs h).0 ∙ ap (λ a. map strip (account cfg a)) (frames-intact cfg.stream 0 fs)

  clean : Clean (account cfg (intact (slots_of cfg fs)))
  clean = clean_of (account cfg (intact (slots_of cfg fs))) (subst NoNote undamaged-shows q)

  filled : Filled (slots_of cfg fs)
  filled = frames-filled cfg.stream 0 fs w

  damaged-units : (ys : List Made) → Reads cfg fs d p₂ c₂ ys → Damaged cfg fs d p₂ c₂ ys
  damaged-units ys k =
      let s = shows-account cfg e fs w d p₂ c₂ at₂ ys k in
      record {
        none-refused = s.1;
        units-left =
            ap units_of (s.0 ∙ ap (map strip) (damage_account cfg cfg.stream d 0 fs w))
            ∙ units_of_lem (account cfg (damaged (kept d) (slots_of cfg fs)))
            ∙ account_loss (ℕ × ℕ) (kept d) cfg (slots_of cfg fs) clean filled few;
      }

  concluded : Concluded cfg fs d p₁ c₁ p₂ c₂ xs
  concluded =
      record {
        undamaged =
            ap units_of undamaged-shows ∙ units_of_lem (account cfg (intact (slots_of cfg fs)))
            ∙ account-units (ℕ × ℕ) cfg (slots_of cfg fs) clean filled;
        damaged = damaged-units;
        readable = made cfg e fs w d p₂ c₂ at₂;
      }

-- no frame carries no unit
no_units : (cfg : Config) → carried_units cfg (slots_of cfg []) ≡ []
unfolding own_slots carried_units row_inputs inputs row_packets row packets_by sent sent_after
no_units cfg = refl

no_frames : (cfg : Config) (d : Damage) (p₁ c₁ p₂ c₂ : List ℕ) (xs : List Made) → Reads cfg [] none p₁ c₁ xs
    → Concluded cfg [] d p₁ c₁ p₂ c₂ xs
unfolding reading
no_frames cfg d p₁ c₁ p₂ c₂ xs h =
    record {
      undamaged = ap units_of (nothing_left cfg (started cfg p₁ c₁) xs h).0 ∙ sym (ap contents (no_units cfg));
      damaged = λ ys k.
          let n = nothing_left cfg (started cfg p₂ c₂) ys k in
          let u = ap (λ us. contents (intact_units (kept d) us)) (no_units cfg) in
          record { none-refused = n.1; units-left = ap units_of n.0 ∙ sym u };
      readable = ([], refl);
    }

pub demand_3 : Demand3
demand_3 cfg e [] n d p₁ c₁ p₂ c₂ hp hc xs h r q few = no_frames cfg d p₁ c₁ p₂ c₂ xs h
demand_3 cfg e (f ∷ fs) n d p₁ c₁ p₂ c₂ hp hc xs h r q few =
    let l = enough cfg f fs p₁ c₁ xs e n.0 h r in
    let at₁ = start-at cfg p₁ c₁ e l.0 l.1 in
    let at₂ = start-at cfg p₂ c₂ e (rw hp at l.0) (rw hc at l.1) in
    let w = frames-fit cfg 0 (f ∷ fs) blank_layout (started cfg p₁ c₁) searching (λ k. fresh) xs at₁ n h r in
    concluded cfg e (f ∷ fs) w d p₁ c₁ p₂ c₂ at₁ at₂ xs h q few
