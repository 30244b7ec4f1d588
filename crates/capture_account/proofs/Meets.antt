-- What is assumed of an undamaged capture is met wherever what demand 3 assumes is, and by the broadcast of three frames.
use Prim.Native.Nat.{ℕ, suc}
use mathlib.Core.Path.{◌≡◌, refl, sym, ap, ◌∙◌, subst}
use mathlib.Core.List.{List, [], ◌∷◌, ◌++◌, map}
use native.Mathlib.Omega.{arith}
use lib.ListN.{length}
use Rattle.wire.specs.Field.{be}
use Rattle.wire.specs.Tab.{tab}
use Rattle.tmcc.specs.Layout.{Layout}
use Rattle.tmcc.specs.Layout.{blank_layout}
use Rattle.tmcc.proofs.Laws.{accepted as tmcc-accepted}
use Rattle.tlv.specs.Run.{Arrival, searching}
use Rattle.reassembly.specs.declared.config.Config.{Config}
use Rattle.reassembly.specs.Run.{Content, fresh}
use Rattle.state.specs.Start.{before, twice_below, twice, fresh_state, start_refusal, start_from}
use Rattle.watch.specs.Given.{lookup_of, first_from}
use Rattle.capture.specs.Command.{letter_of, size_of, whole, ids_of, config_of}
use Rattle.broadcast.specs.Account.{account}
use Rattle.broadcast.specs.Drains.{strip}
use Rattle.broadcast.specs.Calls.{Made, Todo, lost-frame}
use Rattle.broadcast.specs.Carried.{carried_units, intact_units, contents}
use Rattle.broadcast.specs.Frames.{Frame, Damage, none, layout_in, slots_todo, reading}
use Rattle.broadcast.specs.Demand3.{NoNote, Reads, slots_of, kept}
use Rattle.broadcast.specs.Broadcast.{config, frames, Assumed, Memories, Remain, slot_lost, frame_lost}
use Rattle.frames.proofs.SlotLaws.{right-length}
use Rattle.broadcast.proofs.SlotCalls.{SlotsFit}
use Rattle.broadcast.proofs.Reading.{FramesFit, frames-fit}
use Rattle.broadcast.proofs.Demand3.{start-at, shows-account, demand_3}
use Rattle.broadcast.proofs.Broadcast.{broadcast_claims}
use Rattle.capture_account.specs.Events.{meaning_of}
use Rattle.capture_account.specs.Calls.{command_calls_by, command_calls, short_at, short_refusals_by, short_frames_by}
use Rattle.capture_account.specs.Places.{placed_by}
use Rattle.capture_account.specs.Written.{CanWriteAll, calls_in, frames_calls, capture_bytes}
use Rattle.capture_account.specs.Examples.{start_bytes, loss_alone, least_packet, least_collecting, UnitsLeft, Examples}
use Rattle.capture_account.specs.Claims.{config_in, Begins, Suffice, UndamagedCapture}
use Rattle.capture_account.proofs.Accounts.{capture_accounts}
use Rattle.capture_account.proofs.FramesRead.{config-same, calls_same, begins-same, accounts-same, frames_carry}
use Rattle.capture_account.proofs.Places.{frame-lost-placed}
use Rattle.capture_account.proofs.Short.{capture_short}
use Rattle.capture_account.proofs.Losses.{capture_loss}

slots-sized : (l : Layout) (i s : ℕ) (ds : List (List ℕ)) (ts : List Todo) → SlotsFit l s ds → CanWriteAll (calls_in ts)
    → CanWriteAll (calls_in (slots_todo (none.slots i) s ds ++ ts))
unfolding calls_in slots_todo
slots-sized l i s [] ts w k = k
slots-sized l i s (d ∷ ds) ts w k = (omega (arith, (right-length _ _ w.0).0), slots-sized l i (suc s) ds ts w.1 k)

frames-sized : (stream i : ℕ) (fs : List Frame) → FramesFit stream fs → CanWriteAll (frames_calls none i fs)
unfolding calls_in reading
frames-sized stream i [] w = tt
frames-sized stream i (f ∷ fs) w = (
  (tmcc-accepted f.block stream w.0).size,
  slots-sized (layout_in stream f) i 0 f.slots (reading none (suc i) fs) w.2 (frames-sized stream (suc i) fs w.3),
)

pub undamaged-met : (start : List ℕ) (fs : List Frame) (p c : List ℕ) (xs : List Made) → length start ≡ 42 → Begins start
    → Suffice (config_in start) p c → Assumed (config_in start) fs p c xs → UndamagedCapture start fs p c
undamaged-met start fs p c xs size s h a =
    let cfg = config_in start in
    let at = start-at cfg p c s.accepted h.packet h.collecting in
    let w = frames-fit cfg 0 fs blank_layout _ searching (λ k. fresh) xs at a.whole-frames a.reads a.none-refused in
    let z = frames-sized cfg.stream 0 fs w in
    let k = frames_carry cfg.stream none 0 fs blank_layout w in
    let e = accounts-same start size s none fs z p c h in
    let r = shows-account cfg s.accepted fs w none p c at xs a.reads in
    let q = e.0 ∙ ap (λ (y : List (Arrival (ℕ × ℕ))). map strip (account cfg y)) k.0 ∙ sym r.0 in
    record {
      first = s.has_c.first;
      size = size;
      accepted = s.accepted;
      whole = a.whole-frames;
      written = z;
      none-refused = e.1 ∙ k.1;
      no_note = subst NoNote (sym q) a.no_note;
      few = a.few;
    }

start-config : config_in start_bytes ≡ config
unfolding config_of ids_of be tab config
start-config = refl

start-begins : Begins start_bytes
unfolding letter_of start_from start_refusal before twice_below twice fresh_state config_of ids_of be tab lookup_of first_from
start-begins = record { has_c = record { first = refl; long = omega arith }; accepted = refl }

-- C and X alone
loss_begins : Begins loss_alone
unfolding letter_of start_from start_refusal before twice_below twice fresh_state config_of ids_of be tab lookup_of first_from
loss_begins = record { has_c = record { first = refl; long = omega arith }; accepted = refl }

loss_calls : command_calls loss_alone ≡ lost-frame ∷ []
unfolding command_calls command_calls_by letter_of size_of whole
loss_calls = refl

loss_short : Suffice (config_in loss_alone) [] [] → ⊥
loss_short s = omega (arith, s.packet)

loss_shows : ((meaning_of [] [] loss_alone).refusal ≡ 22 ∷ []) × ((meaning_of [] [] loss_alone).tally.frames ≡ 1)
unfolding short_refusals_by short_frames_by short_at
loss_shows =
    let a = capture_short [] [] loss_alone loss_begins loss_short in
    (rw loss_calls at a.refusal, rw loss_calls at a.frames)

long : Memories least_packet least_collecting
long = broadcast_claims.2

undamaged : UndamagedCapture start_bytes frames least_packet least_collecting
undamaged =
    let m = broadcast_claims.1 least_packet least_collecting long in
    undamaged-met start_bytes frames least_packet least_collecting m.0 refl start-begins
    (rw start-config (record { packet = omega (arith, long.0); collecting = unfold config in omega (arith, long.1) }))
    (subst (λ (cfg : Config). Assumed cfg frames least_packet least_collecting m.0) (sym start-config) m.1)

-- what demand 3 leaves of the broadcast, by any reading of it
leaves : (d : Damage) (us : List Content) → Remain d us → (ys : List Made) → Reads config frames d least_packet least_collecting ys
    → contents (intact_units (kept d) (carried_units config (slots_of config frames))) ≡ us
leaves d us h ys r =
    let m = broadcast_claims.1 least_packet least_collecting long in
    let a = m.1 in
    let c =
    demand_3 config a.accepted frames a.whole-frames d least_packet least_collecting least_packet least_collecting refl refl
    m.0 a.reads
    a.none-refused a.no_note a.few in
    sym (c.damaged ys r).units-left ∙ h least_packet least_collecting long ys r

gives : (d : Damage) (us : List Content) → Remain d us → (ys : List Made) → Reads config frames d least_packet least_collecting ys
    → UnitsLeft d us
gives d us h ys r =
    (capture_loss start_bytes frames d least_packet least_collecting least_packet least_collecting undamaged refl refl).damaged
    ∙ rw start-config (leaves d us h ys r)

module _ (d : Damage) where
  begun : Begins (capture_bytes start_bytes d frames)
  begun = begins-same start_bytes refl start-begins d frames undamaged.written

  config-is : config_in (capture_bytes start_bytes d frames) ≡ config
  config-is = config-same start_bytes refl start-begins d frames undamaged.written ∙ start-config

  lasts : Suffice (config_in (capture_bytes start_bytes d frames)) least_packet least_collecting
  unfolding config
  lasts = rw config-is (record { packet = omega (arith, long.0); collecting = omega (arith, long.1) })

  places : (meaning_of least_packet least_collecting (capture_bytes start_bytes d frames)).events
      ≡ placed_by config (λ k. fresh) searching blank_layout 120 0 (frames_calls d 0 frames)
  places =
      rw (config-is, calls_same start_bytes refl start-begins d frames undamaged.written) at
      (capture_accounts least_packet least_collecting (capture_bytes start_bytes d frames) begun lasts).placed

pub examples : Examples
examples =
    let b = broadcast_claims in
    let s = (b.4 least_packet least_collecting long).1 in
    let f = (b.5 least_packet least_collecting long).1 in
    record {
      says = start-config;
      begins = begun;
      suffice = lasts;
      alone = loss_begins;
      short = loss_short;
      short-refused = loss_shows.0;
      short-counted = loss_shows.1;
      has_c = record { first = unfold letter_of in refl; long = omega arith };
      no_ids_lem = unfold start_from in unfold start_refusal in unfold config_of in unfold ids_of in unfold be in unfold tab in refl;
      undamaged = undamaged;
      slot-lost = gives slot_lost _ b.6 s.0 s.1;
      frame-lost = gives frame_lost _ b.7 f.0 f.1;
      frame-lost-places = places frame_lost ∙ frame-lost-placed;
    }
