-- The round trip: the slots give the run's packets, these the units' pieces, and these the units.
use Prim.Native.Nat.{ℕ, ◌≤◌}
use mathlib.Core.Path.{◌≡◌, refl, ◌∙◌, ap}
use mathlib.Core.List.{List, [], ◌∷◌, map}
use native.Mathlib.Omega.{arith}
use borrow.Author.Tests.{ne_eqb, le-ltb}
use Rattle.tlv.specs.Run.{Arrival, Labelled as Labelled-packet, searching, packets, intact, run as slot-run}
use Rattle.reassembly.specs.declared.config.Config.{Config}
use Rattle.reassembly.specs.Channel.{unheard}
use Rattle.reassembly.specs.Run.{fresh}
use Rattle.packer.specs.Packer.{pack_of, pack_refusal, joined, run as packed-run}
use Rattle.state.proofs.StartLaws.{starts}
use Rattle.cutter.proofs.Runs.{cut_each, cut-run}
use Rattle.packer.proofs.PacketReads.{packets-read}
use Rattle.broadcast.specs.Drains.{strip}
use Rattle.broadcast.specs.Account.{events, account}
use Rattle.broadcast.specs.Frames.{none, own_slots}
use Rattle.broadcast.proofs.Inputs.{counted}
use Rattle.broadcast.proofs.Arrivals.{frames-intact}
use Rattle.broadcast.proofs.Demand3.{start-accepted}
use Rattle.broadcast.proofs.Readings.{reading_theorem}
use Rattle.roundtrip.specs.Sending.{Parcel, Sendable, AllSendable, Packs, AllPack, parcel_packets, all_packets, padded}
use Rattle.roundtrip.specs.RoundTrip.{RoundTrip}
use Rattle.roundtrip.proofs.Runs.{Good, good-append, padded-good, run-cut, run-kept, run_fills}
use Rattle.roundtrip.proofs.Inputs.{
  brings,
  AllQuiet,
  quiet-append,
  brings-append,
  padded-brings,
  unit-read,
  counted-brings,
  events-run,
}
use Rattle.roundtrip.proofs.Units.{all_inputs, AllStand, units-back}

-- the packer takes a unit
pack_one : (cfg : Config) (x : Parcel) → Sendable cfg x → cfg.cid ≤ 4095 → Packs cfg x
unfolding pack_of pack_refusal packed-run
pack_one cfg x s c out room =
    let z : x.m ≡ 0 → ⊥ = λ e. omega (arith, s.positive) in
    rw (
      ne_eqb _ _ z,
      le-ltb _ _ s.small,
      le-ltb _ _ s.packable.kinds,
      le-ltb _ _ s.few,
      le-ltb _ _ room,
      le-ltb _ _ c,
    )

pack_all : (cfg : Config) (us : List Parcel) → AllSendable cfg us → cfg.cid ≤ 4095 → AllPack cfg us
pack_all cfg [] h c = tt
pack_all cfg (x ∷ us) h c = (pack_one cfg x h.0 c, pack_all cfg us h.1 c)

-- the packets of all units: whole and short, none of them noted, and what they bring
pub record Sent (cfg : Config) (us : List Parcel) (h : AllSendable cfg us) : Type 0 where
  pub good : Good (all_packets cfg.cid us)
  pub quiet : AllQuiet cfg (all_packets cfg.cid us)
  pub inputs : brings cfg (all_packets cfg.cid us) ≡ all_inputs cfg us h

module _ (cfg : Config) (cid : cfg.cid ≤ 4095) where
  sent-on : (u : Parcel) (us : List Parcel) (h : AllSendable cfg (u ∷ us)) → Sent cfg us h.1 → Sent cfg (u ∷ us) h
  unfolding all_packets all_inputs
  sent-on u us h t =
      let s = h.0 in
      let r = packets-read u.unit cfg.cid u.sn u.m s.place cfg.watch u.bytes s.packable
      (omega arith) s.positive s.small s.watched in
      let q = unit-read cfg u.unit s.place u.m u.bytes (parcel_packets cfg.cid u) r.2 in
      record {
        good = good-append (parcel_packets cfg.cid u) (all_packets cfg.cid us) (r.0, r.1) t.good;
        quiet = quiet-append cfg (parcel_packets cfg.cid u) (all_packets cfg.cid us) q.0 t.quiet;
        inputs = brings-append cfg (parcel_packets cfg.cid u) (all_packets cfg.cid us) ∙ rw (q.1, t.inputs);
      }

  pub all-sent : (us : List Parcel) (h : AllSendable cfg us) → Sent cfg us h
  all-sent [] h =
      record {
        good = unfold all_packets in (tt, tt);
        quiet = unfold all_packets in tt;
        inputs = unfold all_packets all_inputs brings in refl;
      }
  all-sent (u ∷ us) h = sent-on u us h (all-sent us h.1)

-- a fresh receiver has heard nothing
fresh_stands : (cfg : Config) (A : Type 0) → AllStand cfg {A = A} [] (λ k. fresh)
unfolding unheard
fresh_stands cfg A id k e = refl

pub round_trip : RoundTrip
unfolding account
round_trip cfg ok us h c gaps n l k listed multiple =
    let A = ℕ × ℕ in
    let cid : cfg.cid ≤ 4095 = (starts cfg (start-accepted cfg ok).0).cid in
    let ps : List (List ℕ) = padded gaps (all_packets cfg.cid us) in
    let s = all-sent cfg cid us h in
    let g = padded-good gaps (all_packets cfg.cid us) n s.good in
    let b = padded-brings cfg gaps (all_packets cfg.cid us) n s.quiet in
    let fills = run_fills ps g l k listed multiple in
    record {
      packs = pack_all cfg us h cid;
      cuts = λ i out. cut_each (joined ps) l k i out fills;
      comes_back = λ fs begun slots p col xs reads none-refused.
          let own = own_slots cfg.stream 0 fs in
          let r = cut-run A (joined ps) l k own fills (run-kept ps g) slots in
          let es = slot-run searching (intact own) in
          let bytes : map (λ (q : Labelled-packet A). q.bytes) (packets es) ≡ ps = r.1 ∙ run-cut ps g in
          let q : AllQuiet cfg (map (λ (q : Labelled-packet A). q.bytes) (packets es)) = rw bytes b.0 in
          let i = counted-brings cfg (packets es) ∙ ap (brings cfg) bytes ∙ b.1 ∙ s.inputs in
          reading_theorem cfg ok fs begun none p col xs reads none-refused
          ∙ ap (λ (a : List (Arrival A)). map strip (events cfg (λ j. fresh) (slot-run searching a))) (frames-intact cfg.stream 0 fs)
          ∙ ap (map strip) (events-run cfg es r.0 q (λ j. fresh))
          ∙ units-back cfg [] us h c (λ j. fresh) (fresh_stands cfg (List A)) (counted cfg es) i;
    }
