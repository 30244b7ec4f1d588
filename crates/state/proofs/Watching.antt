-- Why a started receiver answers as a search in the order given.
use mathlib.Core.Path.{◌≡◌, refl, sym, ◌∙◌, ap}
use Prim.Native.Nat.{min}
use mathlib.Core.Bool.{Bool, true, false, cond}
use native.Mathlib.Omega.{arith}
use borrow.Author.Tests.{eqb-true}
use lib.Dec.{eqb}
use Rattle.watch.proofs.Order.{rising-rises, rising-length}
use Rattle.reassembly.specs.declared.config.Config.{Config}
use Rattle.words.specs.Config.{kept_config}
use Rattle.delivery.proofs.PacketLaws.{arrived-same}
use Rattle.delivery.proofs.WithinLaws.{arrived-place}
use Rattle.state.specs.State.{State, Called, accepted, refused}
use Rattle.state.specs.Start.{start_refusal, fresh_state, start_from, Starts}
use Rattle.state.proofs.StartLaws.{start-fresh, starts}
use Rattle.state.specs.Watching.{InOrderGiven, WatchClaim}
use Rattle.state.proofs.WatchingLaws.{watch-given}

-- a start that refuses nothing
no_refusal : (st : State) (c : Config) → (start_from st c).refusal ≡ 0 → start_refusal c ≡ 0
unfolding start_from
no_refusal st c e = go (eqb (start_refusal c) 0) refl e
  where
    go : (b : Bool) → eqb (start_refusal c) 0 ≡ b → (cond b (accepted (fresh_state c)) (refused (start_refusal c) st)).refusal ≡ 0
        → start_refusal c ≡ 0
    go true t q = eqb-true _ _ t
    go false t q = q

kept : (c : Config) → Starts c → InOrderGiven c (kept_config c)
kept c s =
    let all : min c.watch.n 16 ≡ c.watch.n = omega (arith, s.few) in
    record {
      rises = rising-rises c.watch s.few s.once;
      count = rw all (rising-length c.watch.ids c.watch.n);
      answer = watch-given c s;
      packet = λ p start end. arrived-same _ _ _ p start end (watch-given c s);
      collects = λ p start end l e.
          (l.packet.place, sym (watch-given c s _) ∙ (arrived-place (kept_config c) p start end l e).found, refl);
    }

pub watch_claim : WatchClaim
unfolding fresh_state
watch_claim st c e =
    let r = no_refusal st c e in
    let k : (start_from st c).state.config ≡ kept_config c = ap (λ (x : Called). x.state.config) (start-fresh st c r) in
    rw k (kept c (starts c r))
