-- Lost packets take away exactly the units that one of them carries: of one packet_id, and of all.
use Rattle.std.proofs.Common.{◌≡◌, ℕ, suc, ◌+◌, ◌<◌, ◌≤◌, Bool, true, false, cond, eqb, List, [], ◌∷◌, ◌++◌, length, refl, ap, ◌∙◌, arith, eqb-true}
use Rattle.wire.specs.Lists.{put, all}
use Rattle.wire.proofs.ListsLaws.{sift-append}
use Rattle.reassembly.specs.declared.config.Rules.{Rules}
use Rattle.reassembly.specs.Channel.{unheard}
use Rattle.reassembly.specs.Run.{Input, Labelled, Event, Lane, Stepped, fresh, step, with_lane, run, run_lane}
use Rattle.reassembly.specs.Run.{units, Clean, count}
use Rattle.reassembly.specs.Claims.{received, unharmed, LaneLoss, RunLoss, SentLoss}
use Rattle.reassembly.proofs.Events.{clean-left, clean-right, units-append}
use Rattle.reassembly.proofs.Sent.{run-sent}
use Rattle.reassembly.proofs.Beside.{Beside, level, alike_self, step-lost, step-received}

module _ {A : Type 0} (keep : A → Bool) where
  unharmed-append : (es fs : List (Event A))
      → unharmed keep (units (es ++ fs)) ≡ unharmed keep (units es) ++ unharmed keep (units fs)
  unharmed-append es fs = rw (units-append es fs) (sift-append (λ (u : Labelled A). all keep u.labels) (units es) (units fs))

  -- the first packet's events, and those of the others
  glue_received : (es fs ds gs : List (Event A)) → units ds ≡ unharmed keep (units es) → units gs ≡ unharmed keep (units fs)
      → units (ds ++ gs) ≡ unharmed keep (units (es ++ fs))
  glue_received es fs ds gs p q =
      rw (units-append ds gs, unharmed-append es fs, p, q)

  glue_lost : (es fs gs : List (Event A)) → unharmed keep (units es) ≡ [] → units gs ≡ unharmed keep (units fs)
      → units gs ≡ unharmed keep (units (es ++ fs))
  glue_lost es fs gs p q =
      rw (unharmed-append es fs, p, q)

  module _ (rules : Rules) where
    -- one packet_id
    pub lane-from : (xs : List (A × Input)) (u d : Lane A) (n : ℕ) → Beside keep u d n → n + length xs ≤ 4294967295
        → Clean (run_lane rules u xs) → units (run_lane rules d (received keep xs)) ≡ unharmed keep (units (run_lane rules u xs))
    unfolding run_lane
    lane-from [] u d n b l h = refl
    lane-from (x ∷ xs) u d n b l h =
        go (keep x.0) refl (λ e t. lane-from xs s.lane e (suc n) t (omega arith) (clean-right s.events rest h))
      where
        s : Stepped A
        s = step rules u x.0 x.1

        rest : List (Event A)
        rest = run_lane rules s.lane xs

        first : Clean (step rules u x.0 x.1).events
        first = clean-left s.events rest h

        go : (k : Bool) → keep x.0 ≡ k
            → ((e : Lane A) → Beside keep s.lane e (suc n)
            → units (run_lane rules e (received keep xs)) ≡ unharmed keep (units rest))
            → units (run_lane rules d (put k x (received keep xs))) ≡ unharmed keep (units (run_lane rules u (x ∷ xs)))
        go true k ih =
            let w = step rules d x.0 x.1 in
            let t = step-received keep rules u d n x.0 x.1 first b k (omega arith) in
            glue_received s.events rest w.events (run_lane rules w.lane (received keep xs)) t.1 (ih _ t.0)
        go false k ih =
            let t = step-lost keep rules u d n x.0 x.1 first b k in
            glue_lost s.events rest (run_lane rules d (received keep xs)) t.1 (ih _ t.0)

    -- all packet_ids, each after its own number of packets
    abbrev pub Besides : (u d : ℕ → Lane A) (n : ℕ → ℕ) → Type 0
    Besides u d n = (k : ℕ) → Beside keep (u k) (d k) (n k)

    abbrev tally : ℕ → (ℕ → ℕ) → ℕ → ℕ
    tally i n k = cond (eqb k i) (suc (n k)) (n k)

    besides_received : (u d : ℕ → Lane A) (n : ℕ → ℕ) (i : ℕ) (v e : Lane A) → Besides u d n → Beside keep v e (suc (n i))
        → Besides (with_lane rules u i v) (with_lane rules d i e) (tally i n)
    besides_received u d n i v e b t k = go (eqb k i) refl
      where
        go : (c : Bool) → eqb k i ≡ c → Beside keep (cond c v (u k)) (cond c e (d k)) (cond c (suc (n k)) (n k))
        go true q = rw (eqb-true k i q) t
        go false q = b k

    besides_lost : (u d : ℕ → Lane A) (n : ℕ → ℕ) (i : ℕ) (v : Lane A) → Besides u d n → Beside keep v (d i) (suc (n i))
        → Besides (with_lane rules u i v) d (tally i n)
    besides_lost u d n i v b t k = go (eqb k i) refl
      where
        go : (c : Bool) → eqb k i ≡ c → Beside keep (cond c v (u k)) (d k) (cond c (suc (n k)) (n k))
        go true q = rw (eqb-true k i q) t
        go false q = b k

    tally-count : (c : Bool) (n m : ℕ) → cond c (suc n) n + m ≡ n + cond c (suc m) m
    tally-count true n m = omega arith
    tally-count false n m = refl

    counted : (n : ℕ → ℕ) (x : A × Input) (xs : List (A × Input)) → n x.1.place + count x.1.place (x ∷ xs) ≤ 4294967295
        → n x.1.place < 4294967296
    counted n x xs l = omega arith

    pub run-from : (xs : List (A × Input)) (u d : ℕ → Lane A) (n : ℕ → ℕ) → Besides u d n
        → ((k : ℕ) → n k + count k xs ≤ 4294967295)
        → Clean (run rules u xs) → units (run rules d (received keep xs)) ≡ unharmed keep (units (run rules u xs))
    unfolding run
    run-from [] u d n b l h = refl
    run-from (x ∷ xs) u d n b l h =
        go (keep x.0) refl (λ e t. run-from xs v e (tally i n) t few (clean-right s.events rest h))
      where
        i : ℕ
        i = x.1.place

        s : Stepped A
        s = step rules (u i) x.0 x.1

        v : ℕ → Lane A
        v = with_lane rules u i s.lane

        rest : List (Event A)
        rest = run rules v xs

        few : (k : ℕ) → tally i n k + count k xs ≤ 4294967295
        few k = rw (tally-count (eqb k i) (n k) (count k xs)) (l k)

        first : Clean (step rules (u i) x.0 x.1).events
        first = clean-left s.events rest h

        go : (k : Bool) → keep x.0 ≡ k
            → ((e : ℕ → Lane A) → Besides v e (tally i n)
            → units (run rules e (received keep xs)) ≡ unharmed keep (units rest))
            → units (run rules d (put k x (received keep xs))) ≡ unharmed keep (units (run rules u (x ∷ xs)))
        go true k ih =
            let w = step rules (d i) x.0 x.1 in
            let t = step-received keep rules (u i) (d i) (n i) x.0 x.1 first (b i) k (counted n x xs (l i)) in
            glue_received s.events rest w.events (run rules (with_lane rules d i w.lane) (received keep xs)) t.1
            (ih _ (besides_received u d n i s.lane w.lane b t.0))
        go false k ih =
            let t = step-lost keep rules (u i) (d i) (n i) x.0 x.1 first (b i) k in
            glue_lost s.events rest (run rules d (received keep xs)) t.1 (ih _ (besides_lost u d n i s.lane b t.0))

  level-fresh : Beside keep fresh fresh 0
  unfolding unheard
  level-fresh = level (alike_self fresh) tt

pub lane_loss : LaneLoss
lane_loss A keep rules xs h l = lane-from keep rules xs fresh fresh 0 (level-fresh keep) (omega arith) h

pub run_loss : RunLoss
run_loss A keep rules xs h l =
    run-from keep rules xs (λ k. fresh) (λ k. fresh) (λ k. 0) (λ k. level-fresh keep) (λ k. omega (arith, l k)) h

pub sent_loss : SentLoss
sent_loss A keep rules xs h l = run_loss A keep rules xs h l ∙ ap (unharmed keep) (run-sent A rules xs h)
