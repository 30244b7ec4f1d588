-- Why the account's units are those that the slots carry, less those that lost slots carry: the packets that count are those of
-- the row, as far as it shows whether their slots are kept, and lost slots leave out those that have one of their labels.
use Prim.Native.Nat.{ℕ, suc, ◌≤◌}
use mathlib.Core.Path.{◌≡◌, sym, ◌∙◌, ap}
use mathlib.Core.Bool.{Bool, true}
use mathlib.Core.List.{List, ◌∷◌, ◌++◌, map, map-map}
use lib.ListN.{replicate}
use Rattle.tlv.specs.Run.{
  Slot,
  Labelled as Labelled-packet,
  Event,
  searching,
  lost,
  intact,
  damaged,
  run as slots,
  state_after,
  packets,
  Clean as Slot-clean,
}
use Rattle.tlv.specs.Row.{row_packets}
use Rattle.tlv.specs.Claims.{Seen, Filled, seen, seen_in_row}
use Rattle.tlv.proofs.Runs.{run-append, run-lost}
use Rattle.tlv.proofs.Loss.{run_loss}
use Rattle.tlv.proofs.Rows.{run_row}
use Rattle.reassembly.specs.declared.config.Config.{Config}
use Rattle.reassembly.specs.Run.{Input, fresh, run, units, count}
use Rattle.reassembly.specs.Sent.{sent}
use Rattle.reassembly.specs.Claims.{received, unharmed}
use Rattle.reassembly.proofs.Sent.{run-sent}
use Rattle.reassembly.proofs.Loss.{sent_loss}
use Rattle.wire.specs.Lists.{all}
use Rattle.wire.proofs.ListsLaws.{sift-map}
use Rattle.broadcast.specs.Account.{events, account}
use Rattle.broadcast.specs.Carried.{inputs, in_row, row_inputs, carried_units, intact_units, Few, contents}
use Rattle.broadcast.specs.Claims.{AccountUnits, AccountLoss, LostMany}
use Rattle.broadcast.proofs.Labels.{
  relabel,
  relabelled,
  sent-relabelled,
  count-relabelled,
  contents-relabelled,
  unharmed-relabelled,
}
use Rattle.broadcast.proofs.Inputs.{pair_of, counted, inputs-relabelled, inputs-received, events-units, events-clean}

module _ {A : Type 0} (c : Config) (xs : List (A × Slot)) where
  -- the packets when all slots are given, and those that count
  abbrev given : List (Labelled-packet A)
  given = packets (slots searching (intact xs))

  abbrev heard : List (List A × Input)
  heard = counted c (slots searching (intact xs))

  module _ (keep : A → Bool) where
    -- whether each label of a packet is kept
    abbrev keeps : List A → Bool
    keeps ls = all keep ls

    abbrev pair_seen : Seen → Bool × List ℕ
    pair_seen v = (v.kept, v.bytes)

    -- the packets are those of the row, as far as it shows which are kept
    packets-row : Slot-clean (slots searching (intact xs)) → Filled xs
        → map (relabel keeps) (map pair_of given) ≡ map (relabel keeps) (map in_row (row_packets xs))
    packets-row q f =
        map-map (relabel keeps) pair_of given
        ∙ sym (map-map pair_seen (seen keep) given)
        ∙ ap (map pair_seen) (run_row A keep xs q f)
        ∙ map-map pair_seen (seen_in_row keep) (row_packets xs)
        ∙ sym (map-map (relabel keeps) in_row (row_packets xs))

    -- so are those that count
    heard-row : Slot-clean (slots searching (intact xs)) → Filled xs
        → map (relabel keeps) heard ≡ map (relabel keeps) (row_inputs c xs)
    unfolding row_inputs
    heard-row q f =
        sym (inputs-relabelled keeps c (map pair_of given))
        ∙ ap (inputs c) (packets-row q f)
        ∙ inputs-relabelled keeps c (map in_row (row_packets xs))

    -- lost slots leave out those that have one of their labels
    heard-damaged : counted c (slots searching (damaged keep xs)) ≡ received keeps heard
    heard-damaged =
        ap (λ (l : List (Labelled-packet A)). inputs c (map pair_of l)) (run_loss A keep xs)
        ∙ ap (inputs c) (sym (sift-map pair_of (λ (p : List A × List ℕ). keeps p.0) given))
        ∙ inputs-received keeps c (map pair_of given)

  -- what that makes of their units and their number
  module _ (keep : A → Bool) (q : Slot-clean (slots searching (intact xs))) (f : Filled xs) where
    units_row : map (relabelled (keeps keep)) (sent heard) ≡ map (relabelled (keeps keep)) (carried_units c xs)
    unfolding carried_units
    units_row =
        sym (sent-relabelled (keeps keep) heard) ∙ ap sent (heard-row keep q f) ∙ sent-relabelled (keeps keep) (row_inputs c xs)

    contents-row : contents (sent heard) ≡ contents (carried_units c xs)
    contents-row =
        sym (contents-relabelled (keeps keep) (sent heard)) ∙ ap contents units_row
        ∙ contents-relabelled (keeps keep) (carried_units c xs)

    intact-row : contents (unharmed (keeps keep) (sent heard)) ≡ contents (intact_units keep (carried_units c xs))
    intact-row =
        sym (unharmed-relabelled (keeps keep) (sent heard))
        ∙ ap (λ us. contents (unharmed (λ b. b) us)) units_row
        ∙ unharmed-relabelled (keeps keep) (carried_units c xs)

    few-heard : Few c xs → (k : ℕ) → count k heard ≤ 4294967295
    few-heard l k =
        let e : count k heard ≡ count k (row_inputs c xs) =
        sym (count-relabelled (keeps keep) k heard) ∙ ap (count k) (heard-row keep q f)
        ∙ count-relabelled (keeps keep) k (row_inputs c xs) in
        rw e (l k)

pub account-units : AccountUnits
unfolding account
account-units A c xs q f =
    let es = slots searching (intact xs) in
    let t = events-clean c es (λ k. fresh) q in
    ap contents (events-units c es (λ k. fresh) ∙ run-sent (List A) c.rules (heard c xs) t.1)
    ∙ contents-row c xs (λ a. true) t.0 f

pub account_loss : AccountLoss
unfolding account
account_loss A keep c xs q f l =
    let es = slots searching (intact xs) in
    let t = events-clean c es (λ k. fresh) q in
    ap contents (events-units c (slots searching (damaged keep xs)) (λ k. fresh)
    ∙ ap (λ (l : List (List A × Input)). units (run c.rules (λ k. fresh) l)) (heard-damaged c xs keep)
    ∙ sent_loss (List A) (λ ls. all keep ls) c.rules (heard c xs) t.1 (few-heard c xs keep t.0 f l))
    ∙ intact-row c xs keep t.0 f

pub lost_many : LostMany
unfolding account
lost_many A c n xs ys =
    let st = state_after searching xs in
    ap (events c (λ k. fresh))
    ((run-append A searching xs (replicate (suc n) lost ++ ys)).0
    ∙ ap (λ (es : List (Event A)). slots searching xs ++ es) (run-lost A st n ys).0
    ∙ sym (run-append A searching xs (lost ∷ ys)).0)
