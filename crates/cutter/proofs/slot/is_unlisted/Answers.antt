-- Why is_unlisted meets its contract: `all` goes over the code rates.
use Rattle.std.proofs.Common.{◌≡◌, ◌≢◌, refl, rules, tests}
use Rattle.std.proofs.lemmas.Iterator.{cases_from_all, YieldsList-from_range}
use Rattle.tmcc.specs.Mode.{data_bytes}
use Rattle.cutter.proofs.Table.{unlisted-by}
use Rattle.cutter.proofs.slot.is_unlisted.Goals as goal

pub returns : goal.returns
returns c =
    let l = c.args.l in
    unlisted-by l _
    (cases_from_all _ _ _ (λ k. data_bytes k ≢ l) (λ k. data_bytes k ≡ l) c.all.ensures.ran (YieldsList-from_range 1 12 11 refl refl)
    (λ x q k. search (rules, tests)) (λ x q k. search (rules, tests)))
