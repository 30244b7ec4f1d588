-- Why lookup meets its contract: the first place among the first n ids that has the id.
use Rattle.std.proofs.Common.{◌≡◌, ◌∙◌, rules, tests, length, eqb}
use Rattle.std.proofs.lemmas.Iterator.{YieldsList-from_slice}
use Rattle.std.proofs.lemmas.Iterator.Adapters.{position_from-zero}
use Rattle.std.proofs.lemmas.Iterator.Search.{position_from_yields_List}
use Rattle.watch.proofs.GivenLaws.{lookup-position}
use Rattle.watch.proofs.given.lookup.Goals as goal

pub returns : goal.returns
returns c =
    let full : length c.args.watch.ids ≡ 16 = search rules in
    position_from_yields_List (λ x. eqb x c.args.id) _ _ c.position.result c.position.ensures.ran
    (YieldsList-from_slice _ (rw c.min-n.ensures at c.iter.ensures.rest)) (λ x b q k. search (rules, tests))
    ∙ position_from-zero (λ x. eqb x c.args.id) _ ∙ lookup-position _ _ full
