use Rattle.std.proofs.Common.{◌≡◌, rules, tests}
use Rattle.std.proofs.lemmas.Iterator.{cases_from_all, YieldsList-from_slice}
use Rattle.models.specs.Tables.{cell_keeps}
use Rattle.models.specs.declared.facts.Facts.{Facts}
use Rattle.models.proofs.EachCombination.{told_of_each}
use Rattle.models.proofs.summary.describes.Goals as goal

pub returns : goal.returns
returns g c =
    let P : Facts → Type 0 = λ f. g.M.Model.meaning c.args.model.now f ≡ cell_keeps c.args.cell f in
    let all = c.combinations.ensures in
    told_of_each P c.args.earlier c.args.later c.combinations.result all.only all.every _
    (cases_from_all _ _ _ P (λ f. P f → ⊥) c.all.ensures.ran (YieldsList-from_slice c.combinations.result cc) (λ x q k. search (rules, tests)) (λ x q k. search (rules, tests)))
