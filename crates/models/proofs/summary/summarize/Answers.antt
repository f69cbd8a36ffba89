use Rattle.std.proofs.Common.{[], rules}
use Rattle.models.specs.Summaries.{TellsRow}
use Rattle.models.proofs.ByKind.{each_mapped}
use Rattle.models.proofs.summary.summarize.Goals as goal

pub returns : goal.returns
returns g c = each_mapped _ _ [] (TellsRow (g.M.Model.meaning c.args.model.now)) c.map.ensures.items c.all.ensures (λ x y q k. (search rules, (search rules, (search rules, (search rules, (search rules, search rules))))))
