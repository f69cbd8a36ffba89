use Rattle.std.proofs.Common.{None, rules}
use Rattle.models.specs.Summaries.{TellsCell}
use Rattle.models.proofs.ByKind.{each_mapped}
use Rattle.models.proofs.summary.row_of.Goals as goal

pub returns : goal.returns
returns g c = each_mapped _ _ None (TellsCell (g.M.Model.meaning c.args.model.now) c.args.earlier) c.map.ensures.items c.all.ensures (λ x y q k. (search rules, search rules))
