use Rattle.models.proofs.formula.Formula.TheLaws.{the_size}
use Rattle.models.proofs.formula.Formula.+holds.Given as goal

abbrev pub decreases-holds : goal.decreases-holds
decreases-holds l = the_size l.self.now
