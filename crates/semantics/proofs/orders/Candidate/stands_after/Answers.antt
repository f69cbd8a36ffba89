use Rattle.std.proofs.Common.{refl, rules, arith}
use borrow.Author.Tests.{tests}
use Rattle.semantics.specs.Parts.{Stands}
use Rattle.semantics.proofs.Ranging.{told_every}
use Rattle.semantics.proofs.orders.Candidate.stands_after.Goals as goal

pub returns : goal.returns
returns g c =
    let s = c.args.self.now in
    told_every _ _ c.all.result (λ x. Stands (g.M.Model.meaning s.model.now) s.places.now s.order.now x c.args.y) c.args.y c.all.ensures.ran refl
    (λ x past earlier. absurd (omega arith))
    (λ x q k. search (rules, tests)) (λ x q k. search (rules, tests))
