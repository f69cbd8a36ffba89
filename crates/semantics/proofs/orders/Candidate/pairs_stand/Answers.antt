use Rattle.std.proofs.Common.{length, refl, rules, arith}
use borrow.Author.Tests.{tests}
use Rattle.semantics.specs.Parts.{StandsAfter}
use Rattle.semantics.proofs.Ranging.{told_every}
use Rattle.semantics.proofs.orders.Candidate.pairs_stand.Goals as goal

pub returns : goal.returns
returns g c =
    let s = c.args.self.now in
    told_every _ _ c.all.result (StandsAfter (g.M.Model.meaning s.model.now) s.places.now s.order.now) (length s.places.now) c.all.ensures.ran refl
    (λ y past x earlier. absurd (omega arith))
    (λ x q k. search (rules, tests)) (λ x q k. search (rules, tests))
