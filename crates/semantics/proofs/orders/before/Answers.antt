use Rattle.std.proofs.Common.{◌≡◌, rules, arith}
use borrow.Author.Tests.{tests}
use Rattle.std.proofs.lemmas.Iterator.{IsFirst-from_position, YieldsList-from_slice}
use Rattle.semantics.proofs.Standing.{told_before, told_contains}
use Rattle.semantics.proofs.orders.before.Goals as goal

pub returns-in-Some : goal.returns-in-Some
returns-in-Some c =
    let o = c.args.order.now in
    let p = IsFirst-from_position _ _ _ (λ y. y ≡ c.args.x) (λ y. y ≡ c.args.x → ⊥) c.in-Some.ensures.ran (YieldsList-from_slice o c.iter.ensures.rest) (λ x q k. search (rules, tests)) (λ x q k. search (rules, tests)) in
    told_before o c.args.x c.args.y c.in-Some.first c.contains.result p.0 (p.1 0) (λ k under. p.2 k 0 (omega arith) under) (told_contains _ c.args.y c.contains.result c.contains.ensures.cases)
