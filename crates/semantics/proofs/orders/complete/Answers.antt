use Rattle.std.proofs.Common.{◌≡◌, None, rules}
use borrow.Author.Tests.{tests}
use Rattle.models.specs.declared.Kind.TheVariants.{Read}
use Rattle.semantics.specs.Program.{nothing, kind_of}
use Rattle.semantics.proofs.Ranging.{told_each}
use Rattle.semantics.proofs.orders.complete.Goals as goal

pub returns : goal.returns
returns c =
    told_each _ _ c.all.result (λ p. kind_of p.instruction ≡ Read → p.expected ≡ None → ⊥) nothing c.args.places.now c.all.ensures.ran c.iter.ensures.rest (λ x q k. (search (rules, tests), search (rules, tests))) (λ x q k. search (rules, tests))
