use Rattle.std.proofs.Common.{length, refl, rules, arith}
use borrow.Author.Tests.{tests}
use Rattle.semantics.specs.Parts.{ReadStands}
use Rattle.semantics.proofs.Accessing.{reading}
use Rattle.semantics.proofs.Ranging.{told_every}
use Rattle.semantics.proofs.Seeing.{no_read}
use Rattle.semantics.proofs.orders.Candidate.reads_stand.Goals as goal

pub returns : goal.returns
returns g c =
    let s = c.args.self.now in
    told_every _ _ c.all.result (ReadStands s.places.now s.initial.now s.order.now) (length s.places.now) c.all.ensures.ran refl
    (λ r past. no_read s.places.now _ _ r (λ l v e. omega (arith, reading s.places.now r l v e)))
    (λ x q k. search (rules, tests)) (λ x q k. search (rules, tests))
