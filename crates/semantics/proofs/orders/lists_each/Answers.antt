use Rattle.std.proofs.Common.{ℕ, ◌<◌, true, length, get_or, refl, rules}
use borrow.Author.Tests.{tests}
use Rattle.models.proofs.Telling.{told_again}
use Rattle.semantics.specs.Lists.{Listed, Before, ListsEach}
use Rattle.semantics.proofs.Ranging.{told_each, told_below, told_of_none}
use Rattle.semantics.proofs.Standing.{lists_each, listed_below}
use Rattle.semantics.proofs.orders.lists_each.Goals as goal

pub returns-then-all : goal.returns-then-all
returns-then-all c =
    let o = c.args.order.now in
    told_again c.all-then-all.result ((x : ℕ) → x < c.args.n → Listed o x × (Before o x x → ⊥)) (ListsEach (λ x. x < c.args.n) o)
    (lists_each o c.args.n (told_each _ _ true (λ x. x < c.args.n) 0 o c.if-all.ensures.ran c.iter.ensures.rest (λ x q k. search (rules, tests)) (λ x q k. search (rules, tests))))
    (λ each x under. (each.every x under, each.once x))
    (told_below _ _ c.all-then-all.result (λ x. Listed o x × (Before o x x → ⊥)) c.args.n c.all-then-all.ensures.ran refl (λ x q k. (search (rules, tests), (search (rules, tests), search (rules, tests)))) (λ x q k. search (rules, tests)))

pub returns-else-all : goal.returns-else-all
returns-else-all c =
    let o = c.args.order.now in
    told_of_none c.all.result ((k : ℕ) → k < length o → get_or o k 0 < c.args.n) _ c.if-all.false (listed_below o c.args.n)
    (told_each _ _ c.all.result (λ x. x < c.args.n) 0 o c.all.ensures.ran c.iter.ensures.rest (λ x q k. search (rules, tests)) (λ x q k. search (rules, tests)))
