use Rattle.std.proofs.Common.{ℕ, Bor, None, Some, Option, MatchOption, sym, subst, rules}
use borrow.Author.Tests.{tests}
use Rattle.std.proofs.lemmas.Iterator.{first_from_find}
use Rattle.semantics.specs.Lists.{Listed}
use Rattle.semantics.specs.Orders.{Visible, Latest}
use Rattle.semantics.specs.Parts.{accesses}
use Rattle.semantics.proofs.Latests.{from_back, latest_found}
use Rattle.semantics.proofs.Standing.{listing}
use Rattle.semantics.proofs.orders.Candidate.latest.Goals as goal

pub returns-in_err-last : goal.returns-in_err-last
returns-in_err-last g c =
    let s = c.args.self.now in
    let Seen : ℕ → Type 0 = Visible (accesses s.places.now) s.order.now c.args.r c.args.location in
    let listed : (w : ℕ) → Seen w → Listed s.order.now w = λ w seen. (listing s.lists).every w seen.write.1.0 in
    let first = first_from_find _ _ None Seen (λ w. Seen w → ⊥) c.in_err-last.ensures.ran (from_back s.order.now (cc)) (λ x q k. search (rules, tests)) (λ x q k. (search rules, subst (λ (y : Bor ℕ). Seen y.now → ⊥) k.shows (search (rules, tests)))) in
    subst (λ (found : Option ℕ). MatchOption found ((w : ℕ) → Seen w → ⊥) (Latest (accesses s.places.now) s.order.now c.args.r c.args.location)) (sym c.from_residual.ensures)
    (latest_found (accesses s.places.now) s.order.now c.args.r c.args.location listed (λ (x : Bor ℕ). x.now) None first)

pub returns : goal.returns
returns g c =
    let s = c.args.self.now in
    let Seen : ℕ → Type 0 = Visible (accesses s.places.now) s.order.now c.args.r c.args.location in
    let listed : (w : ℕ) → Seen w → Listed s.order.now w = λ w seen. (listing s.lists).every w seen.write.1.0 in
    let first = first_from_find (record { rest = record { ref_ptr = c.iter.result.rest.ref_ptr; now = _ } }) _ (Some c.in_ok-last.last) Seen (λ w. Seen w → ⊥) c.in_ok-last.ensures.ran (from_back s.order.now (cc)) (λ x q k. search (rules, tests)) (λ x q k. (search rules, subst (λ (y : Bor ℕ). Seen y.now → ⊥) k.shows (search (rules, tests)))) in
    latest_found (accesses s.places.now) s.order.now c.args.r c.args.location listed (λ (x : Bor ℕ). x.now) (Some c.in_ok-last.last) first
