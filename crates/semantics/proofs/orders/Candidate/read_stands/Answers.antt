use Rattle.std.proofs.Common.{eqb, sym, ap, rules}
use Rattle.models.specs.Tells.{Tells}
use Rattle.semantics.specs.Events.{Writes}
use Rattle.semantics.specs.Parts.{accesses}
use Rattle.semantics.specs.Program.{Precedes}
use Rattle.semantics.proofs.Seeing.{by_write, not_by_write, by_initial}
use Rattle.semantics.proofs.Standing.{listing}
use Rattle.semantics.proofs.orders.Candidate.read_stands.Goals as goal

pub returns-then-writes : goal.returns-then-writes
returns-then-writes g c =
    let s = c.args.self.now in
    let stored : Writes (accesses s.places.now) c.in-Some.w c.in-Some-Reading.location c.in-Some-Reading.value = search rules in
    let own : Tells c.precedes.result (Precedes s.places.now c.args.r c.in-Some.w) = search rules in
    by_write s.places.now s.order.now (listing s.lists) s.initial.now c.args.r c.in-Some-Reading.location c.in-Some-Reading.value
    (cc)
    c.in-Some.w c.in-Some.ensures stored _ own

pub returns-else-writes : goal.returns-else-writes
returns-else-writes g c =
    let s = c.args.self.now in
    let stored : Tells c.writes.result (Writes (accesses s.places.now) c.in-Some.w c.in-Some-Reading.location c.in-Some-Reading.value) = search rules in
    not_by_write s.places.now s.order.now (listing s.lists) s.initial.now c.args.r c.in-Some-Reading.location c.in-Some-Reading.value
    (cc)
    c.in-Some.w c.in-Some.ensures _ c.if-writes.false stored

pub returns-in-None : goal.returns-in-None
returns-in-None g c =
    let s = c.args.self.now in
    by_initial s.places.now s.order.now (listing s.lists) s.initial.now c.args.r c.in-Some-Reading.location c.in-Some-Reading.value
    (cc)
    c.in-None.ensures _ (ap (λ n. eqb n c.in-Some-Reading.value) (sym c.initial_at.ensures))
