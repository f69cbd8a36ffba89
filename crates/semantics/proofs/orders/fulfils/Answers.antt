use Rattle.models.proofs.Telling.{told_again}
use Rattle.semantics.proofs.Fulfilment.{fulfilled, pairs_of, reads_of}
use Rattle.semantics.proofs.orders.fulfils.Goals as goal

pub returns-then-pairs_stand : goal.returns-then-pairs_stand
returns-then-pairs_stand g c =
    told_again _ _ _
    (λ h. (c.if-not-complete.ensures, fulfilled c.args.places.now c.args.initial.now c.args.order.now (g.M.Model.meaning c.args.model.now) c.if-not-lists_each.ensures c.if-pairs_stand.ensures h))
    (λ h. reads_of _ _ _ _ h.1)
    c.reads_stand.ensures

pub returns-else-pairs_stand : goal.returns-else-pairs_stand
returns-else-pairs_stand g c =
    told_again _ _ _ (λ h. absurd (c.if-pairs_stand.ensures h)) (λ h. pairs_of _ _ _ _ h.1) c.pairs_stand.ensures
