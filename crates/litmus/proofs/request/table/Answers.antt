use Rattle.std.proofs.Common.{◌≡◌, [], length, rules, arith}
use lib.ListN.{length-map}
use Rattle.std.specs.List.{AllZip}
use Rattle.litmus.proofs.Places.{all_read, with_fact, mapped}
use Rattle.litmus.proofs.request.table.Goals as goal
use Rattle.litmus.specs.Requests.{texts, Digits}

pub returns : goal.returns
returns c =
    let same : c.in_ok-rows.rows ≡ c.args.words.now = search rules in
    let five : length c.args.words.now ≡ 5 = search rules in
    rw c.ok-2.ensures.value
    (with_fact _ (AllZip Digits (texts c.args.words.now)) _ (omega (arith, length-map c.args.words.now (λ x. x.now)))
    (mapped Digits (λ x. x.now) c.args.words.now _
    (rw (same) at (all_read (λ w ns. Digits w.now ns) [] c.in_ok-rows.rows c.try_map.result c.try_map.ensures.ok c.try_map.ensures.err (λ x y p q k. search rules) (λ x e p q k. search rules)))))
