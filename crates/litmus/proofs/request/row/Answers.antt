use Rattle.std.proofs.Common.{◌≡◌, length, rules}
use Rattle.std.specs.List.{AllZip}
use Rattle.litmus.proofs.Places.{all_read, with_fact}
use Rattle.litmus.proofs.request.row.Goals as goal
use Rattle.litmus.specs.Requests.{Digit}

pub returns : goal.returns
returns c =
    let same : c.in_ok-bytes.bytes ≡ c.args.word.now = search rules in
    let five : length c.args.word.now ≡ 5 = search rules in
    rw c.ok-2.ensures.value
    (with_fact _ (AllZip Digit c.args.word.now) _ five
    (rw (same) at (all_read Digit 0 c.in_ok-bytes.bytes c.try_map.result c.try_map.ensures.ok c.try_map.ensures.err (λ x y p q k. search rules) (λ x e p q k. search rules))))
