use Rattle.std.proofs.Common.{◌<◌, length, codes, arith, rules, ltb-false, ltb-true}
use Rattle.litmus.proofs.Words.{after, headed, some_after, no_table, none_asked}
use Rattle.litmus.proofs.request.read_choice.Goals as goal
use Rattle.litmus.specs.Requests.{texts}

pub returns-in_err-table-in-table : goal.returns-in_err-table-in-table
returns-in_err-table-in-table c =
    let two : 1 < length c.args.words.now = omega (arith, ltb-true, ltb-false) in
    rw (c.from_residual.ensures, headed c.args.words.now (codes "table") (search rules) (search rules)) (no_table _ (some_after c.args.words.now two) c.in_err-table-in-table.ensures)

pub returns-in_ok-table-in-table : goal.returns-in_ok-table-in-table
returns-in_ok-table-in-table c =
    (texts (after c.args.words.now), headed c.args.words.now (codes "table") (search rules) (search rules), c.in_ok-table-in-table.ensures)

pub returns-in_default : goal.returns-in_default
returns-in_default c = none_asked c.args.words.now (search rules) (search rules) (search rules) (search rules)
