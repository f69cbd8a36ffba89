use Rattle.std.proofs.Common.{codes, rules}
use Rattle.litmus.proofs.Words.{after, headed, no_choice, none_requested}
use Rattle.litmus.proofs.request.read_request.Goals as goal
use Rattle.litmus.specs.Requests.{texts}

pub returns-in_err-read_choice-in-keeps : goal.returns-in_err-read_choice-in-keeps
returns-in_err-read_choice-in-keeps c =
    rw (c.from_residual.ensures, headed c.args.words.now (codes "keeps") (search rules) (search rules)) (no_choice _ c.in_err-read_choice-in-keeps.ensures)

pub returns-in_ok-read_choice-in-keeps : goal.returns-in_ok-read_choice-in-keeps
returns-in_ok-read_choice-in-keeps c =
    (texts (after c.args.words.now), headed c.args.words.now (codes "keeps") (search rules) (search rules), c.in_ok-read_choice-in-keeps.ensures)

pub returns-in_default : goal.returns-in_default
returns-in_default c = none_requested c.args.words.now (search rules) (search rules) (search rules) (search rules)
