use Rattle.std.proofs.Common.{◌≡◌, Some, arith, rules}
use Rattle.std.proofs.lemmas.Result.{err_from_is_err_and, IfOk-at_ok}
use Rattle.formulas.specs.Grammar.{formula}
use Rattle.formulas.specs.Items.{Comes}
use Rattle.formulas.specs.Readers.{Finds}
use Rattle.models.specs.Trees.{shape}
use Rattle.formulas.proofs.Readings.{left_over, taken, single}
use Rattle.formulas.proofs.reader.parse.Goals as goal
use Rattle.formulas.proofs.reader.parse.Goals.{After-next_token, in-Ok-None, in_default, in_default-2}

read : (c : After-next_token) → Finds formula c.args.text.now 0 (Some c.in_ok-tree.tree) c.read_formula.new.self.lexer.at
read c =
    let is : c.read_formula.result ≡ Some c.in_ok-tree.tree = grind arith in
    rw (c.new.ensures.text, c.new.ensures.at, is) at c.read_formula.ensures.finds

left : (c : After-next_token) → Comes c.args.text.now c.read_formula.new.self.lexer.at c.next_token.result c.next_token.new.self.at
left c = rw (c.read_formula.ensures.same_text, c.new.ensures.text) at c.next_token.ensures.comes

pub returns-in_err-screen-clause-single : goal.returns-in_err-screen-clause-single
returns-in_err-screen-clause-single c = single _

pub returns-then-not-matches : goal.returns-then-not-matches
returns-then-not-matches c =
    let (admitted, (ts, all)) = c.in_ok-screen.ensures in
    let r = (goal.at.returns-then-not-matches c).After-next_token in
    record {
      answer = (admitted, left_over all _ _ (read r) _ _ (left r) (λ e. elim c.match-matches.branch [ in-Ok-None w ↦ search rules | in_default w ↦ search rules | in_default-2 w ↦ search rules ]));
      single = single _;
    }

pub returns-in_err-tree-2 : goal.returns-in_err-tree-2
returns-in_err-tree-2 c =
    let (admitted, (ts, all)) = c.in_ok-screen.ensures in
    let r = (goal.at.returns-in_err-tree-2 c).After-next_token in
    let p = err_from_is_err_and c.from_residual-in_err-tree-2.result c.from_residual-in_err-tree-2.ensures.1 in
    let (t, here, tree) = taken all _ _ (read r) _ _ (left r) admitted (elim c.match-matches.branch [ in-Ok-None w ↦ search rules | in_default w ↦ search rules | in_default-2 w ↦ search rules ]) in
    record { answer = rw (p.1, p.2) (t, here); single = single _ }

pub returns : goal.returns
returns c =
    let (admitted, (ts, all)) = c.in_ok-screen.ensures in
    let r = (goal.at.returns c).After-next_token in
    let (t, here, tree) = taken all _ _ (read r) _ _ (left r) admitted (elim c.match-matches.branch [ in-Ok-None w ↦ search rules | in_default w ↦ search rules | in_default-2 w ↦ search rules ]) in
    let is = IfOk-at_ok (λ f. shape f ≡ t) c.in_ok-tree-2.was tree in
    record { answer = search rules; single = single _ }
