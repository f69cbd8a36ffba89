use Rattle.std.proofs.Common.{rules}
use Rattle.models.specs.Trees.{both, either}
use Rattle.formulas.proofs.Readings.{factors, terms, none_rest, found_one, found_more, found_name, closed, none_inside, none_comes}
use Rattle.formulas.proofs.reader.Reader.+grammar.Goals as goal

pub read_factor-returns-in_err-inner-in-Ok-Some-Open-clause-finds :
    goal.read_factor-returns-in_err-inner-in-Ok-Some-Open-clause-finds
read_factor-returns-in_err-inner-in-Ok-Some-Open-clause-finds t c =
    rw c.from_residual.ensures (none_inside c.next_token.ensures.comes (search rules) c.read_formula.new.self.lexer.at c.read_formula.new.self.lexer.at (rw c.next_token.ensures.same_text at c.in_err-inner-in-Ok-Some-Open.ensures.finds))

pub read_factor-returns-in-Ok-Some-Name-clause-finds : goal.read_factor-returns-in-Ok-Some-Name-clause-finds
read_factor-returns-in-Ok-Some-Name-clause-finds t c = found_name c.in-Ok-Some-Name.word (search rules) c.next_token.ensures.comes

pub read_factor-returns-in_ok-inner-in-Ok-Some-Open-clause-finds :
    goal.read_factor-returns-in_ok-inner-in-Ok-Some-Open-clause-finds
read_factor-returns-in_ok-inner-in-Ok-Some-Open-clause-finds t c =
    rw c.then_some.ensures (closed c.next_token.ensures.comes (search rules) _ _ (rw c.next_token.ensures.same_text at c.in_ok-inner-in-Ok-Some-Open.ensures.finds) _ _ (rw (c.read_formula.ensures.same_text, c.next_token.ensures.same_text) at c.step_over.ensures.taken))

pub read_factor-returns-in_default-clause-finds : goal.read_factor-returns-in_default-clause-finds
read_factor-returns-in_default-clause-finds t c = none_comes c.next_token.ensures.comes (λ w e. search rules) (λ e. search rules) 0

pub read_formula-returns-then-not-step_over-clause-finds : goal.read_formula-returns-then-not-step_over-clause-finds
read_formula-returns-then-not-step_over-clause-finds t c =
    found_one terms c.args.self.now.lexer.text.now _ _ _ c.in_ok-first.ensures.finds _ c.if-not-step_over.ensures.advances (rw c.in_ok-first.ensures.same_text at c.if-not-step_over.ensures.taken)

pub read_formula-returns-in_err-rest-clause-finds : goal.read_formula-returns-in_err-rest-clause-finds
read_formula-returns-in_err-rest-clause-finds t c =
    rw c.from_residual-in_err-rest.ensures (none_rest terms c.args.self.now.lexer.text.now _ _ _ c.in_ok-first.ensures.finds _ 0 0 (rw c.in_ok-first.ensures.same_text at c.if-not-step_over.ensures.taken) (rw (c.step_over.ensures.same_text, c.in_ok-first.ensures.same_text) at c.in_err-rest.ensures.finds))

pub read_formula-returns-clause-finds : goal.read_formula-returns-clause-finds
read_formula-returns-clause-finds t c =
    found_more terms c.args.self.now.lexer.text.now _ _ _ c.in_ok-first.ensures.finds _ _ _ _ (rw c.in_ok-first.ensures.same_text at c.if-not-step_over.ensures.taken) (rw (c.step_over.ensures.same_text, c.in_ok-first.ensures.same_text) at c.in_ok-rest.ensures.finds) (λ u v left right. c.join.ensures u v either left right (search rules))

pub read_term-returns-then-not-step_over-clause-finds : goal.read_term-returns-then-not-step_over-clause-finds
read_term-returns-then-not-step_over-clause-finds t c =
    found_one factors c.args.self.now.lexer.text.now _ _ _ c.in_ok-first.ensures.finds _ c.if-not-step_over.ensures.advances (rw c.in_ok-first.ensures.same_text at c.if-not-step_over.ensures.taken)

pub read_term-returns-in_err-rest-clause-finds : goal.read_term-returns-in_err-rest-clause-finds
read_term-returns-in_err-rest-clause-finds t c =
    rw c.from_residual-in_err-rest.ensures (none_rest factors c.args.self.now.lexer.text.now _ _ _ c.in_ok-first.ensures.finds _ 0 0 (rw c.in_ok-first.ensures.same_text at c.if-not-step_over.ensures.taken) (rw (c.step_over.ensures.same_text, c.in_ok-first.ensures.same_text) at c.in_err-rest.ensures.finds))

pub read_term-returns-clause-finds : goal.read_term-returns-clause-finds
read_term-returns-clause-finds t c =
    found_more factors c.args.self.now.lexer.text.now _ _ _ c.in_ok-first.ensures.finds _ _ _ _ (rw c.in_ok-first.ensures.same_text at c.if-not-step_over.ensures.taken) (rw (c.step_over.ensures.same_text, c.in_ok-first.ensures.same_text) at c.in_ok-rest.ensures.finds) (λ u v left right. c.join.ensures u v both left right (search rules))
