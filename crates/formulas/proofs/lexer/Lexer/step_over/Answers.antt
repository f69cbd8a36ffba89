use Rattle.std.proofs.Common.{rules}
use borrow.Author.Tests.{tests}
use Rattle.formulas.proofs.Lexing.{first_is, first_is_not}
use Rattle.formulas.proofs.lexer.Lexer.step_over.Goals as goal

pub returns-then-ne-clause-taken : goal.returns-then-ne-clause-taken
returns-then-ne-clause-taken c = first_is_not c.next_token.ensures.comes c.args.sign (λ e. search (rules, tests))

pub returns-clause-taken : goal.returns-clause-taken
returns-clause-taken c = first_is c.next_token.ensures.comes c.args.sign (search (rules, tests))
