use Rattle.std.proofs.Common.{max, arith, rules, tests, ap, ◌∙◌}
use Rattle.std.proofs.lemmas.Grind.{common_steps}
use Rattle.formulas.specs.Words.{letter}
use Rattle.formulas.proofs.Lexing.{blank, nothing_comes, known_comes, strange_comes}
use Rattle.formulas.proofs.lexer.Lexer.next_token.Goals as goal

pub returns-then-is_empty-clause-comes : goal.returns-then-is_empty-clause-comes
returns-then-is_empty-clause-comes c =
    let s = c.args.self.now in
    nothing_comes s.text.now s.at _ s.within (c.leading.ensures.counted blank (search (rules, tests))) (grind (arith, common_steps))

pub returns-in_default-clause-comes : goal.returns-in_default-clause-comes
returns-in_default-clause-comes c =
    let s = c.args.self.now in
    strange_comes s.text.now s.at _ s.within (c.leading.ensures.counted blank (search (rules, tests))) (grind (arith, common_steps)) _ (c.max-size.ensures ∙ ap (λ l. max l 1) (c.leading-2.ensures.counted letter (search (rules, tests)))) c.in_default.ensures

pub returns-clause-comes : goal.returns-clause-comes
returns-clause-comes c =
    let s = c.args.self.now in
    known_comes s.text.now s.at _ s.within (c.leading.ensures.counted blank (search (rules, tests))) (grind (arith, common_steps)) _ (c.max-size.ensures ∙ ap (λ l. max l 1) (c.leading-2.ensures.counted letter (search (rules, tests)))) _ c.in-Some.ensures
