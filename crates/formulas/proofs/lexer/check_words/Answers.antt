use Rattle.std.proofs.Common.{rules}
use Rattle.formulas.specs.Words.{FirstUnknown}
use Rattle.formulas.proofs.Lexing.{cleared, cleared_all, cleared_more}
use Rattle.formulas.proofs.lexer.check_words.Goals as goal

pub returns-in_err-next_token : goal.returns-in_err-next_token
returns-in_err-next_token c =
    let first : FirstUnknown c.args.text.now c.in_err-next_token.field-0.0 = cleared c.loop.invariant.1 (rw c.loop.invariant.0 at c.in_err-next_token.ensures.comes) in
    search rules

pub loop-preserved : goal.loop-preserved
loop-preserved c = (search rules, cleared_more c.loop.invariant.1 (rw c.loop.invariant.0 at c.in_ok-next_token.ensures.comes) c.if-is_some.ensures)

pub returns : goal.returns
returns c = cleared_all c.loop.invariant.1 (rw c.loop.invariant.0 at c.in_ok-next_token.ensures.comes) c.if-is_some.ensures
