-- nothing before the lexer's place is unknown
use Rattle.std.proofs.Common.{◌≡◌, ◌-◌, length}
use Rattle.formulas.proofs.Lexing.{Clear}
use Rattle.formulas.proofs.lexer.check_words.Given as goal

abbrev pub invariant-loop : goal.invariant-loop
invariant-loop l = (l.lexer.text.now ≡ l.text) × Clear l.text l.lexer.at

abbrev pub decreases-loop : goal.decreases-loop
decreases-loop l = length l.text - l.lexer.at
