-- Each reader has fewer bytes left than the one that called it, or as many and stands lower in the grammar.
use Rattle.std.proofs.Common.{◌+◌, ◌-◌, ◌*◌, length}
use Rattle.formulas.proofs.reader.Reader.+grammar.Given as goal

abbrev pub decreases-read_factor : goal.decreases-read_factor
decreases-read_factor l = 3 * (length l.self.now.lexer.text.now - l.self.now.lexer.at)

abbrev pub decreases-read_formula : goal.decreases-read_formula
decreases-read_formula l = 3 * (length l.self.now.lexer.text.now - l.self.now.lexer.at) + 2

abbrev pub decreases-read_term : goal.decreases-read_term
decreases-read_term l = 3 * (length l.self.now.lexer.text.now - l.self.now.lexer.at) + 1
