use Rattle.std.proofs.Common.{◌≡◌, ℕ, List, Ok, arith}
use Rattle.std.proofs.lemmas.Grind.{common_steps}
use Rattle.formulas.specs.Words.{Unknown, Tokens}
use Rattle.formulas.specs.declared.token.Token.{Token}
use Rattle.formulas.proofs.reader.screen.Goals as goal
use Rattle.formulas.proofs.reader.screen.Goals.{In_ok-map_err}

words : (c : In_ok-map_err) → ((p : ℕ) → Unknown c.args.text.now p → ⊥) × ((ts : List Token) × Tokens c.args.text.now 0 ts)
words c =
    let known : c.check_words.result ≡ Ok tt = grind (arith, common_steps) in
    rw known at c.check_words.ensures

pub returns-then-too_deep : goal.returns-then-too_deep
returns-then-too_deep c = (omega arith, (words (goal.at.returns-then-too_deep c).In_ok-map_err).0, c.if-too_deep.ensures)

pub returns : goal.returns
returns c =
    let known = words (goal.at.returns c).In_ok-map_err in
    (record { short = omega arith; known = known.0; shallow = c.if-too_deep.ensures }, known.1)
