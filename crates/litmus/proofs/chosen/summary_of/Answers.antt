use Rattle.std.proofs.Common.{ℕ, List, subst}
use Rattle.std.proofs.lemmas.Result.{err_from_is_err_and}
use Rattle.formulas.specs.Grammar.{Taken, Refused}
use Rattle.models.specs.Refusals.{told}
use Rattle.models.specs.Trees.{shape}
use Rattle.litmus.proofs.chosen.summary_of.Goals as goal

pub returns-in_err-parse-in-Formula : goal.returns-in_err-parse-in-Formula
returns-in_err-parse-in-Formula c =
    let p = err_from_is_err_and c.from_residual-in_err-parse-in-Formula.result c.from_residual-in_err-parse-in-Formula.ensures.1 in
    rw (c.in-Formula.is, p.1, p.2) (subst (λ (s : List ℕ). Refused s (told c.in_err-parse-in-Formula.field-0.0)) c.as_bytes.ensures.value c.in_err-parse-in-Formula.ensures.answer)

pub returns-in_err-first-in-Either : goal.returns-in_err-first-in-Either
returns-in_err-first-in-Either c =
    let p = err_from_is_err_and c.from_residual-in_err-first-in-Either.result c.from_residual-in_err-first-in-Either.ensures.1 in
    rw (c.in-Either.is, p.1, p.2) c.in_err-first-in-Either.ensures

pub returns-in_err-first-in-Both : goal.returns-in_err-first-in-Both
returns-in_err-first-in-Both c =
    let p = err_from_is_err_and c.from_residual-in_err-first-in-Both.result c.from_residual-in_err-first-in-Both.ensures.1 in
    rw (c.in-Both.is, p.1, p.2) c.in_err-first-in-Both.ensures

pub returns-in_ok-parse-in-Formula : goal.returns-in_ok-parse-in-Formula
returns-in_ok-parse-in-Formula c =
    let f = c.in_ok-parse-in-Formula.field-0 in
    rw c.in-Formula.is (shape f, subst (λ (s : List ℕ). Taken s (shape f)) c.as_bytes.ensures.value c.in_ok-parse-in-Formula.ensures.answer, c.summarize-in-Formula.ensures)
