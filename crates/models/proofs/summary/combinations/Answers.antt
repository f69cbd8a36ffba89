use Rattle.std.proofs.Common.{true, false, rules, lit<}
use Rattle.models.proofs.summary.combinations.Goals as goal

pub returns-clause-every : goal.returns-clause-every
returns-clause-every c = elim [ false ↦ elim [ false ↦ elim [ false ↦ (0, lit< tt, search rules) | true ↦ (1, lit< tt, search rules) ] | true ↦ elim [ false ↦ (2, lit< tt, search rules) | true ↦ (3, lit< tt, search rules) ] ] | true ↦ elim [ false ↦ elim [ false ↦ (4, lit< tt, search rules) | true ↦ (5, lit< tt, search rules) ] | true ↦ elim [ false ↦ (6, lit< tt, search rules) | true ↦ (7, lit< tt, search rules) ] ] ]
