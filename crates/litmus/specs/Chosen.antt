-- What is answered about the model that was asked for.
use Rattle.std.specs.Prelude.{◌≡◌, ℕ, List, Option, Result, MatchResult, ◌≢◌}
use Rattle.models.specs.Named.{name_of, formula_of}
use Rattle.models.specs.Pairs.{union, intersection}
use Rattle.models.specs.Refusals.{Told, told, numbered}
use Rattle.models.specs.Summaries.{Summarizes}
use Rattle.models.specs.Tables.{table_keeps, Made, Over}
use Rattle.models.specs.Trees.{Tree, holds}
use Rattle.models.specs.declared.table.Cell.{Cell}
use Rattle.models.specs.declared.by_name.Named.{Named}
use Rattle.models.specs.declared.refusal.Refusal.{Refusal}
use Rattle.models.specs.declared.table.Table.{Table as Grid}
use Rattle.formulas.specs.Grammar.{Taken, Refused}
use Rattle.litmus.specs.declared.request.Choice.{Choice}
use Rattle.litmus.specs.declared.request.Choice.TheVariants.{Name, Formula, Table, Either, Both}

-- the rows summarize what the chosen model keeps
abbrev pub Shows : Choice → List (List (Option Cell)) → Type 0
Shows (Name a) rows = (m : Named) × (a.now ≡ name_of m) × Summarizes (holds (formula_of m)) rows
Shows (Formula text) rows = (t : Tree) × (Taken text.now t) × Summarizes (holds t) rows
Shows (Table numbers) rows = (t : Grid) × (Made numbers t) × Summarizes (table_keeps t) rows
Shows (Either a b) rows =
    (m : Named) × (n : Named) × (a.now ≡ name_of m) × (b.now ≡ name_of n) × Summarizes (union (holds (formula_of m)) (holds (formula_of n))) rows
Shows (Both a b) rows =
    (m : Named) × (n : Named) × (a.now ≡ name_of m) × (b.now ≡ name_of n) × Summarizes (intersection (holds (formula_of m)) (holds (formula_of n))) rows

-- there is no such model, and this is the refusal
abbrev pub Lacks : Choice → Told → Type 0
Lacks (Name a) e = (e ≡ numbered 17) × ((m : Named) → a.now ≢ name_of m)
Lacks (Formula text) e = Refused text.now e
Lacks (Table numbers) e = (e ≡ numbered 18) × Over numbers
Lacks (Either a b) e = (e ≡ numbered 17) × ((m n : Named) → a.now ≡ name_of m → b.now ≢ name_of n)
Lacks (Both a b) e = (e ≡ numbered 17) × ((m n : Named) → a.now ≡ name_of m → b.now ≢ name_of n)

-- the models with these two names, or refusal 17 where one of them is no name
abbrev pub FindsTwo : List ℕ → List ℕ → Result (Named × Named) Refusal → Type 0
FindsTwo a b r =
    MatchResult r
    (λ p. (a ≡ name_of p.0) × (b ≡ name_of p.1))
    (λ e. (told e ≡ numbered 17) × ((m n : Named) → a ≡ name_of m → b ≢ name_of n))

abbrev pub Answers : Choice → Result (List (List (Option Cell))) Refusal → Type 0
Answers c r = MatchResult r (Shows c) (λ e. Lacks c (told e))
