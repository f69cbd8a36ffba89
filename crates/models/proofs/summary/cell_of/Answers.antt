use Rattle.std.proofs.Common.{◌≡◌, ℕ, ◌<◌, Bor, List, [], ◌∷◌, length, Some, None, Option, rules, tests, lit<, lit≤, MatchOption}
use Rattle.std.specs.List.{AllWithin, HoldsAt}
use Rattle.std.specs.Option.{option_copied}
use Rattle.std.proofs.lemmas.Iterator.{first_from_find, YieldsList-from_slice}
use Rattle.models.specs.Summaries.{Describes}
use Rattle.models.specs.declared.table.Cell.{Cell}
use Rattle.models.specs.declared.table.Cell.TheVariants.{Free, Always, SameAddr, Dependent, AnyFact}
use Rattle.models.proofs.summary.cell_of.Goals as goal

abbrev cells : List Cell
cells = Free ∷ Always ∷ SameAddr ∷ Dependent ∷ AnyFact ∷ []

-- what holds within the list of all cells holds of each
at_each : (P : Cell → Type 0) → AllWithin P cells 0 5 → (cell : Cell) → P cell
at_each P all Free = all 0 Free (lit≤ tt) (lit< tt)
at_each P all Always = all 1 Free (lit≤ tt) (lit< tt)
at_each P all SameAddr = all 2 Free (lit≤ tt) (lit< tt)
at_each P all Dependent = all 3 Free (lit≤ tt) (lit< tt)
at_each P all AnyFact = all 4 Free (lit≤ tt) (lit< tt)

-- a cell that was found is such a one, and where none was found none is
found : (P : Cell → Type 0) (r : Option (Bor Cell)) → MatchOption r (AllWithin (λ cell. P cell → ⊥) cells 0 (length cells)) (λ x. P x.now × (i : ℕ) × (i < length cells) × HoldsAt (λ y. y ≡ x.now) cells i × AllWithin (λ cell. P cell → ⊥) cells 0 i) → MatchOption (option_copied r) ((cell : Cell) → P cell → ⊥) P
found P None none = at_each (λ cell. P cell → ⊥) none
found P (Some x) one = one.0

pub returns : goal.returns
returns g c =
    let P : Cell → Type 0 = Describes (g.M.Model.meaning c.args.model.now) c.args.earlier c.args.later in
    let told : MatchOption (option_copied c.find.result) ((cell : Cell) → P cell → ⊥) P = found P c.find.result
    (first_from_find _ _ c.find.result P (λ cell. P cell → ⊥) c.find.ensures.ran (YieldsList-from_slice cells cc) (λ x q k. search (rules, tests)) (λ x q k. search (rules, tests))) in
    search rules
