-- The models that are had by name: each one's name, formula and table.
use Rattle.std.specs.Prelude.{◌≡◌, ℕ, List, [], ◌∷◌, map, codes, Result, MatchResult, ◌≢◌, slice_index_or}
use Rattle.models.specs.Refusals.{told, numbered}
use Rattle.models.specs.Tables.{cell_number, table_keeps}
use Rattle.models.specs.Trees.{Tree, word, both, either, holds}
use Rattle.models.specs.declared.facts.Facts.{Facts}
use Rattle.models.specs.declared.by_name.Named.{Named}
use Rattle.models.specs.declared.by_name.Named.TheVariants.{Sc, Ibm370, Tso, Rmo}
use Rattle.models.specs.declared.formula.Word.TheVariants.{True, ReadX, ReadY, WriteX, WriteY, FenceX, FenceY, SameAddr, DataDep, ControlDep}
use Rattle.models.specs.declared.refusal.Refusal.{Refusal}
use Rattle.models.specs.declared.table.Cell.{Cell}
use Rattle.models.specs.declared.table.Cell.TheVariants.{Free, Always, SameAddr as SameAddress, Dependent, AnyFact}
use Rattle.models.specs.declared.table.Table.{Table}

abbrev pub all_named : List Named
all_named = Sc ∷ Ibm370 ∷ Tso ∷ Rmo ∷ []

abbrev pub name_of : Named → List ℕ
name_of Sc = codes "SC"
name_of Ibm370 = codes "IBM370"
name_of Tso = codes "TSO"
name_of Rmo = codes "RMO"

-- the model with this name, or refusal 17 where no model has it
abbrev pub Finds : List ℕ → Result Named Refusal → Type 0
Finds name r = MatchResult r (λ n. name ≡ name_of n) (λ e. (told e ≡ numbered 17) × ((n : Named) → name ≢ name_of n))

-- SC: true
-- IBM370: Write.x & Read.y & SameAddr | Write.x & Write.y | Read.x | Fence.x | Fence.y
-- TSO: Write.x & Write.y | Read.x | Fence.x | Fence.y
-- RMO: Write.y & SameAddr | Fence.x | Fence.y | DataDep | ControlDep
abbrev pub formula_of : Named → Tree
formula_of Sc = word True
formula_of Ibm370 =
    either (both (word WriteX) (both (word ReadY) (word SameAddr)))
    (either (both (word WriteX) (word WriteY)) (either (word ReadX) (either (word FenceX) (word FenceY))))
formula_of Tso = either (both (word WriteX) (word WriteY)) (either (word ReadX) (either (word FenceX) (word FenceY)))
formula_of Rmo =
    either (both (word WriteY) (word SameAddr))
    (either (word FenceX) (either (word FenceY) (either (word DataDep) (word ControlDep))))

abbrev row : ℕ → ℕ → ℕ → ℕ → ℕ → List ℕ
row a b c d e = a ∷ b ∷ c ∷ d ∷ e ∷ []

-- rows for the earlier instruction: read, write, fence, arithmetic, branch; columns alike for the later one
abbrev pub cells_of : Named → List (List ℕ)
cells_of Sc = row 1 1 1 1 1 ∷ row 1 1 1 1 1 ∷ row 1 1 1 1 1 ∷ row 1 1 1 1 1 ∷ row 1 1 1 1 1 ∷ []
cells_of Ibm370 = row 1 1 1 1 1 ∷ row 2 1 1 0 0 ∷ row 1 1 1 1 1 ∷ row 0 0 1 0 0 ∷ row 0 0 1 0 0 ∷ []
cells_of Tso = row 1 1 1 1 1 ∷ row 0 1 1 0 0 ∷ row 1 1 1 1 1 ∷ row 0 0 1 0 0 ∷ row 0 0 1 0 0 ∷ []
cells_of Rmo = row 3 4 1 3 3 ∷ row 3 4 1 3 3 ∷ row 1 1 1 1 1 ∷ row 3 4 1 3 3 ∷ row 3 4 1 3 3 ∷ []

abbrev cell_with : ℕ → Cell
cell_with n = slice_index_or (Free ∷ Always ∷ SameAddress ∷ Dependent ∷ AnyFact ∷ []) n Free

abbrev pub table_of : Named → Table
table_of n = record { rows = map (λ r. record { cells = map cell_with r }) (cells_of n) }

-- the numbers of a table's cells
abbrev pub numbers_of : Table → List (List ℕ)
numbers_of t = map (λ r. map cell_number r.cells) t.rows

-- the table t is that of the named model n, and keeps just what its formula makes true, at all combinations of facts
pub record Is (n : Named) (t : Table) : Type 0 where
  pub cells : numbers_of t ≡ cells_of n
  pub meaning : (f : Facts) → table_keeps t f ≡ holds (formula_of n) f
