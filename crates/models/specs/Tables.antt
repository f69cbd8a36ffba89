-- Tables of cells: a row for each kind of the earlier instruction, in it a column for each kind of the later one.
use Rattle.std.specs.Prelude.{◌≡◌, ℕ, ◌<◌, Bool, true, false, ◌||◌, List, [], Result, MatchResult, slice_index, slice_index_or}
use Rattle.models.specs.Facts.{index, kinds}
use Rattle.models.specs.Refusals.{told, numbered}
use Rattle.models.specs.declared.facts.Facts.{Facts}
use Rattle.models.specs.declared.refusal.Refusal.{Refusal}
use Rattle.models.specs.declared.table.Cell.{Cell}
use Rattle.models.specs.declared.table.Cell.TheVariants.{Free, Always, SameAddr, Dependent, AnyFact}
use Rattle.models.specs.declared.table.Row.{Row}
use Rattle.models.specs.declared.table.Table.{Table}

-- a cell's number
abbrev pub cell_number : Cell → ℕ
cell_number Free = 0
cell_number Always = 1
cell_number SameAddr = 2
cell_number Dependent = 3
cell_number AnyFact = 4

-- what a cell keeps of the pairs of its row's and its column's kinds
abbrev pub cell_keeps : Cell → Facts → Bool
cell_keeps Free f = false
cell_keeps Always f = true
cell_keeps SameAddr f = f.same_addr
cell_keeps Dependent f = f.data_dep || f.control_dep
cell_keeps AnyFact f = f.same_addr || (f.data_dep || f.control_dep)

abbrev pub row_of : Table → ℕ → Row
row_of t i = slice_index_or t.rows i (record { cells = [] })

-- the cell in row i and column j
abbrev pub cell_of : Table → ℕ → ℕ → Cell
cell_of t i j = slice_index_or (row_of t i).cells j Free

-- a table keeps what the cell of the two kinds says
abbrev pub table_keeps : Table → Facts → Bool
table_keeps t f = cell_keeps (cell_of t (index f.earlier) (index f.later)) f

-- the number in row i and column j
abbrev pub entry : List (List ℕ) → ℕ → ℕ → ℕ
entry numbers i j = slice_index (slice_index_or numbers i []) j

-- each cell of the table has its number from the numbers
abbrev pub Made : List (List ℕ) → Table → Type 0
Made numbers t = (i j : ℕ) → i < kinds → j < kinds → cell_number (cell_of t i j) ≡ entry numbers i j

-- some number is of no cell
abbrev pub Over : List (List ℕ) → Type 0
Over numbers = (i : ℕ) × (j : ℕ) × (i < kinds) × (j < kinds) × (4 < entry numbers i j)

-- the same of one row
abbrev pub RowMade : List ℕ → Row → Type 0
RowMade numbers r = (j : ℕ) → j < kinds → cell_number (slice_index_or r.cells j Free) ≡ slice_index numbers j

abbrev pub RowOver : List ℕ → Type 0
RowOver numbers = (j : ℕ) × (j < kinds) × (4 < slice_index numbers j)

-- what is made of a number, of the numbers of a row and of those of a table: each cell with its number, or refusal 18
-- where a number is of no cell
abbrev pub MakesCell : ℕ → Result Cell Refusal → Type 0
MakesCell number r = MatchResult r (λ c. cell_number c ≡ number) (λ e. (told e ≡ numbered 18) × (4 < number))

abbrev pub MakesRow : List ℕ → Result Row Refusal → Type 0
MakesRow numbers r = MatchResult r (RowMade numbers) (λ e. (told e ≡ numbered 18) × RowOver numbers)

abbrev pub MakesTable : List (List ℕ) → Result Table Refusal → Type 0
MakesTable numbers r = MatchResult r (Made numbers) (λ e. (told e ≡ numbered 18) × Over numbers)
