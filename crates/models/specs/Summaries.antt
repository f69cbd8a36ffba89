-- What a model keeps of the pairs of two kinds, told by one cell.
use Rattle.std.specs.Prelude.{◌≡◌, Bool, List, [], None, Option, MatchOption, slice_index_or}
use Rattle.models.specs.Facts.{index, EachKind}
use Rattle.models.specs.Tables.{cell_keeps}
use Rattle.models.specs.declared.facts.Facts.{Facts}
use Rattle.models.specs.declared.facts.Kind.{Kind}
use Rattle.models.specs.declared.table.Cell.{Cell}

-- a combination of facts
abbrev pub facts : Kind → Kind → Bool → Bool → Bool → Facts
facts x y s d c = record { earlier = x; later = y; same_addr = s; data_dep = d; control_dep = c }

-- whatever the three facts are, the pairs of kinds x and y are kept just where the cell says
abbrev pub Describes : (Facts → Bool) → Kind → Kind → Cell → Type 0
Describes keeps x y cell = (s d c : Bool) → keeps (facts x y s d c) ≡ cell_keeps cell (facts x y s d c)

-- a cell is told that describes them, or none where none does
abbrev pub TellsCell : (Facts → Bool) → Kind → Kind → Option Cell → Type 0
TellsCell keeps x y r = MatchOption r ((cell : Cell) → Describes keeps x y cell → ⊥) (Describes keeps x y)

-- a row of them, for one kind of the earlier instruction: a column for each kind of the later one
abbrev pub TellsRow : (Facts → Bool) → Kind → List (Option Cell) → Type 0
TellsRow keeps x row = EachKind (λ y. TellsCell keeps x y (slice_index_or row (index y) None))

-- a summary of what is kept: a row for each kind of the earlier instruction
abbrev pub Summarizes : (Facts → Bool) → List (List (Option Cell)) → Type 0
Summarizes keeps rows = EachKind (λ x. TellsRow keeps x (slice_index_or rows (index x) []))
