-- What the words of a command line ask for.
use Rattle.std.specs.Prelude.{◌≡◌, ℕ, ◌+◌, ◌<◌, List, [], ◌∷◌, map, length, Some, None, codes, Option, MatchOption}
use Rattle.std.specs.Borrow.{Bor}
use Rattle.std.specs.List.{AllZip}
use Rattle.models.specs.Tables.{cell_number}
use Rattle.models.specs.declared.table.Cell.{Cell}
use Rattle.litmus.specs.declared.request.Choice.{Choice}
use Rattle.litmus.specs.declared.request.Choice.TheVariants.{Name, Formula, Table, Either, Both}
use Rattle.litmus.specs.declared.request.Request.{Request}
use Rattle.litmus.specs.declared.request.Request.TheVariants.{Help, Models, Examples, Keeps}

-- the character that shows a cell: its number's digit, and `?` where there is no cell
abbrev pub shown : Option Cell → ℕ
shown (Some c) = 48 + cell_number c
shown None = 63

-- something of which P holds, or none where P holds of nothing
abbrev pub Finds : {A : Type 0} → (A → Type 0) → Option A → Type 0
Finds {A} P r = MatchOption r ((x : A) → P x → ⊥) P

-- the bytes of each of the borrowed texts
abbrev pub texts : List (Bor (List ℕ)) → List (List ℕ)
texts ws = map (λ x. x.now) ws

-- the byte is the digit of the number n
abbrev pub Digit : ℕ → ℕ → Type 0
Digit byte n = (n < 10) × (byte ≡ 48 + n)

-- the word is five digits, of these numbers
abbrev pub Digits : List ℕ → List ℕ → Type 0
Digits word ns = (length word ≡ 5) × AllZip Digit word ns

-- five words, each the digits of a row
abbrev pub Rows : List (List ℕ) → List (List ℕ) → Type 0
Rows words rows = (length words ≡ 5) × AllZip Digits words rows

-- the words ask for this model
abbrev pub Asks : List (List ℕ) → Choice → Type 0
Asks words (Name n) = words ≡ n.now ∷ []
Asks words (Formula t) = words ≡ codes "formula" ∷ t.now ∷ []
Asks words (Table rows) = (rest : List (List ℕ)) × (words ≡ codes "table" ∷ rest) × Rows rest rows
Asks words (Either a b) = words ≡ codes "either" ∷ a.now ∷ b.now ∷ []
Asks words (Both a b) = words ≡ codes "both" ∷ a.now ∷ b.now ∷ []

-- the words of a whole command ask for this
abbrev pub Requests : List (List ℕ) → Request → Type 0
Requests words Help = words ≡ codes "help" ∷ []
Requests words Models = words ≡ codes "models" ∷ []
Requests words Examples = words ≡ codes "examples" ∷ []
Requests words (Keeps c) = (rest : List (List ℕ)) × (words ≡ codes "keeps" ∷ rest) × Asks rest c
