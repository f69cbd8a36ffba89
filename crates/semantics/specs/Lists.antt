-- Lists of places: what stands in one, and in which order.
use Rattle.std.specs.Prelude.{◌≡◌, ℕ, ◌<◌, List, length, slice_index}

-- x stands in the list
abbrev pub Listed : List ℕ → ℕ → Type 0
Listed o x = (i : ℕ) × (i < length o) × (slice_index o i ≡ x)

-- x stands in the list before y
abbrev pub Before : List ℕ → ℕ → ℕ → Type 0
Before o x y = (i : ℕ) × (j : ℕ) × (i < j) × (j < length o) × (slice_index o i ≡ x) × (slice_index o j ≡ y)

-- the list has each x of which P holds, once, and nothing else
pub record ListsEach (P : ℕ → Type 0) (o : List ℕ) : Type 0 where
  pub every : (x : ℕ) → P x → Listed o x
  pub only : (x : ℕ) → Listed o x → P x
  pub once : (x : ℕ) → Before o x x → ⊥
