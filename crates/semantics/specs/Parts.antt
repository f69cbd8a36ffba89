-- The conditions on an order, part by part, as the functions behind `fulfils` tell them; together they are `Fulfils`.
use Rattle.std.specs.Prelude.{ℕ, Bool, false, ◌⊎◌, List, []}
use Rattle.models.specs.declared.Facts.{Facts}
use Rattle.semantics.specs.Events.{Events, ProgramOrder, Reads, WritesTo, KeptBy, events_of}
use Rattle.semantics.specs.Lists.{Before}
use Rattle.semantics.specs.Orders.{Latest, Sees}
use Rattle.semantics.specs.Program.{Precedes}
use Rattle.semantics.specs.declared.placed.Placed.{Placed}

-- a test with these initial values, where it does not matter what a model keeps
abbrev pub valued : List Placed → List ℕ → Events
valued ps initial = events_of ps initial (λ f. false)

-- where the initial values do not matter either
abbrev pub accesses : List Placed → Events
accesses ps = valued ps []

-- x and y are writes to one location
abbrev pub WritesToOne : Events → ℕ → ℕ → Type 0
WritesToOne e x y = (l : ℕ) × WritesTo e l x × WritesTo e l y

-- the model keeps the pair, or both are writes to one location
abbrev pub MustPrecede : (Facts → Bool) → List Placed → ℕ → ℕ → Type 0
MustPrecede keeps ps x y = KeptBy keeps ps x y ⊎ WritesToOne (accesses ps) x y

-- x stands before y in the order, if it must
abbrev pub Stands : (Facts → Bool) → List Placed → List ℕ → ℕ → ℕ → Type 0
Stands keeps ps o x y = Precedes ps x y → MustPrecede keeps ps x y → Before o x y

abbrev pub StandsAfter : (Facts → Bool) → List Placed → List ℕ → ℕ → Type 0
StandsAfter keeps ps o y = (x : ℕ) → Stands keeps ps o x y

abbrev pub PairsStand : (Facts → Bool) → List Placed → List ℕ → Type 0
PairsStand keeps ps o = (y : ℕ) → StandsAfter keeps ps o y

-- a read at r sees the expected value, and no write that follows it in its thread
pub record ReadStands (ps : List Placed) (initial : List ℕ) (o : List ℕ) (r : ℕ) : Type 0 where
  pub sees : (l v : ℕ) → Reads (accesses ps) r l v → Sees (valued ps initial) o r l v
  pub own : (l v w : ℕ) → Reads (accesses ps) r l v → Latest (accesses ps) o r l w → ProgramOrder (accesses ps) r w → ⊥

abbrev pub ReadsStand : List Placed → List ℕ → List ℕ → Type 0
ReadsStand ps initial o = (r : ℕ) → ReadStands ps initial o r
