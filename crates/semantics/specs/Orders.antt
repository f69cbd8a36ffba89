-- Orders of all instructions that fulfil an outcome.
use Rattle.std.specs.Prelude.{◌≡◌, ℕ, ◌<◌, ◌⊎◌, List}
use Rattle.semantics.specs.Events.{Events, ProgramOrder, Reads, Writes, WritesTo}
use Rattle.semantics.specs.Lists.{Before, ListsEach}

-- w writes to location l, and stands before r in the order or in r's thread
pub record Visible (e : Events) (o : List ℕ) (r l w : ℕ) : Type 0 where
  pub write : WritesTo e l w
  pub before : Before o w r ⊎ ProgramOrder e w r

-- of these writes w is the latest in the order
pub record Latest (e : Events) (o : List ℕ) (r l w : ℕ) : Type 0 where
  pub visible : Visible e o r l w
  pub latest : (u : ℕ) → Visible e o r l u → (u ≡ w) ⊎ Before o u w

-- what a read of location l at r sees: the value of the latest of these writes, or the initial value if there are none
pub data Sees (e : Events) (o : List ℕ) (r l : ℕ) : ℕ → Type 0 where
  written : {w v : ℕ} → Latest e o r l w → Writes e w l v → Sees e o r l v
  untouched : ((w : ℕ) → Visible e o r l w → ⊥) → Sees e o r l (e.initial l)

-- the order fulfils the outcome
pub record Fulfils (e : Events) (o : List ℕ) : Type 0 where
  -- it lists every instruction once
  pub lists : ListsEach (λ x. x < e.size) o
  -- kept pairs of one thread stand in program order
  pub kept : (x y : ℕ) → ProgramOrder e x y → e.Kept x y → Before o x y
  -- writes of one thread to one location stand in program order
  pub writes : (x y l : ℕ) → ProgramOrder e x y → WritesTo e l x → WritesTo e l y → Before o x y
  -- each read sees the expected value
  pub reads : (r l v : ℕ) → Reads e r l v → Sees e o r l v
  -- the write that it sees does not follow it in its thread
  pub own : (r l v w : ℕ) → Reads e r l v → Latest e o r l w → ProgramOrder e r w → ⊥
