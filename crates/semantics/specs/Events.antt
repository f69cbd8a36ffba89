-- A test as happens-before and orders see it.
use Rattle.std.specs.Prelude.{◌≡◌, ℕ, ◌<◌, Bool, true, List, length, Some, None, Option, slice_index}
use Rattle.models.specs.declared.Facts.{Facts}
use Rattle.semantics.specs.PairFacts.{HasFacts}
use Rattle.semantics.specs.Program.{ThreadOrder, place_at, thread_at}
use Rattle.semantics.specs.Values.{value_at}
use Rattle.semantics.specs.declared.access.Access.{Access}
use Rattle.semantics.specs.declared.access.Access.TheVariants.{Reading, Writing}
use Rattle.semantics.specs.declared.instruction.Instruction.{Instruction}
use Rattle.semantics.specs.declared.instruction.Instruction.TheVariants.{Read, Write, Fence, Sum, Difference, Branch}
use Rattle.semantics.specs.declared.placed.Placed.{Placed}

-- the instructions of a test by place, their threads and accesses, the initial value of each location, and which
-- pairs of one thread stay in program order
pub record Events : Type 1 where
  pub size : ℕ
  pub thread : ℕ → ℕ
  pub access : ℕ → Option Access
  pub initial : ℕ → ℕ
  pub Kept : ℕ → ℕ → Type 0

-- program order
abbrev pub ProgramOrder : Events → ℕ → ℕ → Type 0
ProgramOrder e x y = ThreadOrder e.size e.thread x y

-- r reads location l, and v is expected
abbrev pub Reads : Events → ℕ → ℕ → ℕ → Type 0
Reads e r l v = (r < e.size) × (e.access r ≡ Some (Reading l v))

-- w writes v to location l
abbrev pub Writes : Events → ℕ → ℕ → ℕ → Type 0
Writes e w l v = (w < e.size) × (e.access w ≡ Some (Writing l v))

-- w writes to location l
abbrev pub WritesTo : Events → ℕ → ℕ → Type 0
WritesTo e l w = (v : ℕ) × Writes e w l v

-- a read of which nothing is expected constrains nothing: no ruling is given on a test that has one
abbrev pub read_access : ℕ → Option ℕ → Option Access
read_access location None = None
read_access location (Some v) = Some (Reading location v)

abbrev pub access_of : List Placed → ℕ → Instruction → Option Access
access_of ps x (Read location target address) = read_access location (place_at ps x).expected
access_of ps x (Write location stored address) = Some (Writing location (value_at ps x stored))
access_of ps x Fence = None
access_of ps x (Sum target first second) = None
access_of ps x (Difference target first second) = None
access_of ps x (Branch source) = None

-- what the instruction at x does to memory, if anything
abbrev pub access_at : List Placed → ℕ → Option Access
access_at ps x = access_of ps x (place_at ps x).instruction

-- a model that keeps these combinations of facts keeps the pair x and y
abbrev pub KeptBy : (Facts → Bool) → List Placed → ℕ → ℕ → Type 0
KeptBy keeps ps x y = (f : Facts) × HasFacts ps x y f × (keeps f ≡ true)

-- the test with these instructions and initial values, under a model that keeps these combinations of facts
abbrev pub events_of : List Placed → List ℕ → (Facts → Bool) → Events
events_of ps initial keeps = record {
  size = length ps;
  thread = thread_at ps;
  access = access_at ps;
  initial = λ l. slice_index initial l;
  Kept = KeptBy keeps ps;
}
