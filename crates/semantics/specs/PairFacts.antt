-- The facts of an earlier and a later instruction of one thread: x stands before y in program order wherever these are
-- asked for.
use Rattle.std.specs.Prelude.{◌≡◌, ℕ, List, Some}
use Rattle.models.specs.Tells.{Tells}
use Rattle.models.specs.declared.Facts.{Facts}
use Rattle.models.specs.declared.Kind.TheVariants.{Write, Branch}
use Rattle.semantics.specs.Program.{kind_of, location_of, target_of, Names, instruction_at, Precedes}
use Rattle.semantics.specs.declared.instruction.Instruction.{Instruction}
use Rattle.semantics.specs.declared.placed.Placed.{Placed}

-- both are accesses to one location
abbrev pub SameAddr : List Placed → ℕ → ℕ → Type 0
SameAddr ps x y = (l : ℕ) × (location_of (instruction_at ps x) ≡ Some l) × (location_of (instruction_at ps y) ≡ Some l)

-- nothing between x and y in their thread is such an instruction
abbrev pub NoneBetween : List Placed → ℕ → ℕ → (Instruction → Type 0) → Type 0
NoneBetween ps x y Such = (z : ℕ) → Precedes ps x z → Precedes ps z y → Such (instruction_at ps z) → ⊥

-- everything between x and y in their thread is such an instruction
abbrev pub EachBetween : List Placed → ℕ → ℕ → (Instruction → Type 0) → Type 0
EachBetween ps x y Such = (z : ℕ) → Precedes ps x z → Precedes ps z y → Such (instruction_at ps z)

-- something between them is
abbrev pub SomeBetween : List Placed → ℕ → ℕ → (Instruction → Type 0) → Type 0
SomeBetween ps x y Such = (z : ℕ) × Precedes ps x z × Precedes ps z y × Such (instruction_at ps z)

-- the instruction has the register as its target
abbrev pub Sets : ℕ → Instruction → Type 0
Sets r i = target_of i ≡ Some r

abbrev pub IsWrite : Instruction → Type 0
IsWrite i = kind_of i ≡ Write

-- y names the target of x as a source or as its address register, and nothing between them in the thread has that target
abbrev pub DataDep : List Placed → ℕ → ℕ → Type 0
DataDep ps x y = (r : ℕ) × Sets r (instruction_at ps x) × Names (instruction_at ps y) r × NoneBetween ps x y (Sets r)

-- x is a branch, and y is the first write after it in the thread
pub record ControlDep (ps : List Placed) (x y : ℕ) : Type 0 where
  pub branch : kind_of (instruction_at ps x) ≡ Branch
  pub write : IsWrite (instruction_at ps y)
  pub first : NoneBetween ps x y IsWrite

-- f has the facts of x, the earlier, and y, the later of two instructions of one thread
pub record HasFacts (ps : List Placed) (x y : ℕ) (f : Facts) : Type 0 where
  pub earlier : f.earlier ≡ kind_of (instruction_at ps x)
  pub later : f.later ≡ kind_of (instruction_at ps y)
  pub address : Tells f.same_addr (SameAddr ps x y)
  pub dependency : Tells f.data_dep (DataDep ps x y)
  pub control : Tells f.control_dep (ControlDep ps x y)
