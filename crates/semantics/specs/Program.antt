-- A parallel program: instructions by place, each with its thread.
use Rattle.std.specs.Prelude.{◌≡◌, ℕ, ◌<◌, ◌⊎◌, List, length, Some, None, Option, ◌≢◌, slice_index_or}
use Rattle.models.specs.declared.Kind.{Kind}
use Rattle.models.specs.declared.Kind.TheVariants.{Read as ReadKind, Write as WriteKind, Fence as FenceKind, Arithmetic, Branch as BranchKind}
use Rattle.semantics.specs.declared.instruction.Instruction.{Instruction}
use Rattle.semantics.specs.declared.instruction.Instruction.TheVariants.{Read, Write, Fence, Sum, Difference, Branch}
use Rattle.semantics.specs.declared.instruction.Stored.TheVariants.{Register}
use Rattle.semantics.specs.declared.placed.Placed.{Placed}

abbrev pub kind_of : Instruction → Kind
kind_of (Read location target address) = ReadKind
kind_of (Write location stored address) = WriteKind
kind_of Fence = FenceKind
kind_of (Sum target first second) = Arithmetic
kind_of (Difference target first second) = Arithmetic
kind_of (Branch source) = BranchKind

-- the location that a read or a write accesses
abbrev pub location_of : Instruction → Option ℕ
location_of (Read location target address) = Some location
location_of (Write location stored address) = Some location
location_of Fence = None
location_of (Sum target first second) = None
location_of (Difference target first second) = None
location_of (Branch source) = None

-- the register that an instruction sets
abbrev pub target_of : Instruction → Option ℕ
target_of (Read location target address) = Some target
target_of (Write location stored address) = None
target_of Fence = None
target_of (Sum target first second) = Some target
target_of (Difference target first second) = Some target
target_of (Branch source) = None

-- the instruction names the register as a source or as its address register
abbrev pub Names : Instruction → ℕ → Type 0
Names (Read location target address) r = address ≡ Some r
Names (Write location stored address) r = (stored ≡ Register r) ⊎ (address ≡ Some r)
Names Fence r = ⊥
Names (Sum target first second) r = (first ≡ r) ⊎ (second ≡ r)
Names (Difference target first second) r = (first ≡ r) ⊎ (second ≡ r)
Names (Branch source) r = source ≡ r

-- what stands past the last place
abbrev pub nothing : Placed
nothing = record { thread = 0; instruction = Fence; expected = None }

abbrev pub place_at : List Placed → ℕ → Placed
place_at ps x = slice_index_or ps x nothing

abbrev pub instruction_at : List Placed → ℕ → Instruction
instruction_at ps x = (place_at ps x).instruction

abbrev pub thread_at : List Placed → ℕ → ℕ
thread_at ps x = (place_at ps x).thread

-- of n places with these threads, x stands before y in one thread
pub record ThreadOrder (n : ℕ) (thread : ℕ → ℕ) (x y : ℕ) : Type 0 where
  pub earlier : x < y
  pub within : y < n
  pub same : thread x ≡ thread y

-- program order: x stands before y in one thread
abbrev pub Precedes : List Placed → ℕ → ℕ → Type 0
Precedes ps x y = ThreadOrder (length ps) (thread_at ps) x y

-- each read has an expected value
abbrev pub Complete : List Placed → Type 0
Complete ps = (x : ℕ) → x < length ps → kind_of (instruction_at ps x) ≡ ReadKind → (place_at ps x).expected ≢ None
