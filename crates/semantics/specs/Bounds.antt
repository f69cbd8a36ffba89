-- How large a test may be.
use Rattle.std.specs.Prelude.{◌≡◌, ℕ, ◌<◌, ◌≤◌, Bool, true, false, List, length, take, Some, count_by, ◌==◌}
use Rattle.semantics.specs.Program.{location_of, target_of, Names, instruction_at, thread_at}
use Rattle.semantics.specs.declared.instruction.Instruction.{Instruction}
use Rattle.semantics.specs.declared.instruction.Instruction.TheVariants.{Read, Write, Fence, Sum, Difference, Branch}
use Rattle.semantics.specs.declared.placed.Placed.{Placed}

-- whether the instruction writes to location l
abbrev pub is_write_to : ℕ → Instruction → Bool
is_write_to l (Read location target address) = false
is_write_to l (Write location stored address) = location == l
is_write_to l Fence = false
is_write_to l (Sum target first second) = false
is_write_to l (Difference target first second) = false
is_write_to l (Branch source) = false

-- how many of the instructions write to location l
abbrev pub write_count : ℕ → List Placed → ℕ
write_count l ps = count_by (λ p. is_write_to l p.instruction) ps

-- locations are 0 to 3
abbrev pub LocationInBounds : Instruction → Type 0
LocationInBounds i = (l : ℕ) → location_of i ≡ Some l → l < 4

-- registers are 0 to 7, the target and what is named
abbrev pub TargetInBounds : Instruction → Type 0
TargetInBounds i = (r : ℕ) → target_of i ≡ Some r → r < 8

abbrev pub NamedInBounds : Instruction → Type 0
NamedInBounds i = (r : ℕ) → Names i r → r < 8

pub record InBounds (i : Instruction) : Type 0 where
  pub location : LocationInBounds i
  pub target : TargetInBounds i
  pub named : NamedInBounds i

-- threads are 0 to 3
abbrev pub ThreadsInBounds : List Placed → Type 0
ThreadsInBounds ps = (x : ℕ) → thread_at ps x < 4

-- what is said of an instruction holds of each
abbrev pub EachInstruction : (Instruction → Type 0) → List Placed → Type 0
EachInstruction P ps = (x : ℕ) → P (instruction_at ps x)

-- at most four write to a location
abbrev pub FewWrites : List Placed → Type 0
FewWrites ps = (l : ℕ) → write_count l ps ≤ 4

-- the instructions of a test are in bounds
pub record PlacesInBounds (ps : List Placed) : Type 0 where
  pub threads : ThreadsInBounds ps
  pub instructions : EachInstruction InBounds ps
  pub writes : FewWrites ps

-- what a test's fields keep: there are 32 slots, the first of which are its places, and 4 initial values
pub record Bounded (slots : List Placed) (len : ℕ) (initial : List ℕ) : Type 0 where
  pub room : length slots ≡ 32
  pub short : len ≤ 32
  pub locations : length initial ≡ 4
  pub places : PlacesInBounds (take len slots)

-- the instruction would be no fifth write to a location
abbrev pub RoomFor : List Placed → Instruction → Type 0
RoomFor ps i = (l : ℕ) → is_write_to l i ≡ true → write_count l ps < 4
