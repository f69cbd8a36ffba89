-- What registers hold, and what writes store.
use Rattle.std.specs.Prelude.{ℕ, zero, suc, ◌+◌, ◌-◌, ◌%◌, Bool, false, cond, ◌&&◌, List, Some, None, Option, ◌==◌}
use Rattle.semantics.specs.Program.{target_of, place_at, instruction_at, thread_at}
use Rattle.semantics.specs.declared.instruction.Instruction.{Instruction}
use Rattle.semantics.specs.declared.instruction.Instruction.TheVariants.{Read, Write, Fence, Sum, Difference, Branch}
use Rattle.semantics.specs.declared.instruction.Stored.{Stored}
use Rattle.semantics.specs.declared.instruction.Stored.TheVariants.{Constant, Register}
use Rattle.semantics.specs.declared.placed.Placed.{Placed}

-- an expected value; 0 stands in where none is, so that a test that is not complete has values too
abbrev pub expected_value : Option ℕ → ℕ
expected_value None = 0
expected_value (Some v) = v

-- what an instruction puts into its target, where the registers hold what is given: a read yields its expected value,
-- and sums and differences are modulo 256
abbrev pub result_of : Instruction → Option ℕ → (ℕ → ℕ) → ℕ
result_of (Read location target address) expected register = expected_value expected
result_of (Write location stored address) expected register = 0
result_of Fence expected register = 0
result_of (Sum target first second) expected register = (register first + register second) % 256
result_of (Difference target first second) expected register = ((register first + 256) - register second % 256) % 256
result_of (Branch source) expected register = 0

abbrev pub is_target : ℕ → Option ℕ → Bool
is_target r None = false
is_target r (Some t) = t == r

-- whether the instruction is of the thread t and sets its register r
abbrev pub sets_register : Placed → ℕ → ℕ → Bool
sets_register p t r = p.thread == t && is_target r (target_of p.instruction)

-- what register r of the thread t holds once the thread has run its instructions at the first n places:
-- what the last of them that set it put there, and 0 where none did
abbrev pub held : List Placed → ℕ → ℕ → ℕ → ℕ
held ps t zero r = 0
held ps t (suc n) r =
    cond (sets_register (place_at ps n) t r)
    (result_of (instruction_at ps n) (place_at ps n).expected (held ps t n))
    (held ps t n r)

abbrev pub stored_value : Stored → (ℕ → ℕ) → ℕ
stored_value (Constant v) register = v
stored_value (Register r) register = register r

-- the value that a write at x stores, where it stores this
abbrev pub value_at : List Placed → ℕ → Stored → ℕ
value_at ps x stored = stored_value stored (held ps (thread_at ps x) x)

-- the value that the instruction at x stores, if it is a write
abbrev pub stores : List Placed → ℕ → Instruction → Option ℕ
stores ps x (Read location target address) = None
stores ps x (Write location stored address) = Some (value_at ps x stored)
stores ps x Fence = None
stores ps x (Sum target first second) = None
stores ps x (Difference target first second) = None
stores ps x (Branch source) = None
