-- What holds of every test and every meaning of a model.
use Rattle.std.specs.Prelude.{◌≡◌, ℕ, ◌<◌, Bool, ◌↔◌, List, length, Some, None}
use Rattle.models.specs.Facts.{Positive}
use Rattle.models.specs.declared.Facts.{Facts}
use Rattle.semantics.specs.Events.{Events, KeptBy, events_of}
use Rattle.semantics.specs.HappensBefore.{Allowed}
use Rattle.semantics.specs.Orders.{Fulfils}
use Rattle.semantics.specs.PairFacts.{NoneBetween, Sets}
use Rattle.semantics.specs.Program.{Precedes, Complete, place_at, instruction_at, thread_at}
use Rattle.semantics.specs.Values.{held, result_of}
use Rattle.semantics.specs.declared.Instruction.{Instruction}
use Rattle.semantics.specs.declared.Instruction.TheVariants.{Read, Write}
use Rattle.semantics.specs.declared.Placed.{Placed}
use Rattle.semantics.specs.declared.Stored.{Stored}

-- some order fulfils the outcome
abbrev pub Fulfillable : Events → Type 0
Fulfillable e = (o : List ℕ) × Fulfils e o

-- for every complete test and every meaning, lawful or not: an admitted choice without a cycle exists exactly when an
-- order exists that fulfils the outcome
abbrev pub Bridge : Type 0
Bridge = (ps : List Placed) (initial : List ℕ) (keeps : Facts → Bool) → Complete ps → Allowed (events_of ps initial keeps) ↔ Fulfillable (events_of ps initial keeps)

-- what is forbidden in the first is forbidden in the second, by happens-before and by orders: each order that fulfils
-- the second fulfils the first too
pub record OnlyForbids (e f : Events) : Type 0 where
  pub orders : (o : List ℕ) → Fulfils f o → Fulfils e o
  pub forbidden : (Allowed e → ⊥) → Allowed f → ⊥

-- a meaning that keeps at least those of the test's pairs that another keeps only forbids
abbrev pub StrongerModels : Type 0
StrongerModels =
    (ps : List Placed) (initial : List ℕ) (keeps more : Facts → Bool)
    → ((x y : ℕ) → Precedes ps x y → KeptBy keeps ps x y → KeptBy more ps x y)
    → OnlyForbids (events_of ps initial keeps) (events_of ps initial more)

-- the second instruction is the first, but that an access which named no address register may name one
pub data Addressed : Instruction → Instruction → Type 0 where
  same : {i : Instruction} → Addressed i i
  read : {location target register : ℕ} → Addressed (Read location target None) (Read location target (Some register))
  write : {location register : ℕ} {stored : Stored} → Addressed (Write location stored None) (Write location stored (Some register))

-- the second test is the first, but for such instructions
pub record AddsAddresses (ps qs : List Placed) : Type 0 where
  pub size : length ps ≡ length qs
  pub thread : (x : ℕ) → (place_at ps x).thread ≡ (place_at qs x).thread
  pub expected : (x : ℕ) → (place_at ps x).expected ≡ (place_at qs x).expected
  pub instruction : (x : ℕ) → Addressed (place_at ps x).instruction (place_at qs x).instruction

-- Naming an address register where there was none only forbids. It turns facts from no to yes and leaves all else, so
-- it holds of every meaning that obeys the law of models. Of other meanings it does not: one that keeps a pair only
-- where there is no dependency would keep less.
abbrev pub AddressDependencies : Type 0
AddressDependencies =
    (ps qs : List Placed) (initial : List ℕ) (keeps : Facts → Bool)
    → Positive keeps
    → AddsAddresses ps qs
    → OnlyForbids (events_of ps initial keeps) (events_of qs initial keeps)

-- before x a register of its thread holds what the last instruction to set it put there, and 0 where there is none
abbrev pub Registers : Type 0
Registers =
    (ps : List Placed) (x r : ℕ)
    → x < length ps
    → ((z : ℕ) → Precedes ps z x → Sets r (instruction_at ps z) → NoneBetween ps z x (Sets r) → held ps (thread_at ps x) x r ≡ result_of (instruction_at ps z) (place_at ps z).expected (held ps (thread_at ps z) z))
    × (((z : ℕ) → Precedes ps z x → Sets r (instruction_at ps z) → ⊥) → held ps (thread_at ps x) x r ≡ 0)
