-- How a test is made, call by call: what is done, and what is refused.
use Rattle.std.specs.Prelude.{◌≡◌, ℕ, ◌-◌, ◌<◌, ◌≤◌, List, [], ◌∷◌, ◌++◌, length, take, Some, None, slice_set}
use Rattle.models.specs.declared.Kind.TheVariants.{Read}
use Rattle.semantics.specs.Bounds.{InBounds, RoomFor}
use Rattle.semantics.specs.Contents.{places_of, initial_of}
use Rattle.semantics.specs.Program.{kind_of, instruction_at, place_at}
use Rattle.semantics.specs.declared.instruction.Instruction.{Instruction}
use Rattle.semantics.specs.declared.placed.Placed.{Placed}
use Rattle.semantics.specs.declared.refusal.Refusal.{Refusal}
use Rattle.semantics.specs.declared.refusal.Refusal.TheVariants.{NoThread, OutOfBounds, Full, FifthWrite, NoRead, Empty}
use Rattle.semantics.specs.declared.test.Test.{Test}

-- an instruction of a thread, of which nothing is expected yet
abbrev pub entered : ℕ → Instruction → Placed
entered t i = record { thread = t; instruction = i; expected = None }

-- the same, with this value expected
abbrev pub expecting : Placed → ℕ → Placed
expecting p v = record { thread = p.thread; instruction = p.instruction; expected = Some v }

-- what must hold for an instruction of a thread to be entered
pub record Enterable (ps : List Placed) (t : ℕ) (i : Instruction) : Type 0 where
  pub thread : t ≤ 3
  pub bounds : InBounds i
  pub place : length ps < 32
  pub writes : RoomFor ps i

-- the instruction is entered at the place x
pub record Entered (old new : Test) (t : ℕ) (i : Instruction) (x : ℕ) : Type 0 where
  pub could : Enterable (places_of old) t i
  pub place : x ≡ length (places_of old)
  pub places : places_of new ≡ places_of old ++ entered t i ∷ []
  pub initial : initial_of new ≡ initial_of old

-- the first of the refusals 1, 2, 3 and 4 that applies
abbrev pub EnterRefused : List Placed → ℕ → Instruction → Refusal → Type 0
EnterRefused ps t i NoThread = 3 < t
EnterRefused ps t i OutOfBounds = (t ≤ 3) × (InBounds i → ⊥)
EnterRefused ps t i Full = (t ≤ 3) × InBounds i × (length ps ≡ 32)
EnterRefused ps t i FifthWrite = (t ≤ 3) × InBounds i × (length ps < 32) × (RoomFor ps i → ⊥)
EnterRefused ps t i NoRead = ⊥
EnterRefused ps t i Empty = ⊥

-- the initial value of location l is v
pub record Preset (old new : Test) (l v : ℕ) : Type 0 where
  pub within : l < 4
  pub places : places_of new ≡ places_of old
  pub initial : initial_of new ≡ slice_set (initial_of old) l v

-- the read at x expects v
pub record Expected (old new : Test) (x v : ℕ) : Type 0 where
  pub within : x < length (places_of old)
  pub read : kind_of (instruction_at (places_of old) x) ≡ Read
  pub places : places_of new ≡ slice_set (places_of old) x (expecting (place_at (places_of old) x) v)
  pub initial : initial_of new ≡ initial_of old

-- the last instruction is gone, with what was expected of it
pub record Struck (old new : Test) : Type 0 where
  pub some : 0 < length (places_of old)
  pub places : places_of new ≡ take (length (places_of old) - 1) (places_of old)
  pub initial : initial_of new ≡ initial_of old
