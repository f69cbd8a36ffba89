-- Happens-before: what "allowed" means.
use Rattle.std.specs.Prelude.{◌≡◌, ℕ, List, Some, None, Option, ◌≢◌}
use Rattle.semantics.specs.Events.{Events, ProgramOrder, Reads, Writes, WritesTo}
use Rattle.semantics.specs.Lists.{Before, ListsEach}

-- a reads-from map, which gives each read a write or none, and a coherence order, which arranges each location's writes
pub record Choice : Type 0 where
  pub source : ℕ → Option ℕ
  pub arranged : ℕ → List ℕ

-- v is later than w in the coherence order of a location
abbrev pub CoherenceBefore : Choice → ℕ → ℕ → Type 0
CoherenceBefore c w v = (l : ℕ) × Before (c.arranged l) w v

-- each read has a write to its location with the expected value, and none later in its own thread; or no write, if the
-- initial value is the expected one
pub record ReadsFrom (e : Events) (c : Choice) : Type 0 where
  pub value : (r l v w : ℕ) → Reads e r l v → c.source r ≡ Some w → Writes e w l v
  pub own : (r l v w : ℕ) → Reads e r l v → c.source r ≡ Some w → ProgramOrder e r w → ⊥
  pub initial : (r l v : ℕ) → Reads e r l v → c.source r ≡ None → e.initial l ≡ v

-- each location's writes are arranged, each once
abbrev pub ArrangesWrites : Events → Choice → Type 0
ArrangesWrites e c = (l : ℕ) → ListsEach (WritesTo e l) (c.arranged l)

-- the direct edges
pub data Edge (e : Events) (c : Choice) : ℕ → ℕ → Type 0 where
  -- from an earlier to a later instruction of a thread, if the model keeps the pair
  preserved : {x y : ℕ} → ProgramOrder e x y → e.Kept x y → Edge e c x y
  -- from a write to each later one in coherence
  coherence : {w v : ℕ} → CoherenceBefore c w v → Edge e c w v
  -- from a write to a read of another thread that it feeds
  external_reads_from : {w r l v : ℕ} → Reads e r l v → c.source r ≡ Some w → (e.thread w ≢ e.thread r) → Edge e c w r
  -- from a read to each write of its location that follows its writer in coherence
  from_read : {w r l v u : ℕ} → Reads e r l v → c.source r ≡ Some w → CoherenceBefore c w u → Edge e c r u
  -- from a read that has no writer to each write of its location
  from_initial_read : {r l v u : ℕ} → Reads e r l v → c.source r ≡ None → WritesTo e l u → Edge e c r u

-- no direct edge goes against program order
abbrev pub Admitted : Events → Choice → Type 0
Admitted e c = (x y : ℕ) → Edge e c x y → ProgramOrder e y x → ⊥

-- x happens before y: one edge after another
pub data Path (e : Events) (c : Choice) : ℕ → ℕ → Type 0 where
  last : {x y : ℕ} → Edge e c x y → Path e c x y
  then : {x y z : ℕ} → Edge e c x y → Path e c y z → Path e c x z

abbrev pub Acyclic : Events → Choice → Type 0
Acyclic e c = (x : ℕ) → Path e c x x → ⊥

-- a choice that shows how the outcome can come about
pub record Explains (e : Events) (c : Choice) : Type 0 where
  pub reads_from : ReadsFrom e c
  pub arranges : ArrangesWrites e c
  pub admitted : Admitted e c
  pub acyclic : Acyclic e c

-- the outcome is allowed
abbrev pub Allowed : Events → Type 0
Allowed e = (c : Choice) × Explains e c
