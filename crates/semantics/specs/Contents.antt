-- What a test holds.
use Rattle.std.specs.Prelude.{ℕ, List, [], ◌∷◌, take}
use Rattle.semantics.specs.declared.placed.Placed.{Placed}
use Rattle.semantics.specs.declared.test.Test.{Test}

-- the instructions by place
abbrev pub places_of : Test → List Placed
places_of t = take t.len t.slots

-- the initial values by location
abbrev pub initial_of : Test → List ℕ
initial_of t = t.initial

abbrev pub zeros : List ℕ
zeros = 0 ∷ 0 ∷ 0 ∷ 0 ∷ []
